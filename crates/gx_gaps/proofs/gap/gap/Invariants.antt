use Rattle.std.proofs.Common.{◌≡◌, ◌≤◌, ◌+◌, length}
use Rattle.gx_grammar.specs.Gaps.{behind_gap, seen_gap}
use Rattle.gx_base.specs.NameCharacters.{is_xml_character}
use Rattle.gx_gaps.proofs.gap.gap.Given as goal

abbrev pub invariant-loop-next : goal.invariant-loop-next
invariant-loop-next l = record {
  behind : behind_gap is_xml_character l.depth l.rest ≡ behind_gap is_xml_character 0 l.fn.text;
  seen : seen_gap is_xml_character l.depth l.rest ≡ seen_gap is_xml_character 0 l.fn.text;
  bounded : l.depth + length l.rest ≤ length l.fn.text;
}

abbrev pub decreases-loop-next : goal.decreases-loop-next
decreases-loop-next l = length l.rest

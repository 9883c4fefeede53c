use Rattle.std.proofs.Common.{◌≡◌, ◌≤◌, true, take, drop, length}
use Rattle.gx_grammar.specs.Tokens.{all_pass}
use Rattle.gx_xml.specs.Plain.{is_plain_character}
use Rattle.gx_xml.specs.declared.plain.Plain.TheVariants as plain
use Rattle.gx_xml.proofs.plain.text_in_parts.Given as goal

abbrev pub invariant-loop-left : goal.invariant-loop-left
invariant-loop-left l = record {
  behind : l.left ≡ drop l.count l.bytes;
  within : l.count ≤ length l.bytes;
  plain : all_pass (is_plain_character plain.Text) (take l.count l.bytes) ≡ true;
}

abbrev pub decreases-loop-left : goal.decreases-loop-left
decreases-loop-left l = length l.left

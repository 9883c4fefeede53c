use Rattle.std.proofs.Common.{◌≡◌, ◌≤◌, ◌-◌, true, take, length}
use Rattle.gx_grammar.specs.Tokens.{all_pass}
use Rattle.gx_xml.specs.Plain.{is_plain_character}
use Rattle.gx_xml.proofs.plain.Plain.count.Given as goal

abbrev pub invariant-loop-count : goal.invariant-loop-count
invariant-loop-count l = record {
  within : l.count ≤ length l.bytes;
  plain : all_pass (is_plain_character l.self) (take l.count l.bytes) ≡ true;
}

abbrev pub decreases-loop-count : goal.decreases-loop-count
decreases-loop-count l = length l.bytes - l.count

use Rattle.std.proofs.Common.{◌≡◌, length}
use Rattle.gx_grammar.specs.Tokens.{strip, behind_common}
use Rattle.gx_xml.specs.Characters.{spelled}
use Rattle.gx_xml.proofs.scan.behind_spelling.Given as goal

abbrev pub invariant-loop-letter : goal.invariant-loop-letter
invariant-loop-letter l = record {
  stripped : strip (spelled l.left) (spelled l.rest) ≡ strip (spelled l.fn.letters) (spelled l.fn.text);
  common : behind_common (spelled l.left) (spelled l.rest) ≡ behind_common (spelled l.fn.letters) (spelled l.fn.text);
}

abbrev pub decreases-loop-letter : goal.decreases-loop-letter
decreases-loop-letter l = length (spelled l.left)

use Rattle.std.proofs.Common.{◌≡◌, drop}
use Rattle.gx_grammar.specs.Tokens.{strip, behind_common}
use Rattle.gx_xml.specs.Characters.{spelled}
use Rattle.gx_xml.proofs.scan.behind_letters.Given as goal

abbrev pub invariant-loop-letter : goal.invariant-loop-letter
invariant-loop-letter l = record {
  stripped : strip (drop l.letter-index l.letters) (spelled l.rest) ≡ strip l.letters (spelled l.fn.text);
  common : behind_common (drop l.letter-index l.letters) (spelled l.rest) ≡ behind_common l.letters (spelled l.fn.text);
}

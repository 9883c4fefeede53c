use Rattle.std.proofs.Common.{◌≡◌, drop}
use Rattle.gx_grammar.specs.Tokens.{strip, behind_common}
use Rattle.gx_parse_tokens.proofs.scan.behind_letters.Given as goal

abbrev pub invariant-loop-letter : goal.invariant-loop-letter
invariant-loop-letter l = record {
  stripped : strip (drop l.letter-index l.letters) l.rest ≡ strip l.letters l.fn.text;
  common : behind_common (drop l.letter-index l.letters) l.rest ≡ behind_common l.letters l.fn.text;
}

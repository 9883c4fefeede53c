use Rattle.std.proofs.Common.{◌≡◌, drop}
use Rattle.gx_parse_grammar.specs.Numeral.{any_digit}
use Rattle.gx_parse_tokens.proofs.numbers.any_digit.Given as goal

abbrev pub invariant-loop-character : goal.invariant-loop-character
invariant-loop-character l = any_digit (drop l.character-index l.text) ≡ any_digit l.text

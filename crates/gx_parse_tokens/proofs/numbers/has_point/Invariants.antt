use Rattle.std.proofs.Common.{◌≡◌, drop}
use Rattle.gx_parse_grammar.specs.Numeral.{has_point}
use Rattle.gx_parse_tokens.proofs.numbers.has_point.Given as goal

abbrev pub invariant-loop-character : goal.invariant-loop-character
invariant-loop-character l = has_point (drop l.character-index l.text) ≡ has_point l.text

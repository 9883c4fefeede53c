use Rattle.std.proofs.Common.{◌≡◌, length}
use Rattle.gx_grammar.specs.Tokens.{behind_run}
use Rattle.gx_parse_grammar.specs.Characters.{is_digit}
use Rattle.gx_parse_tokens.proofs.numbers.behind_digits.Given as goal

abbrev pub invariant-loop-rest : goal.invariant-loop-rest
invariant-loop-rest l = behind_run is_digit l.rest ≡ behind_run is_digit l.fn.text

abbrev pub decreases-loop-rest : goal.decreases-loop-rest
decreases-loop-rest l = length l.rest

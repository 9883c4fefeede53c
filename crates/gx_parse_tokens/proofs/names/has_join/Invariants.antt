use Rattle.std.proofs.Common.{◌≡◌, length}
use Rattle.gx_parse_grammar.specs.Tokens.{has_join}
use Rattle.gx_parse_tokens.proofs.names.has_join.Given as goal

abbrev pub invariant-loop-rest : goal.invariant-loop-rest
invariant-loop-rest l = has_join l.rest ≡ has_join l.fn.text

abbrev pub decreases-loop-rest : goal.decreases-loop-rest
decreases-loop-rest l = length l.rest

use Rattle.std.proofs.Common.{None}
use Rattle.gx_parse_grammar.specs.Bound.{position_made}
use Rattle.gx_parse_types.proofs.binding.for_position.Goals as goal

pub returns-in_default : goal.returns-in_default
returns-in_default c = λ n. let done = rw c.in_default.is at (c.position.ensures n) in done.1 (position_made None)

pub returns : goal.returns
returns c = λ n. c.in-Some.ensures n

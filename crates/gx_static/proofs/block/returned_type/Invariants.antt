use Rattle.std.proofs.Common.{◌≡◌, length}
use Rattle.gx_static.specs.Rule.{allows_key, returned_rule}
use Rattle.gx_static.proofs.block.returned_type.Given as goal

-- what is left of the keys and of the types is ruled as all of them are
abbrev pub invariant-loop-order : goal.invariant-loop-order
invariant-loop-order l = returned_rule (allows_key l.schemas) l.rest l.fn.tuples l.left ≡ returned_rule (allows_key l.schemas) l.keys l.fn.tuples l.types

abbrev pub decreases-loop-order : goal.decreases-loop-order
decreases-loop-order l = length l.rest

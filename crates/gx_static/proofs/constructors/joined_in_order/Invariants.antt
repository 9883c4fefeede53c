use Rattle.std.proofs.Common.{◌≡◌, length}
use Rattle.gx_static.specs.Rule.{joined_in_order}
use Rattle.gx_static.proofs.ConstructorLemmas.{joined_before}
use Rattle.gx_static.proofs.constructors.joined_in_order.Given as goal

-- what is left in front of what is joined comes to all
abbrev pub invariant-loop-last : goal.invariant-loop-last
invariant-loop-last l = joined_before l.left l.joined ≡ joined_in_order l.fn.parts

abbrev pub decreases-loop-last : goal.decreases-loop-last
decreases-loop-last l = length l.left

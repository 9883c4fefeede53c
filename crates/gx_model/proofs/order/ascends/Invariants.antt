use Rattle.std.proofs.Common.{◌≡◌, length}
use Rattle.gx_model.specs.DocumentOrder.{ascends}
use Rattle.gx_model.proofs.order.ascends.Given as goal

-- those that are left ascend where all do
abbrev pub invariant-loop-first : goal.invariant-loop-first
invariant-loop-first l = ascends l.rest ≡ ascends l.fn.nodes

abbrev pub decreases-loop-first : goal.decreases-loop-first
decreases-loop-first l = length l.rest

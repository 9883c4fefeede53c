use Rattle.std.proofs.Common.{◌≡◌, length}
use Rattle.gx_store.specs.NumberOrder.{numbers_ascend}
use Rattle.gx_store.proofs.order.ascends.Given as goal

-- those that are left ascend where all do
abbrev pub invariant-loop-first : goal.invariant-loop-first
invariant-loop-first l = numbers_ascend l.rest ≡ numbers_ascend l.fn.nodes

abbrev pub decreases-loop-first : goal.decreases-loop-first
decreases-loop-first l = length l.rest

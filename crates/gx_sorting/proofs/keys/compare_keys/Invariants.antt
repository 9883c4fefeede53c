use Rattle.std.proofs.Common.{◌≡◌, length}
use Rattle.gx_sorting.specs.KeyComparison.{keys_cmp}
use Rattle.gx_sorting.proofs.keys.compare_keys.Given as goal

abbrev pub invariant-loop-order : goal.invariant-loop-order
invariant-loop-order l = keys_cmp l.fn.orders l.fn.a l.fn.b ≡ keys_cmp l.rest l.first l.second

abbrev pub decreases-loop-order : goal.decreases-loop-order
decreases-loop-order l = length l.rest

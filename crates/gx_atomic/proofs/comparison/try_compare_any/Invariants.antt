use Rattle.std.proofs.Common.{◌≡◌, drop}
use Rattle.gx_atomic.specs.Comparison.{general_comparison}
use Rattle.gx_atomic.proofs.comparison.try_compare_any.Given as goal

-- the items that are left decide as all do
abbrev pub invariant-loop-left : goal.invariant-loop-left
invariant-loop-left l = general_comparison l.op (drop l.left-index l.a) l.b ≡ general_comparison l.op l.a l.b

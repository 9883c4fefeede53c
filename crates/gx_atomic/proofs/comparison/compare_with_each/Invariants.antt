use Rattle.std.proofs.Common.{◌≡◌, [], ◌∷◌, drop}
use Rattle.gx_atomic.specs.Comparison.{general_comparison}
use Rattle.gx_atomic.proofs.comparison.compare_with_each.Given as goal

-- the items that are left decide as all do
abbrev pub invariant-loop-right : goal.invariant-loop-right
invariant-loop-right l = general_comparison l.op (l.left ∷ []) (drop l.right-index l.b) ≡ general_comparison l.op (l.left ∷ []) l.b

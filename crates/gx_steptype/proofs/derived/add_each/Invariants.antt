use Rattle.std.proofs.Common.{◌≡◌, ◌++◌, drop, map}
use Rattle.gx_steptype.proofs.derived.add_each.Given as goal

-- what was added, and what stands for the rest
abbrev pub invariant-loop-kind : goal.invariant-loop-kind
invariant-loop-kind g l = l.types.items ++ map (g.T.OfType.of l.of) (drop l.kind-index l.kinds) ≡ l.fn.types.items ++ map (g.T.OfType.of l.of) l.kinds

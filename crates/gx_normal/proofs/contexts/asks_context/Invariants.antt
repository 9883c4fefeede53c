use Rattle.std.proofs.Common.{◌≡◌}
use Rattle.gx_normal.specs.Asking.{any_asks}
use Rattle.gx_normal.specs.Contexts.{asks_context}
use Rattle.gx_normal.proofs.contexts.asks_context.Given as goal

-- what is left asks it where the tree does
abbrev pub invariant-loop : goal.invariant-loop
invariant-loop l = any_asks l.what l.left ≡ asks_context l.what l.tree

use Rattle.std.proofs.Common.{◌≡◌, ◌++◌, filter}
use Rattle.gx_model.specs.Forest.{Forest}
use Rattle.gx_model.specs.Growth.{Extends}
use Rattle.gx_store.specs.Places.{node_places, passes_on}
use Rattle.gx_store.proofs.store.Store.push_passing.Given as goal

-- what was kept, and what of the rest passes
abbrev pub invariant-loop-node : goal.invariant-loop-node
invariant-loop-node l = (later : Forest) → Extends l.self later
    → node_places later l.found.items ++ filter (passes_on l.schemas l.self l.axis l.test) (node_places later l.node-iterator)
    ≡ node_places later l.fn.found.items ++ filter (passes_on l.schemas l.self l.axis l.test) (node_places later l.fn.nodes)

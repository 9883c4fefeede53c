use Rattle.std.proofs.Common.{◌≡◌, ◌++◌, reverse}
use Rattle.gx_model.specs.Forest.{Forest}
use Rattle.gx_model.specs.Growth.{Extends}
use Rattle.gx_nodes.specs.Entries.{place_of_number}
use Rattle.gx_nodes.specs.Near.{ancestors_in}
use Rattle.gx_store.specs.Places.{node_places}
use Rattle.gx_store.proofs.store.Store.ancestors.Given as goal

-- what is above here, and what was found, the last first
abbrev pub invariant-loop-parent : goal.invariant-loop-parent
invariant-loop-parent l = (later : Forest) → Extends l.self later
    → ancestors_in l.self (place_of_number later l.here.number) ++ node_places later (reverse l.found.items) ≡ ancestors_in l.self (place_of_number later l.fn.node.number)

abbrev pub decreases-loop-parent : goal.decreases-loop-parent
decreases-loop-parent l = l.here.number

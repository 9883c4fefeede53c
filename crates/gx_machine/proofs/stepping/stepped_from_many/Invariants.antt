use Rattle.std.proofs.Common.{◌≡◌, ◌++◌, map, drop}
use Rattle.gx_model.specs.Forest.{Forest}
use Rattle.gx_model.specs.Growth.{Extends}
use Rattle.gx_model.specs.Item.{Items, node}
use Rattle.gx_core.specs.PathLaws.{stepped_from_each}
use Rattle.gx_store.specs.Items.{items_in}
use Rattle.gx_store.specs.Places.{node_places}
use Rattle.gx_machine.proofs.stepping.stepped_from_many.Given as goal

-- the nodes so far, and the steps from the items that are left
abbrev pub invariant-loop-item : goal.invariant-loop-item
invariant-loop-item l =
    (later : Forest) (done : Items) → Extends l.store later
    → stepped_from_each l.schemas l.axis l.test (done ++ map node (node_places later l.found.items)) (items_in later (drop l.item-index l.operand)) l.store
    ≡ stepped_from_each l.schemas l.axis l.test done (items_in later l.operand) l.store

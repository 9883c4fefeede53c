use Rattle.std.proofs.Common.{◌≡◌, Some, drop}
use Rattle.gx_model.specs.Atomization.{atomized, joined_values}
use Rattle.gx_model.specs.Forest.{Forest}
use Rattle.gx_model.specs.Growth.{Extends}
use Rattle.gx_store.specs.Items.{items_in}
use Rattle.gx_machine.proofs.nodes.atomized.Given as goal

-- the typed values so far, and those of the items that are left
abbrev pub invariant-loop-item : goal.invariant-loop-item
invariant-loop-item l =
    (later : Forest) → Extends l.store later
    → joined_values (Some (items_in later l.typed.items)) (atomized l.schemas l.store (items_in later (drop l.item-index l.items))) ≡ atomized l.schemas l.store (items_in later l.items)

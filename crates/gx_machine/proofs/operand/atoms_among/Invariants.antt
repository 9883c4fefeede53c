use Rattle.std.proofs.Common.{◌≡◌, take}
use Rattle.gx_model.specs.Forest.{Forest}
use Rattle.gx_model.specs.Item.{atoms}
use Rattle.gx_store.specs.Items.{items_in}
use Rattle.gx_machine.proofs.operand.atoms_among.Given as goal

-- the items so far are these atomic values
abbrev pub invariant-loop-item : goal.invariant-loop-item
invariant-loop-item l = (later : Forest) → items_in later (take l.item-index l.items) ≡ atoms l.values.items

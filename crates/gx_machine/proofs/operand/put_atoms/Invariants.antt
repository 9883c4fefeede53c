use Rattle.std.proofs.Common.{◌≡◌, ◌++◌, take}
use Rattle.gx_model.specs.Forest.{Forest}
use Rattle.gx_model.specs.Item.{atoms}
use Rattle.gx_store.specs.Items.{items_in}
use Rattle.gx_machine.proofs.operand.put_atoms.Given as goal

-- copies of the atomic values so far stand behind the values
abbrev pub invariant-loop-value : goal.invariant-loop-value
invariant-loop-value l = (later : Forest) → items_in later l.values.items ≡ items_in later l.fn.values.items ++ atoms (take l.value-index l.added)

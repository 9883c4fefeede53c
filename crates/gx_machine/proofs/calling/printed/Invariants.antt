use Rattle.std.proofs.Common.{◌≡◌, map, take}
use Rattle.gx_model.specs.Forest.{Forest}
use Rattle.gx_core.specs.Calling.{text_of_value}
use Rattle.gx_store.specs.Items.{items_in}
use Rattle.gx_machine.proofs.calling.printed.Given as goal

-- the texts of the values so far
abbrev pub invariant-loop-value : goal.invariant-loop-value
invariant-loop-value l = (later : Forest) → l.texts.items ≡ map text_of_value (items_in later (take l.value-index l.values))

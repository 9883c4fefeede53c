use Rattle.std.proofs.Common.{◌≡◌, ◌++◌}
use Rattle.gx_model.specs.Forest.{Forest}
use Rattle.gx_model.specs.Item.{atoms}
use Rattle.gx_core.specs.Ranging.{integers_from}
use Rattle.gx_store.specs.Items.{items_in}
use Rattle.gx_machine.proofs.range.put_integers.Given as goal

-- so many integers stand behind the values
abbrev pub invariant-loop-offset : goal.invariant-loop-offset
invariant-loop-offset l = (later : Forest) → items_in later l.values.items ≡ items_in later l.fn.values.items ++ atoms (integers_from l.fn.first l.offset)

use Rattle.std.proofs.Common.{◌≡◌, List, map, take}
use Rattle.gx_facets.specs.declared.Atomic.{Atomic}
use Rattle.gx_atomic.specs.JoinKey.{join_key_of}
use Rattle.gx_model.specs.Forest.{Forest}
use Rattle.gx_model.specs.Item.{atoms}
use Rattle.gx_store.specs.Items.{items_in}
use Rattle.gx_machine.proofs.joining.keys_of.Given as goal

-- the items so far are atomic values whose keys these are
abbrev pub invariant-loop-item : goal.invariant-loop-item
invariant-loop-item l = (later : Forest) → (values : List Atomic) × (items_in later (take l.item-index l.items) ≡ atoms values) × (map join_key_of values ≡ l.keys.items)

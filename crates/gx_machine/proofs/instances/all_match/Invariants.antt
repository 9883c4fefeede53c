use Rattle.std.proofs.Common.{◌≡◌, length}
use Rattle.std.specs.List.{list_all}
use Rattle.gx_model.specs.Forest.{Forest}
use Rattle.gx_model.specs.Growth.{Extends}
use Rattle.gx_core.specs.Instances.{item_matches}
use Rattle.gx_store.specs.Items.{items_in}
use Rattle.gx_machine.proofs.instances.all_match.Given as goal

-- all that are left match where all match
abbrev pub invariant-loop-value : goal.invariant-loop-value
invariant-loop-value l = (later : Forest) → Extends l.store later
    → list_all (item_matches l.schemas l.store l.kind) (items_in later l.rest) ≡ list_all (item_matches l.schemas l.store l.kind) (items_in later l.fn.values)

abbrev pub decreases-loop-value : goal.decreases-loop-value
decreases-loop-value l = length l.rest

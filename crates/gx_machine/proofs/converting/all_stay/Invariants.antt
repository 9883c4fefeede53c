use Rattle.std.proofs.Common.{◌≡◌, length}
use Rattle.std.specs.List.{list_all}
use Rattle.gx_model.specs.Forest.{Forest}
use Rattle.gx_store.specs.Items.{items_in}
use Rattle.gx_machine.specs.Converting.{is_left_alone}
use Rattle.gx_machine.proofs.converting.all_stay.Given as goal

-- it is so of the items that are left where it is so of all
abbrev pub invariant-loop-item : goal.invariant-loop-item
invariant-loop-item l = (later : Forest) → list_all (is_left_alone l.kind) (items_in later l.rest) ≡ list_all (is_left_alone l.kind) (items_in later l.fn.items)

abbrev pub decreases-loop-item : goal.decreases-loop-item
decreases-loop-item l = length l.rest

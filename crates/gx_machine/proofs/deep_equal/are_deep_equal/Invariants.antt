use Rattle.std.proofs.Common.{◌≡◌, length}
use Rattle.gx_model.specs.Forest.{Forest}
use Rattle.gx_model.specs.Growth.{Extends}
use Rattle.gx_core.specs.DeepEqual.{are_deep_equal}
use Rattle.gx_store.specs.Items.{items_in}
use Rattle.gx_machine.proofs.deep_equal.are_deep_equal.Given as goal

-- the sequences are equal where what is left of them is
abbrev pub invariant-loop-x : goal.invariant-loop-x
invariant-loop-x l = (later : Forest) → Extends l.store later
    → are_deep_equal l.store (items_in later l.xs) (items_in later l.ys) ≡ are_deep_equal l.store (items_in later l.left) (items_in later l.others)

abbrev pub decreases-loop-x : goal.decreases-loop-x
decreases-loop-x l = length l.left

use Rattle.std.proofs.Common.{◌≡◌, ◌++◌, length}
use Rattle.gx_model.specs.Forest.{Forest}
use Rattle.gx_core.specs.Converting.{items_converted}
use Rattle.gx_core.specs.Outcome.{gives, after}
use Rattle.gx_store.specs.Items.{items_in}
use Rattle.gx_machine.proofs.converting.untyped_cast.Given as goal

-- the items that are left behind those that are converted come to all of them
abbrev pub invariant-loop-item : goal.invariant-loop-item
invariant-loop-item l =
    (forest later : Forest)
    → after (items_converted l.schemas l.kind (items_in later l.rest) forest) (λ values left. gives (items_in later l.found.items ++ values) left)
    ≡ items_converted l.schemas l.kind (items_in later l.typed) forest

abbrev pub decreases-loop-item : goal.decreases-loop-item
decreases-loop-item l = length l.rest

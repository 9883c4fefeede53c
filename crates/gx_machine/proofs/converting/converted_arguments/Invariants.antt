use Rattle.std.proofs.Common.{◌≡◌, ◌++◌, length}
use Rattle.gx_model.specs.Forest.{Forest}
use Rattle.gx_model.specs.Growth.{Extends}
use Rattle.gx_core.specs.Converting.{arguments_converted}
use Rattle.gx_core.specs.Outcome.{gives, after}
use Rattle.gx_machine.specs.BoundItems.{bounds_in}
use Rattle.gx_machine.proofs.converting.converted_arguments.Given as goal

-- the arguments that are left behind those that are converted come to all of them
abbrev pub invariant-loop-argument : goal.invariant-loop-argument
invariant-loop-argument l =
    (later : Forest) → Extends l.store later
    → after (arguments_converted l.schemas l.rest (bounds_in later l.arguments) l.store) (λ values left. gives (bounds_in later l.found.items ++ values) left)
    ≡ arguments_converted l.schemas l.parameters (bounds_in later l.fn.arguments) l.store

abbrev pub decreases-loop-argument : goal.decreases-loop-argument
decreases-loop-argument l = length l.arguments

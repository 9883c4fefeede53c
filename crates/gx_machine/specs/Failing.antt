-- What a failure of the evaluator says; want of memory says nothing.
use Rattle.std.specs.Prelude.{◌≡◌}
use Rattle.gx_model.specs.Item.{Items}
use Rattle.gx_core.specs.Outcome.{Outcome, raises, wrong}
use Rattle.gx_machine.specs.declared.failure.Failure.{Failure}
use Rattle.gx_machine.specs.declared.failure.Failure.TheVariants.{Raised, Wrong, Memory}

-- the outcome is this failure
abbrev pub FailsSo : Failure → Outcome Items → Type 0
FailsSo (Raised code) outcome = outcome ≡ raises code
FailsSo Wrong outcome = outcome ≡ wrong
FailsSo Memory outcome = Unit {0}

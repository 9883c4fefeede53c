-- What an error of an evaluation says; want of memory says nothing.
use Rattle.std.specs.Prelude.{◌≡◌}
use Rattle.gx_model.specs.Item.{Items}
use Rattle.gx_core.specs.declared.dyn_error.DynError.{DynError}
use Rattle.gx_core.specs.declared.dyn_error.DynError.TheVariants.{Raised, Memory}
use Rattle.gx_core.specs.Outcome.{Outcome, raises}

-- the outcome is this error
abbrev pub Fails : DynError → Outcome Items → Type 0
Fails (Raised code) outcome = outcome ≡ raises code
Fails Memory outcome = Unit {0}

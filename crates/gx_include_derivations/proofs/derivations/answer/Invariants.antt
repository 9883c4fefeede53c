use Rattle.std.proofs.Common.{◌≡◌}
use Rattle.gx_include_derivations.specs.Derivations.{is_derived_at}
use Rattle.gx_include_derivations.proofs.derivations.answer.Given as goal

abbrev pub invariant-loop-step : goal.invariant-loop-step
invariant-loop-step l = is_derived_at l.schemas l.kind l.start ≡ is_derived_at l.schemas l.kind l.at

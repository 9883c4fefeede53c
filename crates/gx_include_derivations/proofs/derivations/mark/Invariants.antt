use Rattle.std.proofs.Common.{◌≡◌}
use Rattle.gx_include_derivations.specs.Derivations.{is_derived_at, AreKnown}
use Rattle.gx_include_derivations.proofs.derivations.mark.Given as goal

abbrev pub invariant-loop-step : goal.invariant-loop-step
invariant-loop-step l = record {
  known : AreKnown l.schemas l.kind l.known.items;
  answer : l.answer ≡ is_derived_at l.schemas l.kind l.at;
}

use Rattle.std.proofs.Common.{◌≡◌, [], ◌∷◌, drop}
use Rattle.std.specs.List.{list_any}
use Rattle.gx_facets.specs.Admission.{same_values}
use Rattle.gx_facets.proofs.admission.is_among.Given as goal

abbrev pub invariant-loop-entry : goal.invariant-loop-entry
invariant-loop-entry l =
    list_any (λ e. same_values e (l.value ∷ [])) (drop l.entry-index l.entries) ≡ list_any (λ e. same_values e (l.value ∷ [])) l.entries

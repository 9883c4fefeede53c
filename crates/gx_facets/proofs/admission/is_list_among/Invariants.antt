use Rattle.std.proofs.Common.{◌≡◌, drop}
use Rattle.std.specs.List.{list_any}
use Rattle.gx_facets.specs.Admission.{same_values, values_of}
use Rattle.gx_facets.proofs.admission.is_list_among.Given as goal

abbrev pub invariant-loop-entry : goal.invariant-loop-entry
invariant-loop-entry l =
    list_any (λ e. same_values e (values_of l.items)) (drop l.entry-index l.entries) ≡ list_any (λ e. same_values e (values_of l.items)) l.entries

use Rattle.std.proofs.Common.{◌≡◌, drop}
use Rattle.gx_facets.specs.Admission.{same_values, values_of}
use Rattle.gx_facets.proofs.admission.are_values.Given as goal

abbrev pub invariant-loop-i : goal.invariant-loop-i
invariant-loop-i l = same_values (drop l.i l.entry) (values_of (drop l.i l.items)) ≡ same_values l.entry (values_of l.items)

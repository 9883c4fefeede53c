use Rattle.std.proofs.Common.{◌≡◌, ◌++◌, drop}
use Rattle.gx_facets.specs.Admission.{values_of}
use Rattle.gx_schema_simple.proofs.own_facets.values_of.Given as goal

abbrev pub invariant-loop-item : goal.invariant-loop-item
invariant-loop-item l = l.values.items ++ values_of (drop l.item-index l.items) ≡ values_of l.items

use Rattle.std.proofs.Common.{◌≡◌, drop}
use Rattle.std.specs.List.{list_all}
use Rattle.gx_facets.specs.Admission.{admits_value}
use Rattle.gx_facets.specs.declared.Atomic.{Atomic}
use Rattle.gx_types.proofs.simple_value.admits_each.Given as goal

abbrev pub invariant-loop-a : goal.invariant-loop-a
invariant-loop-a l = list_all (λ (a : Atomic). admits_value l.facets a.value) (drop l.a-index l.values) ≡ list_all (λ (a : Atomic). admits_value l.facets a.value) l.values

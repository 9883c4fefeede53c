use Rattle.std.proofs.Common.{◌≡◌, drop}
use Rattle.std.specs.Borrow.{Bor}
use Rattle.std.specs.List.{list_all}
use Rattle.gx_facets.specs.Admission.{admits_value}
use Rattle.gx_facets.specs.declared.restriction.Facets.{Facets}
use Rattle.gx_types.proofs.simple_value.admit_value.Given as goal

abbrev pub invariant-loop-f : goal.invariant-loop-f
invariant-loop-f l =
    list_all (λ (f : Bor Facets). admits_value f.now l.value) (drop l.f-index l.facets) ≡ list_all (λ (f : Bor Facets). admits_value f.now l.value) l.facets

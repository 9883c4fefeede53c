use Rattle.std.proofs.Common.{◌≡◌, drop}
use Rattle.std.specs.Borrow.{Bor}
use Rattle.std.specs.List.{list_all}
use Rattle.gx_facets.specs.declared.restriction.Facets.{Facets}
use Rattle.gx_types.specs.SimpleValue.{admits_values}
use Rattle.gx_types.proofs.simple_value.admit_values.Given as goal

abbrev pub invariant-loop-f : goal.invariant-loop-f
invariant-loop-f l =
    list_all (λ (f : Bor Facets). admits_values l.variety f.now l.values) (drop l.f-index l.facets)
    ≡ list_all (λ (f : Bor Facets). admits_values l.variety f.now l.values) l.facets

use Rattle.std.proofs.Common.{◌≡◌, drop, option_map}
use Rattle.gx_types.specs.SimpleView.{simple_view}
use Rattle.gx_schema_simple.specs.OwnFacets.{least_bound}
use Rattle.gx_schema_simple.proofs.own_facets.least_bound.Given as goal

abbrev pub invariant-loop-index : goal.invariant-loop-index
invariant-loop-index l = l.least ≡ least_bound l.kind (option_map simple_view l.base) (drop l.index l.facets)

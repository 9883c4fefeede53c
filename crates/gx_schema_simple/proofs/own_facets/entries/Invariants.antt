use Rattle.std.proofs.Common.{◌≡◌, ◌++◌, drop, option_map}
use Rattle.gx_types.specs.SimpleView.{simple_view}
use Rattle.gx_schema_simple.specs.OwnFacets.{entries_read}
use Rattle.gx_schema_simple.proofs.own_facets.entries.Given as goal

abbrev pub invariant-loop-facet : goal.invariant-loop-facet
invariant-loop-facet l = l.entries.items ++ entries_read (option_map simple_view l.base) (drop l.facet-index l.facets) ≡ entries_read (option_map simple_view l.base) l.facets

use Rattle.std.proofs.Common.{◌≡◌, drop}
use Rattle.gx_schema_simple.specs.OwnFacets.{least_length}
use Rattle.gx_schema_simple.proofs.own_facets.least_length.Given as goal

abbrev pub invariant-loop-index : goal.invariant-loop-index
invariant-loop-index l = l.least ≡ least_length (drop l.index l.facets)

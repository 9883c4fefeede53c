use Rattle.std.proofs.Common.{◌≡◌, drop}
use Rattle.gx_schema_simple.specs.OwnFacets.{greatest_length}
use Rattle.gx_schema_simple.proofs.own_facets.greatest_length.Given as goal

abbrev pub invariant-loop-index : goal.invariant-loop-index
invariant-loop-index l = l.greatest ≡ greatest_length (drop l.index l.facets)

use Rattle.std.proofs.Common.{◌≡◌, ◌++◌, ◌-◌, length}
use Rattle.gx_types.specs.SimpleView.{facets_view}
use Rattle.gx_schema_simple.specs.Meanings.{all_facets_of, facets_within}
use Rattle.gx_schema_simple.proofs.meaning.all_facets.Given as goal

abbrev pub invariant-loop : goal.invariant-loop
invariant-loop l = facets_view l.facets ++ facets_within l.bases l.own (length l.own - l.counter) l.next ≡ all_facets_of l.bases l.own l.fn.t

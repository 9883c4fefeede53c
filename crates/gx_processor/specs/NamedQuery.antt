-- Queries whose names are resolved.
use Rattle.std.specs.Prelude.{List, [], ◌∷◌}
use Rattle.gx_base.specs.declared.place.Place.{Place}
use Rattle.gx_base.specs.declared.code.Code.{Code}
use Rattle.gx_ast.specs.declared.query.Query.{Query}
use Rattle.gx_types.specs.SchemaSet.{SchemaSet}
use Rattle.gx_names_scope.specs.declared.refusal.Refusal.{Refusal}
use Rattle.gx_names.specs.Refusals.{query_refusals}
use Rattle.gx_names.specs.Resolution.{query_resolved}
use Rattle.gx_core.specs.Queries.{Core}
use Rattle.gx_normal.specs.Normalisation.{query_core}

-- the Core of a query as it is written, or the first refusal
pub data NamedQuery : Type 0 where
  named_query : (core : Core) → NamedQuery
  unknown_name : (place : Place) (code : Code) → NamedQuery

abbrev pub unless_refused : List Refusal → Core → NamedQuery
unless_refused [] core = named_query core
unless_refused (refusal ∷ others) core = unknown_name refusal.place refusal.code

abbrev pub query_named : SchemaSet → Query → NamedQuery
query_named schemas query = unless_refused (query_refusals schemas query) (query_core (query_resolved schemas query))

-- The expressions of a compiled query come to the same as those of the fully sound query that it is made of.
use Rattle.std.proofs.Common.{List, [], ◌∷◌, ◌++◌, map, None, Some, refl}
use Rattle.gx_types.specs.SchemaSet.{SchemaSet}
use Rattle.gx_core.specs.declared.expression.Declaration.TheVariants.{Global, Function}
use Rattle.gx_core.specs.Queries.{TypedDeclaration, TypedFunction}
use Rattle.gx_core.specs.Bindings.{Types, types_bound}
use Rattle.gx_core.specs.QueryMeaning.{global_types, types_declared, functions_declared}
use Rattle.gx_core.specs.Soundness.{TypedExpression}
use Rattle.gx_plan.specs.Compiling.{compiled, compiled_declaration}
use Rattle.gx_plan.specs.FullSoundness.{body_types, IsFullySound, DeclarationsAreFullySound}
use Rattle.gx_plan.specs.StandingFor.{IsSameExpression}
use Rattle.gx_plan.specs.SameQueries.{AreSameDeclarations}
use Rattle.gx_plan.specs.CompiledQueries.{CompiledQueriesAreSame}
use Rattle.gx_plan.proofs.ReplacingParts.{compiling_keeps}

expression_same : (s : SchemaSet) (e : TypedExpression) (types : Types) → IsFullySound s types_bound e types → IsSameExpression s (compiled e) e types
expression_same s e types h known calls called situation = compiling_keeps s known calls e types (h.sound known calls called) situation

declarations_same : (s : SchemaSet) (functions : List (TypedFunction × Types)) (ds : List TypedDeclaration) (types : Types)
    → DeclarationsAreFullySound s types_bound functions ds types → AreSameDeclarations s (map compiled_declaration ds) ds types
declarations_same s functions [] types h = tt
declarations_same s functions (Global name binder (Some value) ∷ ds) types h = (
  (refl, expression_same s value types h.0.0),
  declarations_same s functions ds (global_types (Global name binder (Some value)) ++ types) h.1,
)
declarations_same s functions (Global name binder None ∷ ds) types h =
    (refl, declarations_same s functions ds (global_types (Global name binder None) ++ types) h.1)
declarations_same s functions (Function f ∷ ds) types h = (
  record { parameters = refl; result = refl; body = expression_same s f.body (body_types f types) h.0.body },
  declarations_same s functions ds types h.1,
)

pub compiled_queries_are_same : CompiledQueriesAreSame
compiled_queries_are_same s query h = record {
  declarations = declarations_same s (functions_declared query.declarations []) query.declarations [] h.declarations;
  body = expression_same s query.body (types_declared query.declarations []) h.body;
}

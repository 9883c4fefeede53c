-- A query whose expressions come to the same as those of a fully sound query has its outcome.
use Rattle.std.proofs.Common.{List, [], ◌∷◌, ◌++◌, None, Some}
use Rattle.gx_types.specs.SchemaSet.{SchemaSet}
use Rattle.gx_core.specs.declared.expression.Declaration.{Declaration}
use Rattle.gx_core.specs.declared.expression.Declaration.TheVariants.{Global, Function}
use Rattle.gx_core.specs.Queries.{TypedDeclaration, TypedFunction}
use Rattle.gx_core.specs.Bindings.{Types}
use Rattle.gx_core.specs.QueryMeaning.{global_types, types_declared, functions_declared}
use Rattle.gx_core.specs.Soundness.{TypedExpression}
use Rattle.gx_core.proofs.SoundQueries.{keeps_its_type}
use Rattle.gx_plan.specs.FullSoundness.{Binders, carrying_setting, body_types, IsFullySound, DeclarationsAreFullySound}
use Rattle.gx_plan.specs.StandingFor.{DeclarationsMayStandFor, KeepsItsTypeWithCalls, DeclarationsKeepTheirTypes}
use Rattle.gx_plan.specs.SameQueries.{AreSameDeclarations, SameQueriesHaveTheOutcome}
use Rattle.gx_plan.proofs.AgreeingCalls.{same_expressions_may_stand_for}
use Rattle.gx_plan.proofs.StandIns.{stand_ins_have_the_outcome}

expression_keeps : (s : SchemaSet) (binders : Binders) (e : TypedExpression) (types : Types) → IsFullySound s binders e types → KeepsItsTypeWithCalls s e types
expression_keeps s binders e types h known calls called situation =
    keeps_its_type (carrying_setting s binders known calls) e types (h.sound known calls called) (record {
      bindings = situation.bindings;
      forest = situation.forest;
      honest = situation.honest;
      fits = situation.fits;
      calls_keep = situation.calls_keep;
    })

declarations_keep : (s : SchemaSet) (binders : Binders) (functions : List (TypedFunction × Types)) (ds : List TypedDeclaration) (types : Types)
    → DeclarationsAreFullySound s binders functions ds types → DeclarationsKeepTheirTypes s functions ds types
declarations_keep s binders functions [] types h = tt
declarations_keep s binders functions (Global name binder (Some value) ∷ ds) types h = (
  (expression_keeps s binders value types h.0.0, h.0.1),
  declarations_keep s binders functions ds (global_types (Global name binder (Some value)) ++ types) h.1,
)
declarations_keep s binders functions (Global name binder None ∷ ds) types h =
    (tt, declarations_keep s binders functions ds (global_types (Global name binder None) ++ types) h.1)
declarations_keep s binders functions (Function f ∷ ds) types h = (
  record { body = expression_keeps s binders f.body (body_types f types) h.0.body; converts = h.0.converts },
  declarations_keep s binders functions ds types h.1,
)

same_stand : (A : Type 0) (s : SchemaSet) (binders : Binders) (functions : List (TypedFunction × Types)) (others : List (Declaration A)) (ds : List TypedDeclaration)
    (types : Types) → DeclarationsAreFullySound s binders functions ds types → AreSameDeclarations s others ds types → DeclarationsMayStandFor s others ds types
same_stand A s binders functions [] [] types full same = tt
same_stand A s binders functions [] (d ∷ ds) types full same = absurd same
same_stand A s binders functions (o ∷ others) [] types full same = absurd same
same_stand A s binders functions (Global name binder (Some other) ∷ others) (Global own_name own_binder (Some value) ∷ ds) types full same = (
  (same.0.0, same_expressions_may_stand_for A s binders value other types full.0.0 same.0.1),
  same_stand A s binders functions others ds (global_types (Global own_name own_binder (Some value)) ++ types) full.1 same.1,
)
same_stand A s binders functions (Global name binder None ∷ others) (Global own_name own_binder None ∷ ds) types full same =
    (same.0, same_stand A s binders functions others ds (global_types (Global own_name own_binder None) ++ types) full.1 same.1)
same_stand A s binders functions (Function other ∷ others) (Function f ∷ ds) types full same = (
  record {
    parameters = same.0.parameters;
    result = same.0.result;
    body = same_expressions_may_stand_for A s binders f.body other.body (body_types f types) full.0.body same.0.body;
  },
  same_stand A s binders functions others ds types full.1 same.1,
)
same_stand A s binders functions (Global name binder (Some other) ∷ others) (Global own_name own_binder None ∷ ds) types full same = absurd same.0
same_stand A s binders functions (Global name binder None ∷ others) (Global own_name own_binder (Some value) ∷ ds) types full same = absurd same.0
same_stand A s binders functions (Global name binder (Some other) ∷ others) (Function f ∷ ds) types full same = absurd same.0
same_stand A s binders functions (Global name binder None ∷ others) (Function f ∷ ds) types full same = absurd same.0
same_stand A s binders functions (Function other ∷ others) (Global own_name own_binder value ∷ ds) types full same = absurd same.0

pub same_queries_have_the_outcome : (A : Type 0) → SameQueriesHaveTheOutcome A
same_queries_have_the_outcome A limit s binders query other documents forest honest fit full same =
    let functions : List (TypedFunction × Types) = functions_declared query.declarations [] in
    let types : Types = types_declared query.declarations [] in
    stand_ins_have_the_outcome A limit s query other documents forest honest fit
    (record {
      declarations = declarations_keep s binders functions query.declarations [] full.declarations;
      body = expression_keeps s binders query.body types full.body;
      calls = full.calls;
    })
    (record {
      declarations = same_stand A s binders functions other.declarations query.declarations [] full.declarations same.declarations;
      body = same_expressions_may_stand_for A s binders query.body other.body types full.body same.body;
    })

-- The joins of a rewritten plan are fair.
use Rattle.std.proofs.Common.{◌≡◌, true, None, Some, List, [], ◌∷◌, ◌++◌, map, refl, sym, ◌∙◌, ap}
use Rattle.std.proofs.lemmas.Bool.{true≢false}
use Rattle.gx_base.specs.declared.place.Place.{Place}
use Rattle.gx_types.specs.SchemaSet.{SchemaSet}
use Rattle.gx_types.specs.SchemaInvariant.{IsSchemaSet}
use Rattle.gx_types.specs.SequenceType.{SequenceType}
use Rattle.gx_core.specs.declared.expression.Declaration.{Declaration}
use Rattle.gx_core.specs.declared.expression.Declaration.TheVariants.{Global, Function}
use Rattle.gx_core.specs.declared.operator.Operator.{Operator}
use Rattle.gx_core.specs.declared.operator.Operator.TheVariants as operators
use Rattle.gx_core.specs.Queries.{TypedFunction}
use Rattle.gx_core.specs.Bindings.{Types, look_up}
use Rattle.gx_core.specs.Expression.{At, Parts, no_parts, a_part, annotation_of}
use Rattle.gx_core.specs.QueryMeaning.{global_types, types_declared, functions_declared}
use Rattle.gx_core.specs.Soundness.{Setting}
use Rattle.gx_plan.specs.declared.plan.Role.{Role}
use Rattle.gx_plan.specs.declared.plan.Role.TheVariants.{Own}
use Rattle.gx_plan.specs.declared.plan.Carried.{Carried}
use Rattle.gx_core.specs.Soundness.{TypedExpression}
use Rattle.gx_plan.specs.Compiling.{compiled_operator, compiled, compiled_parts, compiled_declaration}
use Rattle.gx_plan.specs.Plan.{PlanExpression, typed_expression, typed_declaration, typed_query}
use Rattle.gx_plan.specs.FullSoundness.{body_types, IsFullySound, DeclarationsAreFullySound}
use Rattle.gx_rules.specs.Guards.{is_in_join}
use Rattle.gx_rules.specs.Normal.{PlanReaches}
use Rattle.gx_rule_laws.specs.KeepingSoundness.{plan_rule_setting}
use Rattle.gx_rule_laws.specs.QuietValues.{carried_binders, plan_setting, is_comparison_of_join, JoinsCompareInPlace, JoinsInPartsCompareInPlace}
use Rattle.gx_rule_laws.specs.FairJoins.{IsFairOperator, AreJoinsFair, JoinsInPartsAreFair, HasFairJoins}
use Rattle.gx_rule_laws.specs.RewrittenQueries.{IsOrderly, typed_function_of, AreOrderlyDeclarations}
use Rattle.gx_rule_laws.specs.FairPlans.{HasNoJoin, HaveNoJoin, DeclarationsHaveNoJoin, BecomesFair, DeclarationsBecomeFair, CompiledPlansHaveNoJoin, RewrittenPlansHaveFairJoins}
use Rattle.gx_rule_laws.proofs.ApartPlans.{becomes_apart}
use Rattle.gx_rule_laws.proofs.FairRewriting.{rewriting_keeps_joins_fair}
use Rattle.gx_rule_laws.proofs.RewrittenPlans.{ReachesDeclarations, parts_reached}

-- ---- where there is no join, all are fair

unmarked : (role : Role) → role ≡ Own → is_in_join role ≡ true → ⊥
unmarked role e f = true≢false (sym f ∙ ap is_in_join e)

no_comparison : (role : Role) (operator : Operator) → role ≡ Own → is_comparison_of_join role operator ≡ true → ⊥
no_comparison role (operators.Binary op) e f = unmarked role e f
no_comparison role _ e f = cc

operator_is_fair : (setting : Setting) (e : PlanExpression) (types : Types) → HasNoJoin e → IsFairOperator setting e types
operator_is_fair setting (At place outer carried (operators.For binder position) (a_part source others)) types h = λ marked. absurd (unmarked carried.role h.0 marked)
operator_is_fair setting (At place outer carried (operators.Binary operator) (a_part left (a_part right no_parts))) types h = λ marked. absurd (unmarked carried.role h.0 marked)
operator_is_fair setting _ types h = tt

module _ (setting : Setting) where
  mutual
    all_fair : (e : PlanExpression) (types : Types) → HasNoJoin e → AreJoinsFair setting e types
    all_fair (At place outer carried operator parts) types h =
        (operator_is_fair setting (At place outer carried operator parts) types h, all_parts_fair operator [] parts types h.1)

    all_parts_fair : (operator : Operator) (before : List SequenceType) (parts : Parts Carried) (types : Types) → HaveNoJoin parts
        → JoinsInPartsAreFair setting operator before parts types
    all_parts_fair operator before no_parts types h = tt
    all_parts_fair operator before (a_part first others) types h = (
      all_fair first (setting.binders operator before ++ types) h.0,
      all_parts_fair operator (before ++ annotation_of (typed_expression first) ∷ []) others types h.1,
    )

  mutual
    all_compare : (e : PlanExpression) (types : Types) → HasNoJoin e → JoinsCompareInPlace setting e types
    all_compare (At place outer carried operator parts) types h =
        ((λ marked. absurd (no_comparison carried.role operator h.0 marked)), all_parts_compare operator [] parts types h.1)

    all_parts_compare : (operator : Operator) (before : List SequenceType) (parts : Parts Carried) (types : Types) → HaveNoJoin parts
        → JoinsInPartsCompareInPlace setting operator before parts types
    all_parts_compare operator before no_parts types h = tt
    all_parts_compare operator before (a_part first others) types h = (
      all_compare first (setting.binders operator before ++ types) h.0,
      all_parts_compare operator (before ++ annotation_of (typed_expression first) ∷ []) others types h.1,
    )

  pub no_join_is_fair : (e : PlanExpression) (types : Types) → HasNoJoin e → HasFairJoins setting e types
  no_join_is_fair e types h = record { fair = all_fair e types h; compare = all_compare e types h }

-- ---- compiled plans have none

operator_without_join : (place outer : Place) (kind : SequenceType) (operator : Operator) (parts : Parts Carried) → HaveNoJoin parts
    → HasNoJoin (compiled_operator place outer kind operator parts)
operator_without_join place outer kind operators.Nodes (a_part operand no_parts) h = h.0
operator_without_join place outer kind operator parts h = (refl, h)

mutual
  compiled_without_join : (e : TypedExpression) → HasNoJoin (compiled e)
  compiled_without_join (At place outer kind operator parts) = operator_without_join place outer kind operator (compiled_parts parts) (parts_without_join parts)

  parts_without_join : (parts : Parts SequenceType) → HaveNoJoin (compiled_parts parts)
  parts_without_join no_parts = tt
  parts_without_join (a_part first others) = (compiled_without_join first, parts_without_join others)

declarations_without_join : (ds : List (Declaration SequenceType)) → DeclarationsHaveNoJoin (map compiled_declaration ds)
declarations_without_join [] = tt
declarations_without_join (Global name binder (Some value) ∷ ds) = (compiled_without_join value, declarations_without_join ds)
declarations_without_join (Global name binder None ∷ ds) = declarations_without_join ds
declarations_without_join (Function function ∷ ds) = (compiled_without_join function.body, declarations_without_join ds)

pub compiled_plans_have_no_join : CompiledPlansHaveNoJoin
compiled_plans_have_no_join query = record { declarations = declarations_without_join query.declarations; body = compiled_without_join query.body }

-- ---- whole plans

module _ (s : SchemaSet) (is : IsSchemaSet s) (variables : Types) (none : look_up variables 0 ≡ None) where
  becomes_fair : (e other : PlanExpression) (types : Types) → IsFullySound s (carried_binders variables) (typed_expression e) types → IsOrderly variables e types
      → HasNoJoin e → PlanReaches (plan_rule_setting s variables) e other → BecomesFair s variables e other types
  becomes_fair e other types sound orderly no_join reaches = record {
    apart = becomes_apart (plan_rule_setting s variables) e other no_join reaches;
    valued = λ known calls all. rewriting_keeps_joins_fair s variables known calls e other types (record {
      stands = record { schemas = is; regular = orderly.regular; sound = sound.sound known calls all; well_bound = sound.well_bound known calls all };
      positions = orderly.positions;
      none_carries = none;
      none_typed = orderly.none_typed;
    }) (no_join_is_fair (plan_setting s variables known calls) e types no_join) reaches;
  }

  all_become_fair : (functions : List (TypedFunction × Types)) (ds es : List (Declaration Carried)) (types : Types)
      → DeclarationsAreFullySound s (carried_binders variables) functions (map typed_declaration ds) types → AreOrderlyDeclarations variables ds types
      → DeclarationsHaveNoJoin ds → ReachesDeclarations (plan_rule_setting s variables) ds es → DeclarationsBecomeFair s variables ds es types
  all_become_fair functions [] [] types sound orderly no_join reaches = tt
  all_become_fair functions [] (e ∷ es) types sound orderly no_join reaches = absurd reaches
  all_become_fair functions (d ∷ ds) [] types sound orderly no_join reaches = absurd reaches
  all_become_fair functions (Global name binder (Some value) ∷ ds) (Global other_name other_binder (Some other) ∷ es) types sound orderly no_join reaches = (
    becomes_fair value other types sound.0.0 orderly.0 no_join.0 reaches.0.1,
    all_become_fair functions ds es (global_types (typed_declaration (Global name binder (Some value))) ++ types) sound.1 orderly.1 no_join.1 reaches.1,
  )
  all_become_fair functions (Global name binder None ∷ ds) (Global other_name other_binder None ∷ es) types sound orderly no_join reaches =
      (tt, all_become_fair functions ds es (global_types (typed_declaration (Global name binder None)) ++ types) sound.1 orderly.1 no_join reaches.1)
  all_become_fair functions (Function function ∷ ds) (Function other ∷ es) types sound orderly no_join reaches = (
    becomes_fair function.body other.body (body_types (typed_function_of function) types) sound.0.body orderly.0 no_join.0 reaches.0.1.1,
    all_become_fair functions ds es types sound.1 orderly.1 no_join.1 reaches.1,
  )
  all_become_fair functions (Global name binder (Some value) ∷ ds) (Global other_name other_binder None ∷ es) types sound orderly no_join reaches = absurd reaches.0
  all_become_fair functions (Global name binder (Some value) ∷ ds) (Function other ∷ es) types sound orderly no_join reaches = absurd reaches.0
  all_become_fair functions (Global name binder None ∷ ds) (Global other_name other_binder (Some other) ∷ es) types sound orderly no_join reaches = absurd reaches.0
  all_become_fair functions (Global name binder None ∷ ds) (Function other ∷ es) types sound orderly no_join reaches = absurd reaches.0
  all_become_fair functions (Function function ∷ ds) (Global other_name other_binder None ∷ es) types sound orderly no_join reaches = absurd reaches.0
  all_become_fair functions (Function function ∷ ds) (Global other_name other_binder (Some other) ∷ es) types sound orderly no_join reaches = absurd reaches.0

pub rewritten_plans_have_fair_joins : RewrittenPlansHaveFairJoins
rewritten_plans_have_fair_joins s variables plan other sound orderly no_join reaches =
    let parts = parts_reached (plan_rule_setting s variables) reaches.applications plan other reaches.reached in record {
      declarations = all_become_fair s orderly.schemas_kept variables orderly.none_carries (functions_declared (typed_query plan).declarations []) plan.declarations other.declarations []
          sound.declarations orderly.declarations no_join.declarations parts.declarations;
      body = becomes_fair s orderly.schemas_kept variables orderly.none_carries plan.body other.body (types_declared (typed_query plan).declarations []) sound.body orderly.body
          no_join.body parts.body;
    }

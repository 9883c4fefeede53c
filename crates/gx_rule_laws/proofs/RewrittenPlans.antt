-- A rewritten plan has the outcome of the plan given.
use Rattle.std.proofs.Common.{◌≡◌, inl, inr, ℕ, zero, suc, List, [], ◌∷◌, ◌++◌, map, None, Some, refl, sym, ◌∙◌, subst}
use Rattle.gx_types.specs.SchemaSet.{SchemaSet}
use Rattle.gx_types.specs.SchemaInvariant.{IsSchemaSet}
use Rattle.gx_core.specs.declared.expression.Declaration.{Declaration}
use Rattle.gx_core.specs.declared.expression.Declaration.TheVariants.{Global, Function}
use Rattle.gx_core.specs.Queries.{TypedFunction}
use Rattle.gx_core.specs.Bindings.{Types, look_up}
use Rattle.gx_core.specs.QueryMeaning.{global_types, types_declared, functions_declared}
use Rattle.gx_core.specs.Soundness.{Setting, context_of}
use Rattle.gx_plan.specs.declared.plan.Carried.{Carried}
use Rattle.gx_plan.specs.Plan.{PlanExpression, PlanQuery, typed_expression, typed_declaration, typed_query}
use Rattle.gx_plan.specs.FullSoundness.{body_types, IsFullySound, DeclarationsAreFullySound}
use Rattle.gx_plan.specs.StandingFor.{IsSameExpression}
use Rattle.gx_plan.specs.SameQueries.{AreSameDeclarations}
use Rattle.gx_plan.proofs.SameOutcomes.{same_queries_have_the_outcome}
use Rattle.gx_plan.proofs.TypedPlans.{plans_mean_their_typed_core, plans_have_the_outcome_of_their_typed_core}
use Rattle.gx_rules.specs.Rules.{RuleSetting}
use Rattle.gx_rules.specs.Normal.{StepsTo, ReachesIn, PlanReaches, DeclarationStepsTo, DeclarationsStepTo, QueryStepsTo, function_over}
use Rattle.gx_rule_laws.specs.QuietValues.{carried_binders, plan_setting}
use Rattle.gx_rule_laws.specs.KeepingSoundness.{plan_rule_setting}
use Rattle.gx_rule_laws.specs.RewrittenQueries.{IsOrderly, typed_function_of, AreOrderlyDeclarations, RewritingKeepsOutcomes}
use Rattle.gx_rule_laws.proofs.AllRules.{rewriting_keeps}

-- ---- expressions of two plans, each reached from its counterpart

nothing_done : (setting : RuleSetting) (e : PlanExpression) → PlanReaches setting e e
nothing_done setting e = record { applications = zero; reached = refl }

done_first : (setting : RuleSetting) (e next other : PlanExpression) → StepsTo setting e next → PlanReaches setting next other → PlanReaches setting e other
done_first setting e next other steps reaches = record { applications = suc reaches.applications; reached = (next, steps, reaches.reached) }

abbrev pub ReachesDeclaration : RuleSetting → Declaration Carried → Declaration Carried → Type 0
ReachesDeclaration setting (Global name binder (Some value)) (Global other_name other_binder (Some other)) = (other_binder ≡ binder) × PlanReaches setting value other
ReachesDeclaration setting (Global name binder None) (Global other_name other_binder None) = other_binder ≡ binder
ReachesDeclaration setting (Function function) (Function other) =
    (other.parameters ≡ function.parameters) × ((other.result ≡ function.result) × PlanReaches setting function.body other.body)
ReachesDeclaration setting _ _ = ⊥

abbrev pub ReachesDeclarations : RuleSetting → List (Declaration Carried) → List (Declaration Carried) → Type 0
ReachesDeclarations setting [] [] = Unit {0}
ReachesDeclarations setting (d ∷ ds) (e ∷ es) = ReachesDeclaration setting d e × ReachesDeclarations setting ds es
ReachesDeclarations setting _ _ = ⊥

same_declaration : (setting : RuleSetting) (d : Declaration Carried) → ReachesDeclaration setting d d
same_declaration setting (Global name binder (Some value)) = (refl, nothing_done setting value)
same_declaration setting (Global name binder None) = refl
same_declaration setting (Function function) = (refl, (refl, nothing_done setting function.body))

same_declarations : (setting : RuleSetting) (ds : List (Declaration Carried)) → ReachesDeclarations setting ds ds
same_declarations setting [] = tt
same_declarations setting (d ∷ ds) = (same_declaration setting d, same_declarations setting ds)

declaration_first : (setting : RuleSetting) (d next other : Declaration Carried) → DeclarationStepsTo setting d next → ReachesDeclaration setting next other
    → ReachesDeclaration setting d other
declaration_first setting (Global name binder (Some value)) next other (e, is, steps) reaches =
    behind other (subst (λ (n : Declaration Carried). ReachesDeclaration setting n other) is reaches)
  where
    behind : (o : Declaration Carried) → ReachesDeclaration setting (Global name binder (Some e)) o → ReachesDeclaration setting (Global name binder (Some value)) o
    behind (Global other_name other_binder (Some v)) r = (r.0, done_first setting value e v steps r.1)
    behind (Global other_name other_binder None) r = absurd r
    behind (Function f) r = absurd r
declaration_first setting (Global name binder None) next other steps reaches = absurd steps
declaration_first setting (Function function) next other (e, is, steps) reaches =
    behind other (subst (λ (n : Declaration Carried). ReachesDeclaration setting n other) is reaches)
  where
    behind : (o : Declaration Carried) → ReachesDeclaration setting (Function (function_over function e)) o → ReachesDeclaration setting (Function function) o
    behind (Function f) r = (r.0, (r.1.0, done_first setting function.body e f.body steps r.1.1))
    behind (Global other_name other_binder None) r = absurd r
    behind (Global other_name other_binder (Some v)) r = absurd r

declarations_first : (setting : RuleSetting) (ds next others : List (Declaration Carried)) → DeclarationsStepTo setting ds next → ReachesDeclarations setting next others
    → ReachesDeclarations setting ds others
declarations_first setting [] next others steps reaches = absurd steps
declarations_first setting (d ∷ ds) next others (inl (e, is, steps)) reaches =
    behind others (subst (λ (ns : List (Declaration Carried)). ReachesDeclarations setting ns others) is reaches)
  where
    behind : (os : List (Declaration Carried)) → ReachesDeclarations setting (e ∷ ds) os → ReachesDeclarations setting (d ∷ ds) os
    behind [] r = absurd r
    behind (o ∷ os) r = (declaration_first setting d e o steps r.0, r.1)
declarations_first setting (d ∷ ds) next [] (inr (es, is, steps)) reaches = absurd (subst (λ (ns : List (Declaration Carried)). ReachesDeclarations setting ns []) is reaches)
declarations_first setting (d ∷ ds) next (o ∷ os) (inr (es, is, steps)) reaches =
    let r = subst (λ (ns : List (Declaration Carried)). ReachesDeclarations setting ns (o ∷ os)) is reaches in
    (r.0, declarations_first setting ds es os steps r.1)

pub record ReachesParts (setting : RuleSetting) (plan other : PlanQuery) : Type 0 where
  pub declarations : ReachesDeclarations setting plan.declarations other.declarations
  pub body : PlanReaches setting plan.body other.body

parts_first : (setting : RuleSetting) (plan next other : PlanQuery) → QueryStepsTo setting plan next → ReachesParts setting next other → ReachesParts setting plan other
parts_first setting plan next other (inl (steps, same)) reaches = record {
  declarations = declarations_first setting plan.declarations next.declarations other.declarations steps reaches.declarations;
  body = subst (λ (e : PlanExpression). PlanReaches setting e other.body) same reaches.body;
}
parts_first setting plan next other (inr (same, steps)) reaches = record {
  declarations = subst (λ (ds : List (Declaration Carried)). ReachesDeclarations setting ds other.declarations) same reaches.declarations;
  body = done_first setting plan.body next.body other.body steps reaches.body;
}

pub parts_reached : (setting : RuleSetting) (applications : ℕ) (plan other : PlanQuery) → ReachesIn (QueryStepsTo setting) applications plan other → ReachesParts setting plan other
parts_reached setting zero plan other same =
    subst (λ (o : PlanQuery). ReachesParts setting plan o) same
    (record { declarations = same_declarations setting plan.declarations; body = nothing_done setting plan.body })
parts_reached setting (suc n) plan other (next, steps, rest) = parts_first setting plan next other steps (parts_reached setting n next other rest)

-- ---- they come to the same

module _ (s : SchemaSet) (is : IsSchemaSet s) (variables : Types) (none : look_up variables 0 ≡ None) where
  same_expression : (e other : PlanExpression) (types : Types) → IsFullySound s (carried_binders variables) (typed_expression e) types → IsOrderly variables e types
      → PlanReaches (plan_rule_setting s variables) e other → IsSameExpression s other (typed_expression e) types
  same_expression e other types sound orderly reaches known calls all situation =
      let setting : Setting = plan_setting s variables known calls in
      plans_mean_their_typed_core (context_of setting) other situation.bindings situation.forest
      ∙ (rewriting_keeps s variables known calls e other types (record {
        stands = record { schemas = is; regular = orderly.regular; sound = sound.sound known calls all; well_bound = sound.well_bound known calls all };
        positions = orderly.positions;
        none_carries = none;
        none_typed = orderly.none_typed;
      }) reaches).same (record {
        bindings = situation.bindings;
        forest = situation.forest;
        honest = situation.honest;
        fits = situation.fits;
        calls_keep = situation.calls_keep;
      })

  all_same : (functions : List (TypedFunction × Types)) (ds es : List (Declaration Carried)) (types : Types)
      → DeclarationsAreFullySound s (carried_binders variables) functions (map typed_declaration ds) types → AreOrderlyDeclarations variables ds types
      → ReachesDeclarations (plan_rule_setting s variables) ds es → AreSameDeclarations s es (map typed_declaration ds) types
  all_same functions [] [] types sound orderly reaches = tt
  all_same functions [] (e ∷ es) types sound orderly reaches = absurd reaches
  all_same functions (d ∷ ds) [] types sound orderly reaches = absurd reaches
  all_same functions (Global name binder (Some value) ∷ ds) (Global other_name other_binder (Some other) ∷ es) types sound orderly reaches = (
    (reaches.0.0, same_expression value other types sound.0.0 orderly.0 reaches.0.1),
    all_same functions ds es (global_types (typed_declaration (Global name binder (Some value))) ++ types) sound.1 orderly.1 reaches.1,
  )
  all_same functions (Global name binder None ∷ ds) (Global other_name other_binder None ∷ es) types sound orderly reaches =
      (reaches.0, all_same functions ds es (global_types (typed_declaration (Global name binder None)) ++ types) sound.1 orderly.1 reaches.1)
  all_same functions (Function function ∷ ds) (Function other ∷ es) types sound orderly reaches = (
    record {
      parameters = reaches.0.0;
      result = reaches.0.1.0;
      body = same_expression function.body other.body (body_types (typed_function_of function) types) sound.0.body orderly.0 reaches.0.1.1;
    },
    all_same functions ds es types sound.1 orderly.1 reaches.1,
  )
  all_same functions (Global name binder (Some value) ∷ ds) (Global other_name other_binder None ∷ es) types sound orderly reaches = absurd reaches.0
  all_same functions (Global name binder (Some value) ∷ ds) (Function other ∷ es) types sound orderly reaches = absurd reaches.0
  all_same functions (Global name binder None ∷ ds) (Global other_name other_binder (Some other) ∷ es) types sound orderly reaches = absurd reaches.0
  all_same functions (Global name binder None ∷ ds) (Function other ∷ es) types sound orderly reaches = absurd reaches.0
  all_same functions (Function function ∷ ds) (Global other_name other_binder None ∷ es) types sound orderly reaches = absurd reaches.0
  all_same functions (Function function ∷ ds) (Global other_name other_binder (Some other) ∷ es) types sound orderly reaches = absurd reaches.0

pub rewriting_keeps_outcomes : RewritingKeepsOutcomes
rewriting_keeps_outcomes limit s variables plan other documents forest honest fit sound orderly reaches =
    let parts = parts_reached (plan_rule_setting s variables) reaches.applications plan other reaches.reached in
    same_queries_have_the_outcome Carried limit s (carried_binders variables) (typed_query plan) other documents forest honest fit sound (record {
      declarations = all_same s orderly.schemas_kept variables orderly.none_carries (functions_declared (typed_query plan).declarations []) plan.declarations other.declarations []
          sound.declarations orderly.declarations parts.declarations;
      body = same_expression s orderly.schemas_kept variables orderly.none_carries plan.body other.body (types_declared (typed_query plan).declarations []) sound.body orderly.body parts.body;
    })
    ∙ sym (plans_have_the_outcome_of_their_typed_core limit s plan documents forest)

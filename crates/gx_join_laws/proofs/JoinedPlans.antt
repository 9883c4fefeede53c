-- With hash joins, a rewritten plan has the outcome of the query.
use Rattle.std.proofs.Common.{◌≡◌, None, Some, List, [], ◌∷◌, ◌++◌, map, sym, ◌∙◌}
use Rattle.gx_types.specs.SchemaSet.{SchemaSet}
use Rattle.gx_types.specs.SchemaInvariant.{IsSchemaSet}
use Rattle.gx_model.specs.Forest.{PlainNode, Forest}
use Rattle.gx_core.specs.declared.expression.Declaration.{Declaration}
use Rattle.gx_core.specs.declared.expression.Declaration.TheVariants.{Global, Function}
use Rattle.gx_core.specs.declared.signature.FunctionSignature.{FunctionSignature}
use Rattle.gx_core.specs.Queries.{TypedDeclaration, TypedFunction}
use Rattle.gx_core.specs.CalledFunctions.{AllCalls}
use Rattle.gx_core.specs.Bindings.{Types, look_up}
use Rattle.gx_core.specs.Meaning.{CallOutcomes}
use Rattle.gx_core.specs.QueryMeaning.{plain_declaration, plain_query, global_types, types_declared, functions_declared, DocumentsFit}
use Rattle.gx_core.specs.Soundness.{TypedExpression, Setting, context_of}
use Rattle.gx_core.proofs.SoundQueries.{keeps_its_type}
use Rattle.gx_static.proofs.QueryLaws.{query_sound}
use Rattle.gx_plan.specs.declared.plan.Carried.{Carried}
use Rattle.gx_plan.specs.Compiling.{compiled_declaration, compiled_query}
use Rattle.gx_plan.specs.FullSoundness.{Binders, carrying_setting, body_types, IsFullySound, DeclarationsAreFullySound, IsFullySoundQuery}
use Rattle.gx_plan.specs.Plan.{PlanExpression, PlanQuery, typed_expression, typed_declaration, typed_query}
use Rattle.gx_plan.specs.StandingFor.{IsSameExpression, KeepsItsTypeWithCalls, DeclarationsKeepTheirTypes}
use Rattle.gx_plan.specs.Variables.{variables_of_query}
use Rattle.gx_plan.proofs.AgreeingCalls.{same_expressions_may_stand_for}
use Rattle.gx_plan.proofs.CompiledQueries.{compiling_keeps_outcomes}
use Rattle.gx_plan.proofs.TypedPlans.{plans_mean_their_typed_core, plans_have_the_outcome_of_their_typed_core}
use Rattle.gx_rules.specs.Normal.{PlanReaches}
use Rattle.gx_sound_typing.specs.CarriedTyping.{CarryAllBound, CarryBoundInDeclarations}
use Rattle.gx_sound_typing.proofs.CompiledPlans.{compiled_queries_carry_bound, compiled_plans_are_fully_sound}
use Rattle.gx_rule_laws.specs.QuietValues.{carried_binders, plan_setting}
use Rattle.gx_rule_laws.specs.KeepingSoundness.{StandsInPlan, plan_rule_setting, IsRewrittenWell}
use Rattle.gx_rule_laws.specs.RewrittenQueries.{IsOrderly, typed_function_of, AreOrderlyDeclarations, IsOrderlyPlan}
use Rattle.gx_rule_laws.specs.FairJoins.{HasFairJoins}
use Rattle.gx_rule_laws.specs.FairPlans.{BecomesFair, DeclarationsBecomeFair, PlanBecomesFair}
use Rattle.gx_rule_laws.proofs.AllRules.{rewriting_keeps}
use Rattle.gx_rule_laws.proofs.FairPlans.{compiled_plans_have_no_join, rewritten_plans_have_fair_joins}
use Rattle.gx_rule_laws.proofs.OrderlyPlans.{compiled_plans_are_orderly}
use Rattle.gx_rule_laws.proofs.RewrittenPlans.{ReachesDeclarations, parts_reached}
use Rattle.gx_join_laws.specs.FairMeaning.{IsReadyToJoin}
use Rattle.gx_join_laws.specs.JoinedStanding.{JoinedMayStandFor, JoinedDeclarationsMayStandFor}
use Rattle.gx_join_laws.specs.JoinedPlans.{JoinedPlansHaveTheOutcome}
use Rattle.gx_join_laws.proofs.JoinedCalls.{fair_joins_may_stand_for}
use Rattle.gx_join_laws.proofs.JoinedStandIns.{joined_stand_ins_have_the_outcome}
use Rattle.gx_join_laws.proofs.LoopItems.{sound_loops_take_items}
use Rattle.gx_join_laws.proofs.LoopsInRewriting.{rewriting_keeps_loop_items}

-- ---- values keep their types

expression_keeps : (s : SchemaSet) (binders : Binders) (e : TypedExpression) (types : Types) → IsFullySound s binders e types → KeepsItsTypeWithCalls s e types
expression_keeps s binders e types h known calls called situation =
    keeps_its_type (carrying_setting s binders known calls) e types (h.sound known calls called) (record {
      bindings = situation.bindings;
      forest = situation.forest;
      honest = situation.honest;
      fits = situation.fits;
      calls_keep = situation.calls_keep;
    })

declarations_keep : (s : SchemaSet) (binders : Binders) (functions : List (TypedFunction × Types)) (ds : List TypedDeclaration) (types : Types)
    → DeclarationsAreFullySound s binders functions ds types → DeclarationsKeepTheirTypes s functions ds types
declarations_keep s binders functions [] types h = tt
declarations_keep s binders functions (Global name binder (Some value) ∷ ds) types h = (
  (expression_keeps s binders value types h.0.0, h.0.1),
  declarations_keep s binders functions ds (global_types (Global name binder (Some value)) ++ types) h.1,
)
declarations_keep s binders functions (Global name binder None ∷ ds) types h =
    (tt, declarations_keep s binders functions ds (global_types (Global name binder None) ++ types) h.1)
declarations_keep s binders functions (Function f ∷ ds) types h = (
  record { body = expression_keeps s binders f.body (body_types f types) h.0.body; converts = h.0.converts },
  declarations_keep s binders functions ds types h.1,
)

-- ---- expressions of two plans

module _ (s : SchemaSet) (is : IsSchemaSet s) (variables : Types) (none : look_up variables 0 ≡ None) where
  stands_here : (e : PlanExpression) (types : Types) → IsFullySound s (carried_binders variables) (typed_expression e) types → IsOrderly variables e types
      → (known : List FunctionSignature) (calls : CallOutcomes) → AllCalls known (typed_expression e) → StandsInPlan s variables known calls e types
  stands_here e types sound orderly known calls all = record {
    stands = record { schemas = is; regular = orderly.regular; sound = sound.sound known calls all; well_bound = sound.well_bound known calls all };
    positions = orderly.positions;
    none_carries = none;
    none_typed = orderly.none_typed;
  }

  same_expression : (e other : PlanExpression) (types : Types) → IsFullySound s (carried_binders variables) (typed_expression e) types → IsOrderly variables e types
      → PlanReaches (plan_rule_setting s variables) e other → IsSameExpression s other (typed_expression e) types
  same_expression e other types sound orderly reaches known calls all situation =
      let setting : Setting = plan_setting s variables known calls in
      plans_mean_their_typed_core (context_of setting) other situation.bindings situation.forest
      ∙ (rewriting_keeps s variables known calls e other types (stands_here e types sound orderly known calls all) reaches).same (record {
        bindings = situation.bindings;
        forest = situation.forest;
        honest = situation.honest;
        fits = situation.fits;
        calls_keep = situation.calls_keep;
      })

  ready_expression : (e other : PlanExpression) (types : Types) → IsFullySound s (carried_binders variables) (typed_expression e) types → IsOrderly variables e types
      → CarryAllBound variables (typed_expression e) → PlanReaches (plan_rule_setting s variables) e other → BecomesFair s variables e other types
      → (known : List FunctionSignature) (calls : CallOutcomes) → AllCalls known (typed_expression e) → IsReadyToJoin s variables known calls other types
  ready_expression e other types sound orderly carry reaches fair known calls all =
      let stands : StandsInPlan s variables known calls e types = stands_here e types sound orderly known calls all in
      let there : IsRewrittenWell s variables known calls e other types = rewriting_keeps s variables known calls e other types stands reaches in
      let joins : HasFairJoins (plan_setting s variables known calls) other types = fair.valued known calls all in
      record {
        sound = there.stands.stands.sound;
        well_bound = there.stands.stands.well_bound;
        fair = joins.fair;
        apart = fair.apart;
        items = rewriting_keeps_loop_items s variables known calls e other types stands
            (sound_loops_take_items s variables known calls e types (sound.sound known calls all) carry) reaches;
      }

  expression_stands : (e other : PlanExpression) (types : Types) → IsFullySound s (carried_binders variables) (typed_expression e) types → IsOrderly variables e types
      → CarryAllBound variables (typed_expression e) → PlanReaches (plan_rule_setting s variables) e other → BecomesFair s variables e other types
      → JoinedMayStandFor s other (typed_expression e) types
  expression_stands e other types sound orderly carry reaches fair =
      fair_joins_may_stand_for s variables (typed_expression e) other types (ready_expression e other types sound orderly carry reaches fair)
      (same_expressions_may_stand_for Carried s (carried_binders variables) (typed_expression e) other types sound (same_expression e other types sound orderly reaches))

  declarations_stand : (functions : List (TypedFunction × Types)) (ds es : List (Declaration Carried)) (types : Types)
      → DeclarationsAreFullySound s (carried_binders variables) functions (map typed_declaration ds) types → AreOrderlyDeclarations variables ds types
      → CarryBoundInDeclarations variables (map typed_declaration ds) → ReachesDeclarations (plan_rule_setting s variables) ds es
      → DeclarationsBecomeFair s variables ds es types → JoinedDeclarationsMayStandFor s es (map typed_declaration ds) types
  declarations_stand functions [] [] types sound orderly carry reaches fair = tt
  declarations_stand functions [] (e ∷ es) types sound orderly carry reaches fair = absurd reaches
  declarations_stand functions (d ∷ ds) [] types sound orderly carry reaches fair = absurd reaches
  declarations_stand functions (Global name binder (Some value) ∷ ds) (Global other_name other_binder (Some other) ∷ es) types sound orderly carry reaches fair = (
    (reaches.0.0, expression_stands value other types sound.0.0 orderly.0 carry.0 reaches.0.1 fair.0),
    declarations_stand functions ds es (global_types (typed_declaration (Global name binder (Some value))) ++ types) sound.1 orderly.1 carry.1 reaches.1 fair.1,
  )
  declarations_stand functions (Global name binder None ∷ ds) (Global other_name other_binder None ∷ es) types sound orderly carry reaches fair =
      (reaches.0, declarations_stand functions ds es (global_types (typed_declaration (Global name binder None)) ++ types) sound.1 orderly.1 carry.1 reaches.1 fair.1)
  declarations_stand functions (Function function ∷ ds) (Function other ∷ es) types sound orderly carry reaches fair = (
    record {
      parameters = reaches.0.0;
      result = reaches.0.1.0;
      body = expression_stands function.body other.body (body_types (typed_function_of function) types) sound.0.body orderly.0 carry.0 reaches.0.1.1 fair.0;
    },
    declarations_stand functions ds es types sound.1 orderly.1 carry.1 reaches.1 fair.1,
  )
  declarations_stand functions (Global name binder (Some value) ∷ ds) (Global other_name other_binder None ∷ es) types sound orderly carry reaches fair = absurd reaches.0
  declarations_stand functions (Global name binder (Some value) ∷ ds) (Function other ∷ es) types sound orderly carry reaches fair = absurd reaches.0
  declarations_stand functions (Global name binder None ∷ ds) (Global other_name other_binder (Some other) ∷ es) types sound orderly carry reaches fair = absurd reaches.0
  declarations_stand functions (Global name binder None ∷ ds) (Function other ∷ es) types sound orderly carry reaches fair = absurd reaches.0
  declarations_stand functions (Function function ∷ ds) (Global other_name other_binder None ∷ es) types sound orderly carry reaches fair = absurd reaches.0
  declarations_stand functions (Function function ∷ ds) (Global other_name other_binder (Some other) ∷ es) types sound orderly carry reaches fair = absurd reaches.0

-- ---- whole queries

-- the external variables of a plan are those of its query
documents_fit : (s : SchemaSet) (forest : Forest) (ds : List TypedDeclaration) (documents : List PlainNode)
    → DocumentsFit s forest (map plain_declaration ds) documents
    → DocumentsFit s forest (map plain_declaration (map typed_declaration (map compiled_declaration ds))) documents
documents_fit s forest [] documents h = tt
documents_fit s forest (Function function ∷ ds) documents h = documents_fit s forest ds documents h
documents_fit s forest (Global name binder (Some value) ∷ ds) documents h = documents_fit s forest ds documents h
documents_fit s forest (Global name binder None ∷ ds) [] h = absurd h
documents_fit s forest (Global name binder None ∷ ds) (document ∷ documents) h = (h.0, documents_fit s forest ds documents h.1)

pub joined_plans_have_the_outcome : JoinedPlansHaveTheOutcome
joined_plans_have_the_outcome limit s query other documents forest is well honest fit reaches =
    let plan : PlanQuery = compiled_query query in
    let variables : Types = variables_of_query plan in
    let sound : IsFullySoundQuery s (carried_binders variables) (typed_query plan) =
    compiled_plans_are_fully_sound s (plain_query query) query is well.judged well.variables well.calls in
    let orderly : IsOrderlyPlan s variables plan = compiled_plans_are_orderly s query is well in
    let carry = compiled_queries_carry_bound s (plain_query query) query is well.judged well.variables in
    let fair : PlanBecomesFair s variables plan other = rewritten_plans_have_fair_joins s variables plan other sound orderly (compiled_plans_have_no_join query) reaches in
    let parts = parts_reached (plan_rule_setting s variables) reaches.applications plan other reaches.reached in
    joined_stand_ins_have_the_outcome limit s (typed_query plan) other documents forest honest (documents_fit s forest query.declarations documents fit)
    (record {
      declarations = declarations_keep s (carried_binders variables) (functions_declared (typed_query plan).declarations []) (typed_query plan).declarations [] sound.declarations;
      body = expression_keeps s (carried_binders variables) (typed_query plan).body (types_declared (typed_query plan).declarations []) sound.body;
      calls = sound.calls;
    })
    (record {
      declarations = declarations_stand s is variables orderly.none_carries (functions_declared (typed_query plan).declarations []) plan.declarations other.declarations []
          sound.declarations orderly.declarations carry.declarations parts.declarations fair.declarations;
      body = expression_stands s is variables orderly.none_carries plan.body other.body (types_declared (typed_query plan).declarations []) sound.body orderly.body carry.body
          parts.body fair.body;
    })
    ∙ sym (plans_have_the_outcome_of_their_typed_core limit s plan documents forest)
    ∙ compiling_keeps_outcomes limit s query documents forest honest fit ((query_sound s (plain_query query) query is well.judged).sound well.variables well.calls)

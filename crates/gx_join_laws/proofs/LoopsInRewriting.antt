-- Loops take items of the types of their variables where rules are applied inside an expression, any number of times.
use Rattle.std.proofs.Common.{◌≡◌, inl, inr, ℕ, zero, suc, None, List, [], ◌∷◌, ◌++◌, refl, sym, subst}
use Rattle.gx_base.specs.declared.place.Place.{Place}
use Rattle.gx_types.specs.SchemaSet.{SchemaSet}
use Rattle.gx_types.specs.SchemaInvariant.{IsSchemaSet}
use Rattle.gx_types.specs.SequenceType.{SequenceType}
use Rattle.gx_core.specs.declared.expression.Binder.{Binder}
use Rattle.gx_core.specs.declared.operator.Operator.{Operator}
use Rattle.gx_core.specs.declared.operator.Operator.TheVariants as operators
use Rattle.gx_core.specs.declared.signature.FunctionSignature.{FunctionSignature}
use Rattle.gx_core.specs.Bindings.{Types, look_up, numbers_bound_by}
use Rattle.gx_core.specs.Expression.{At, Parts, no_parts, a_part, annotation_of}
use Rattle.gx_core.specs.Meaning.{CallOutcomes, meaning}
use Rattle.gx_core.specs.Soundness.{Setting, context_of, PartsAreSound}
use Rattle.gx_plan.specs.declared.plan.Carried.{Carried}
use Rattle.gx_plan.specs.Plan.{PlanExpression, typed_expression, typed_parts}
use Rattle.gx_plan.specs.Fitting.{PartsAreWellBound}
use Rattle.gx_plan.specs.SameMeaning.{ComesToTheSame}
use Rattle.gx_rules.specs.Normal.{StepsTo, PartStepsTo, ReachesIn}
use Rattle.gx_rule_laws.specs.KeepingRules.{AreRegular}
use Rattle.gx_rule_laws.specs.KeepingSoundness.{PartsCountByIntegers, StandsInPlan, plan_rule_setting, IsRewrittenWell}
use Rattle.gx_rule_laws.specs.QuietValues.{carried_types, plan_setting}
use Rattle.gx_rule_laws.proofs.AllRules.{rewriting_keeps}
use Rattle.gx_rule_laws.proofs.Rewriting.{units, units_next, none_typed_behind}
use Rattle.gx_join_laws.specs.LoopItems.{EachBelongs, TakesItems, LoopTakesItems, LoopsTakeItems, LoopsInPartsTakeItems, RewritingKeepsLoopItems}
use Rattle.gx_join_laws.proofs.LoopsInRules.{rule_takes}

module _ (s : SchemaSet) (variables : Types) (known : List FunctionSignature) (calls : CallOutcomes) where
  abbrev setting : Setting
  setting = plan_setting s variables known calls

  abbrev Stands : PlanExpression → Types → Type 0
  Stands e types = StandsInPlan s variables known calls e types

  abbrev Take : PlanExpression → Types → Type 0
  Take e types = LoopsTakeItems setting variables e types

  one_step : (e other : PlanExpression) (types : Types) → Stands e types → StepsTo (plan_rule_setting s variables) e other
      → IsRewrittenWell s variables known calls e other types
  one_step e other types stands steps = rewriting_keeps s variables known calls e other types stands (record { applications = suc zero; reached = (other, steps, refl) })

  -- ---- one operator

  takes_so : (binder : Binder) (source other : PlanExpression) (types : Types)
      → ComesToTheSame setting (meaning (context_of setting) (typed_expression other)) (typed_expression source) types
      → TakesItems setting variables binder source types → TakesItems setting variables binder other types
  takes_so binder source other types same h = record {
    t = h.t;
    carried = h.carried;
    items = λ situation. subst (EachBelongs s h.t) (sym (same situation)) (h.items situation);
  }

  operator_takes : (place outer : Place) (carried : Carried) (operator : Operator) (parts others : Parts Carried) (types : Types)
      → Stands (At place outer carried operator parts) types → LoopTakesItems setting variables operator parts types
      → PartStepsTo (plan_rule_setting s variables) parts others → LoopTakesItems setting variables operator others types
  operator_takes place outer carried (operators.For binder position) no_parts others types stands h steps = absurd steps
  operator_takes place outer carried (operators.For binder position) (a_part source rest) others types stands h (inl (d, is, steps)) =
      let source_stands : Stands source types = record {
        stands = record { schemas = stands.stands.schemas; regular = stands.stands.regular.1.0; sound = stands.stands.sound.1.0; well_bound = stands.stands.well_bound.1.0 };
        positions = stands.positions.1.0;
        none_carries = stands.none_carries;
        none_typed = stands.none_typed;
      } in
      subst (λ (ds : Parts Carried). LoopTakesItems setting variables (operators.For binder position) ds types) (sym is)
      (takes_so binder source d types (one_step source d types source_stands steps).same h)
  operator_takes place outer carried (operators.For binder position) (a_part source rest) others types stands h (inr (ds, is, steps)) =
      subst (λ (es : Parts Carried). LoopTakesItems setting variables (operators.For binder position) es types) (sym is) h
  operator_takes place outer carried _ parts others types stands h steps = tt

  -- ---- parts behind others

  takes_behind : (operator : Operator) (before other : List SequenceType) (parts : Parts Carried) (types : Types) → units before ≡ units other
      → LoopsInPartsTakeItems setting variables operator before parts types → LoopsInPartsTakeItems setting variables operator other parts types
  takes_behind operator before other no_parts types e h = tt
  takes_behind operator before other (a_part first others) types e h = (
    subst (λ (us : List (Unit {0})). LoopsTakeItems setting variables first (carried_types variables (numbers_bound_by operator us) ++ types)) e h.0,
    takes_behind operator (before ++ annotation_of (typed_expression first) ∷ []) (other ++ annotation_of (typed_expression first) ∷ []) others types
        (units_next before other (annotation_of (typed_expression first)) (annotation_of (typed_expression first)) e) h.1,
  )

  record PartsHere (operator : Operator) (before : List SequenceType) (parts : Parts Carried) (types : Types) : Type 0 where
    sound : PartsAreSound setting operator before (typed_parts parts) types
    bound : PartsAreWellBound setting operator before (typed_parts parts) types
    regular : AreRegular parts
    positions : PartsCountByIntegers variables parts

  -- ---- one application

  mutual
    steps_take : (e other : PlanExpression) (types : Types) → Stands e types → Take e types → StepsTo (plan_rule_setting s variables) e other → Take other types
    steps_take (At place outer carried operator parts) other types stands h (inl applies) =
        rule_takes s variables known calls applies.rule (At place outer carried operator parts) other types stands h applies.gives
    steps_take (At place outer carried operator parts) other types stands h (inr (others, is, steps)) =
        let inside = part_steps_take operator [] parts others types stands.none_carries stands.none_typed stands.stands.schemas (record {
          sound = stands.stands.sound.1;
          bound = stands.stands.well_bound.1;
          regular = stands.stands.regular.1;
          positions = stands.positions.1;
        }) h.1 steps in
        subst (λ (d : PlanExpression). Take d types) (sym is) (operator_takes place outer carried operator parts others types stands h.0 steps, inside)

    part_steps_take : (operator : Operator) (before : List SequenceType) (parts others : Parts Carried) (types : Types) → look_up variables 0 ≡ None
        → look_up types 0 ≡ None → IsSchemaSet s → PartsHere operator before parts types → LoopsInPartsTakeItems setting variables operator before parts types
        → PartStepsTo (plan_rule_setting s variables) parts others → LoopsInPartsTakeItems setting variables operator before others types
    part_steps_take operator before no_parts others types v t is here h steps = absurd steps
    part_steps_take operator before (a_part e es) others types v t is here h (inl (d, same, steps)) =
        let first = steps_take e d (setting.binders operator before ++ types) (record {
          stands = record { schemas = is; regular = here.regular.0; sound = here.sound.0; well_bound = here.bound.0 };
          positions = here.positions.0;
          none_carries = v;
          none_typed = none_typed_behind variables (numbers_bound_by operator (units before)) types v t;
        }) h.0 steps in
        let count : units (before ++ annotation_of (typed_expression e) ∷ []) ≡ units (before ++ annotation_of (typed_expression d) ∷ []) =
        units_next before before (annotation_of (typed_expression e)) (annotation_of (typed_expression d)) refl in
        subst (λ (ds : Parts Carried). LoopsInPartsTakeItems setting variables operator before ds types) (sym same)
        (first, takes_behind operator (before ++ annotation_of (typed_expression e) ∷ []) (before ++ annotation_of (typed_expression d) ∷ []) es types count h.1)
    part_steps_take operator before (a_part e es) others types v t is here h (inr (ds, same, steps)) =
        let rest = part_steps_take operator (before ++ annotation_of (typed_expression e) ∷ []) es ds types v t is (record {
          sound = here.sound.1;
          bound = here.bound.1;
          regular = here.regular.1;
          positions = here.positions.1;
        }) h.1 steps in
        subst (λ (fs : Parts Carried). LoopsInPartsTakeItems setting variables operator before fs types) (sym same) (h.0, rest)

  reached_take : (applications : ℕ) (e other : PlanExpression) (types : Types) → Stands e types → Take e types
      → ReachesIn (StepsTo (plan_rule_setting s variables)) applications e other → Take other types
  reached_take zero e other types stands h same = subst (λ (d : PlanExpression). Take d types) same h
  reached_take (suc n) e other types stands h (next, steps, rest) =
      reached_take n next other types (one_step e next types stands steps).stands (steps_take e next types stands h steps) rest

pub rewriting_keeps_loop_items : RewritingKeepsLoopItems
rewriting_keeps_loop_items s variables known calls e other types stands items reaches =
    reached_take s variables known calls reaches.applications e other types stands items reaches.reached

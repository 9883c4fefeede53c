-- Joins stay fair where rules are rewritten_by inside an expression, any number of times.
use Rattle.std.proofs.Common.{◌≡◌, inl, inr, ℕ, zero, suc, None, List, [], ◌∷◌, ◌++◌, refl, sym, ◌∙◌, ap, subst}
use Rattle.gx_base.specs.declared.place.Place.{Place}
use Rattle.gx_types.specs.SchemaSet.{SchemaSet}
use Rattle.gx_types.specs.SchemaInvariant.{IsSchemaSet}
use Rattle.gx_types.specs.SequenceType.{SequenceType}
use Rattle.gx_core.specs.declared.operator.Operator.{Operator}
use Rattle.gx_core.specs.declared.operator.Operator.TheVariants as operators
use Rattle.gx_core.specs.declared.signature.FunctionSignature.{FunctionSignature}
use Rattle.gx_core.specs.Bindings.{Types, look_up, numbers_bound_by}
use Rattle.gx_core.specs.Expression.{At, Parts, no_parts, a_part, annotation_of}
use Rattle.gx_core.specs.Meaning.{CallOutcomes}
use Rattle.gx_core.specs.Soundness.{Setting, PartsAreSound}
use Rattle.gx_plan.specs.declared.plan.Carried.{Carried}
use Rattle.gx_plan.specs.Plan.{PlanExpression, typed_expression, typed_parts}
use Rattle.gx_plan.specs.Fitting.{PartsAreWellBound}
use Rattle.gx_rules.specs.Normal.{StepsTo, PartStepsTo, ReachesIn}
use Rattle.gx_rule_laws.specs.KeepingRules.{AreRegular}
use Rattle.gx_rule_laws.specs.KeepingSoundness.{PartsCountByIntegers, StandsInPlan, plan_rule_setting, IsRewrittenWell}
use Rattle.gx_rule_laws.specs.QuietValues.{carried_types, plan_setting, JoinsCompareInPlace, JoinsInPartsCompareInPlace}
use Rattle.gx_rule_laws.specs.FairJoins.{IsFairOperator, AreJoinsFair, JoinsInPartsAreFair, HasFairJoins, RewritingKeepsJoinsFair}
use Rattle.gx_rule_laws.proofs.AllRules.{rewriting_keeps}
use Rattle.gx_rule_laws.proofs.FairMaking.{rule_fair}
use Rattle.gx_rule_laws.proofs.FairSteps.{value_so, keys_so}
use Rattle.gx_rule_laws.proofs.Rewriting.{units, units_next, none_typed_behind}

module _ (s : SchemaSet) (variables : Types) (known : List FunctionSignature) (calls : CallOutcomes) where
  abbrev setting : Setting
  setting = plan_setting s variables known calls

  abbrev Stands : PlanExpression → Types → Type 0
  Stands e types = StandsInPlan s variables known calls e types

  abbrev Fair : PlanExpression → Types → Type 0
  Fair e types = HasFairJoins setting e types

  one_step : (e other : PlanExpression) (types : Types) → Stands e types → StepsTo (plan_rule_setting s variables) e other
      → IsRewrittenWell s variables known calls e other types
  one_step e other types stands steps = rewriting_keeps s variables known calls e other types stands (record { applications = suc zero; reached = (other, steps, refl) })

  -- ---- one operator

  operator_fair : (place outer : Place) (carried : Carried) (operator : Operator) (parts others : Parts Carried) (types : Types)
      → Stands (At place outer carried operator parts) types → IsFairOperator setting (At place outer carried operator parts) types
      → PartStepsTo (plan_rule_setting s variables) parts others → IsFairOperator setting (At place outer carried operator others) types
  operator_fair place outer carried (operators.For binder position) no_parts others types stands h steps = absurd steps
  operator_fair place outer carried (operators.For binder position) (a_part source rest) others types stands h (inl (d, is, steps)) =
      let source_stands : Stands source types = record {
        stands = record { schemas = stands.stands.schemas; regular = stands.stands.regular.1.0; sound = stands.stands.sound.1.0; well_bound = stands.stands.well_bound.1.0 };
        positions = stands.positions.1.0;
        none_carries = stands.none_carries;
        none_typed = stands.none_typed;
      } in
      subst (λ (ds : Parts Carried). IsFairOperator setting (At place outer carried (operators.For binder position) ds) types) (sym is)
      (λ marked. value_so setting source d types (one_step source d types source_stands steps).same (h marked))
  operator_fair place outer carried (operators.For binder position) (a_part source rest) others types stands h (inr (ds, is, steps)) =
      subst (λ (es : Parts Carried). IsFairOperator setting (At place outer carried (operators.For binder position) es) types) (sym is) h
  operator_fair place outer carried (operators.Binary op) no_parts others types stands h steps = absurd steps
  operator_fair place outer carried (operators.Binary op) (a_part left no_parts) others types stands h (inl (d, is, steps)) =
      subst (λ (ds : Parts Carried). IsFairOperator setting (At place outer carried (operators.Binary op) ds) types) (sym is) tt
  operator_fair place outer carried (operators.Binary op) (a_part left no_parts) others types stands h (inr (ds, is, steps)) = absurd steps
  operator_fair place outer carried (operators.Binary op) (a_part left (a_part right no_parts)) others types stands h (inl (d, is, steps)) =
      let left_stands : Stands left types = record {
        stands = record { schemas = stands.stands.schemas; regular = stands.stands.regular.1.0; sound = stands.stands.sound.1.0; well_bound = stands.stands.well_bound.1.0 };
        positions = stands.positions.1.0;
        none_carries = stands.none_carries;
        none_typed = stands.none_typed;
      } in
      subst (λ (ds : Parts Carried). IsFairOperator setting (At place outer carried (operators.Binary op) ds) types) (sym is)
      (λ marked. keys_so setting left right d right types (one_step left d types left_stands steps).same (λ situation. refl) (h marked))
  operator_fair place outer carried (operators.Binary op) (a_part left (a_part right no_parts)) others types stands h (inr (ds, is, inl (d, is_part, steps))) =
      let right_stands : Stands right types = record {
        stands = record { schemas = stands.stands.schemas; regular = stands.stands.regular.1.1.0; sound = stands.stands.sound.1.1.0; well_bound = stands.stands.well_bound.1.1.0 };
        positions = stands.positions.1.1.0;
        none_carries = stands.none_carries;
        none_typed = stands.none_typed;
      } in
      subst (λ (es : Parts Carried). IsFairOperator setting (At place outer carried (operators.Binary op) es) types) (sym (is ∙ ap (a_part left) is_part))
      (λ marked. keys_so setting left right left d types (λ situation. refl) (one_step right d types right_stands steps).same (h marked))
  operator_fair place outer carried (operators.Binary op) (a_part left (a_part right no_parts)) others types stands h (inr (ds, is, inr (es, is_part, steps))) = absurd steps
  operator_fair place outer carried (operators.Binary op) (a_part left (a_part right (a_part third more))) others types stands h (inl (d, is, steps)) =
      subst (λ (ds : Parts Carried). IsFairOperator setting (At place outer carried (operators.Binary op) ds) types) (sym is) tt
  operator_fair place outer carried (operators.Binary op) (a_part left (a_part right (a_part third more))) others types stands h (inr (ds, is, inl (d, is_part, steps))) =
      subst (λ (es : Parts Carried). IsFairOperator setting (At place outer carried (operators.Binary op) es) types) (sym (is ∙ ap (a_part left) is_part)) tt
  operator_fair place outer carried (operators.Binary op) (a_part left (a_part right (a_part third more))) others types stands h (inr (ds, is, inr (es, is_part, inl (d, is_third, steps)))) =
      subst (λ (fs : Parts Carried). IsFairOperator setting (At place outer carried (operators.Binary op) fs) types)
      (sym (is ∙ ap (a_part left) (is_part ∙ ap (a_part right) is_third))) tt
  operator_fair place outer carried (operators.Binary op) (a_part left (a_part right (a_part third more))) others types stands h (inr (ds, is, inr (es, is_part, inr (fs, is_third, steps)))) =
      subst (λ (gs : Parts Carried). IsFairOperator setting (At place outer carried (operators.Binary op) gs) types)
      (sym (is ∙ ap (a_part left) (is_part ∙ ap (a_part right) is_third))) tt
  operator_fair place outer carried _ parts others types stands h steps = tt

  -- ---- parts behind others

  fair_behind : (operator : Operator) (before other : List SequenceType) (parts : Parts Carried) (types : Types) → units before ≡ units other
      → JoinsInPartsAreFair setting operator before parts types → JoinsInPartsAreFair setting operator other parts types
  fair_behind operator before other no_parts types e h = tt
  fair_behind operator before other (a_part first others) types e h = (
    subst (λ (us : List (Unit {0})). AreJoinsFair setting first (carried_types variables (numbers_bound_by operator us) ++ types)) e h.0,
    fair_behind operator (before ++ annotation_of (typed_expression first) ∷ []) (other ++ annotation_of (typed_expression first) ∷ []) others types
        (units_next before other (annotation_of (typed_expression first)) (annotation_of (typed_expression first)) e) h.1,
  )

  compare_behind : (operator : Operator) (before other : List SequenceType) (parts : Parts Carried) (types : Types) → units before ≡ units other
      → JoinsInPartsCompareInPlace setting operator before parts types → JoinsInPartsCompareInPlace setting operator other parts types
  compare_behind operator before other no_parts types e h = tt
  compare_behind operator before other (a_part first others) types e h = (
    subst (λ (us : List (Unit {0})). JoinsCompareInPlace setting first (carried_types variables (numbers_bound_by operator us) ++ types)) e h.0,
    compare_behind operator (before ++ annotation_of (typed_expression first) ∷ []) (other ++ annotation_of (typed_expression first) ∷ []) others types
        (units_next before other (annotation_of (typed_expression first)) (annotation_of (typed_expression first)) e) h.1,
  )

  -- parts that stand in the plan, and whose joins are fair
  record FairParts (operator : Operator) (before : List SequenceType) (parts : Parts Carried) (types : Types) : Type 0 where
    fair : JoinsInPartsAreFair setting operator before parts types
    compare : JoinsInPartsCompareInPlace setting operator before parts types

  record PartsHere (operator : Operator) (before : List SequenceType) (parts : Parts Carried) (types : Types) : Type 0 where
    sound : PartsAreSound setting operator before (typed_parts parts) types
    bound : PartsAreWellBound setting operator before (typed_parts parts) types
    regular : AreRegular parts
    positions : PartsCountByIntegers variables parts

  -- ---- one application

  mutual
    steps_fair : (e other : PlanExpression) (types : Types) → Stands e types → Fair e types → StepsTo (plan_rule_setting s variables) e other → Fair other types
    steps_fair (At place outer carried operator parts) other types stands h (inl applies) =
        rule_fair s variables known calls applies.rule (At place outer carried operator parts) other types stands h applies.gives
    steps_fair (At place outer carried operator parts) other types stands h (inr (others, is, steps)) =
        let whole = one_step (At place outer carried operator parts) (At place outer carried operator others) types stands (inr (others, refl, steps)) in
        let inside = part_steps_fair operator [] parts others types stands.none_carries stands.none_typed stands.stands.schemas (record {
          sound = stands.stands.sound.1;
          bound = stands.stands.well_bound.1;
          regular = stands.stands.regular.1;
          positions = stands.positions.1;
        }) (record { fair = h.fair.1; compare = h.compare.1 }) steps in
        subst (λ (d : PlanExpression). Fair d types) (sym is) (record {
          fair = (operator_fair place outer carried operator parts others types stands h.fair.0 steps, inside.fair);
          compare = (
            (λ marked. value_so setting (At place outer carried operator parts) (At place outer carried operator others) types whole.same (h.compare.0 marked)),
            inside.compare,
          );
        })

    part_steps_fair : (operator : Operator) (before : List SequenceType) (parts others : Parts Carried) (types : Types) → look_up variables 0 ≡ None
        → look_up types 0 ≡ None → IsSchemaSet s → PartsHere operator before parts types → FairParts operator before parts types
        → PartStepsTo (plan_rule_setting s variables) parts others → FairParts operator before others types
    part_steps_fair operator before no_parts others types v t is here h steps = absurd steps
    part_steps_fair operator before (a_part e es) others types v t is here h (inl (d, same, steps)) =
        let first = steps_fair e d (setting.binders operator before ++ types) (record {
          stands = record { schemas = is; regular = here.regular.0; sound = here.sound.0; well_bound = here.bound.0 };
          positions = here.positions.0;
          none_carries = v;
          none_typed = none_typed_behind variables (numbers_bound_by operator (units before)) types v t;
        }) (record { fair = h.fair.0; compare = h.compare.0 }) steps in
        let count : units (before ++ annotation_of (typed_expression e) ∷ []) ≡ units (before ++ annotation_of (typed_expression d) ∷ []) =
        units_next before before (annotation_of (typed_expression e)) (annotation_of (typed_expression d)) refl in
        subst (λ (ds : Parts Carried). FairParts operator before ds types) (sym same) (record {
          fair = (first.fair, fair_behind operator (before ++ annotation_of (typed_expression e) ∷ []) (before ++ annotation_of (typed_expression d) ∷ []) es types count h.fair.1);
          compare = (first.compare, compare_behind operator (before ++ annotation_of (typed_expression e) ∷ []) (before ++ annotation_of (typed_expression d) ∷ []) es types count h.compare.1);
        })
    part_steps_fair operator before (a_part e es) others types v t is here h (inr (ds, same, steps)) =
        let rest = part_steps_fair operator (before ++ annotation_of (typed_expression e) ∷ []) es ds types v t is (record {
          sound = here.sound.1;
          bound = here.bound.1;
          regular = here.regular.1;
          positions = here.positions.1;
        }) (record { fair = h.fair.1; compare = h.compare.1 }) steps in
        subst (λ (fs : Parts Carried). FairParts operator before fs types) (sym same)
        (record { fair = (h.fair.0, rest.fair); compare = (h.compare.0, rest.compare) })

  reached_fair : (applications : ℕ) (e other : PlanExpression) (types : Types) → Stands e types → Fair e types
      → ReachesIn (StepsTo (plan_rule_setting s variables)) applications e other → Fair other types
  reached_fair zero e other types stands h same = subst (λ (d : PlanExpression). Fair d types) same h
  reached_fair (suc n) e other types stands h (next, steps, rest) =
      reached_fair n next other types (one_step e next types stands steps).stands (steps_fair e next types stands h steps) rest

pub rewriting_keeps_joins_fair : RewritingKeepsJoinsFair
rewriting_keeps_joins_fair s variables known calls e other types stands fair reaches =
    reached_fair s variables known calls reaches.applications e other types stands fair reaches.reached

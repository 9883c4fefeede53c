-- Applications of rules inside an expression, and any number of them.
use Rattle.std.proofs.Common.{◌≡◌, ℕ, zero, suc, nat_eq, Bool, true, false, inl, inr, Option, None, Some, List, [], ◌∷◌, ◌++◌, map, take, refl, sym, ◌∙◌, ap, subst, if◌then◌else◌}
use Rattle.std.specs.List.{AllByRecursion}
use Rattle.std.proofs.lemmas.Bool.{eqb-true}
use Rattle.gx_base.specs.declared.place.Place.{Place}
use Rattle.gx_types.specs.SchemaSet.{SchemaSet}
use Rattle.gx_types.specs.SchemaInvariant.{IsSchemaSet}
use Rattle.gx_types.specs.SequenceType.{SequenceType}
use Rattle.gx_model.specs.Forest.{Forest}
use Rattle.gx_model.specs.Item.{Items}
use Rattle.gx_model.proofs.ListLemmas.{map_appended}
use Rattle.gx_core.specs.declared.operator.Operator.{Operator}
use Rattle.gx_core.specs.declared.signature.FunctionSignature.{FunctionSignature}
use Rattle.gx_core.specs.Bindings.{Types, look_up, numbers_bound_by}
use Rattle.gx_core.specs.Evaluations.{evaluations}
use Rattle.gx_core.specs.Expression.{At, Parts, no_parts, a_part, each_of, annotation_of}
use Rattle.gx_core.specs.Meaning.{CallOutcomes, Context, denoted, meanings}
use Rattle.gx_core.specs.Outcome.{Outcome}
use Rattle.gx_core.specs.Soundness.{Setting, context_of, Fits, Keeps, Situation, IsSound, PartsAreSound}
use Rattle.gx_plan.specs.declared.plan.Carried.{Carried}
use Rattle.gx_plan.specs.Plan.{PlanExpression, typed_expression, typed_parts}
use Rattle.gx_plan.specs.Fitting.{FitsAt, BindsWell, IsWellBound, PartsAreWellBound}
use Rattle.gx_plan.specs.SameMeaning.{PartsComeToTheSameFrom}
use Rattle.gx_plan.proofs.ReplacingParts.{well_bound_parts_may_be_replaced}
use Rattle.gx_rules.specs.Rules.{RewritingRule, One, Sorted, Flat, Slashes, Single, Decided, Idle, Joins}
use Rattle.gx_rules.specs.Normal.{StepsTo, PartStepsTo, ReachesIn, PlanReaches}
use Rattle.gx_rule_laws.specs.KeepingRules.{AreRegular, RuleKeeps}
use Rattle.gx_rule_laws.specs.QuietValues.{with_carried, carried_types, plan_setting}
use Rattle.gx_rule_laws.specs.KeepingSoundness.{PartsCountByIntegers, StandsInPlan, plan_rule_setting, RuleHandsOn, IsRewrittenWell}
use Rattle.gx_rule_laws.proofs.Ones.{one_keeps}
use Rattle.gx_rule_laws.proofs.SortedOperands.{sorted_keeps}
use Rattle.gx_rule_laws.proofs.FlatOperands.{flat_keeps}
use Rattle.gx_rule_laws.proofs.SlashedPaths.{slashes_keep}
use Rattle.gx_rule_laws.proofs.SingleItems.{single_keeps}
use Rattle.gx_rule_laws.proofs.DecidedCases.{decided_keeps}
use Rattle.gx_rule_laws.proofs.IdleOperators.{idle_keeps}
use Rattle.gx_rule_laws.proofs.Joins.{joins_keep}
use Rattle.gx_rule_laws.proofs.ReplacedParts.{all_so, same_evaluations}

-- ---- all rules keep

all_keep : (rule : RewritingRule) → RuleKeeps rule
all_keep One = one_keeps
all_keep Sorted = sorted_keeps
all_keep Flat = flat_keeps
all_keep Slashes = slashes_keep
all_keep Single = single_keeps
all_keep Decided = decided_keeps
all_keep Idle = idle_keeps
all_keep Joins = joins_keep

-- ---- what an operator binds depends on the number of the parts before

abbrev pub units : List SequenceType → List (Unit {0})
units ts = map (λ t. tt) ts

pub units_next : (before other : List SequenceType) (t u : SequenceType) → units before ≡ units other → units (before ++ t ∷ []) ≡ units (other ++ u ∷ [])
units_next before other t u e =
    map_appended (λ (x : SequenceType). tt) before (t ∷ []) ∙ ap (λ (us : List (Unit {0})). us ++ tt ∷ []) e
    ∙ sym (map_appended (λ (x : SequenceType). tt) other (u ∷ []))

units_behind : (us vs : List (Unit {0})) → tt ∷ us ≡ tt ∷ vs → us ≡ vs
units_behind us vs e = cc

pub units_taken : (number : ℕ) (ts us : List SequenceType) → units ts ≡ units us → units (take number ts) ≡ units (take number us)
units_taken zero [] [] e = refl
units_taken zero [] (u ∷ us) e = absurd (cc)
units_taken zero (t ∷ ts) [] e = absurd (cc)
units_taken zero (t ∷ ts) (u ∷ us) e = refl
units_taken (suc number) [] [] e = refl
units_taken (suc number) [] (u ∷ us) e = absurd (cc)
units_taken (suc number) (t ∷ ts) [] e = absurd (cc)
units_taken (suc number) (t ∷ ts) (u ∷ us) e =
    ap (λ (vs : List (Unit {0})). tt ∷ vs) (units_taken number ts us (units_behind (units ts) (units us) e))

-- ---- variable 0 has no type in the scope of a binder either

pub none_typed_behind : (variables : Types) (numbers : List ℕ) (types : Types) → look_up variables 0 ≡ None → look_up types 0 ≡ None
    → look_up (carried_types variables numbers ++ types) 0 ≡ None
none_typed_behind variables [] types v t = t
none_typed_behind variables (number ∷ numbers) types v t =
    by_carried number (look_up variables number) refl (none_typed_behind variables numbers types v t)
  where
    by_number : (n : ℕ) (u : SequenceType) (b : Bool) → nat_eq n 0 ≡ b → look_up variables n ≡ Some u → look_up (carried_types variables numbers ++ types) 0 ≡ None
        → (if b then Some u else look_up (carried_types variables numbers ++ types) 0) ≡ None
    by_number n u true e f rest = absurd (some_is_none u (sym f ∙ ap (look_up variables) (eqb-true n 0 e) ∙ v))
      where
        some_is_none : (x : SequenceType) → Some x ≡ None → ⊥
        some_is_none x e = cc
    by_number n u false e f rest = rest

    by_carried : (n : ℕ) (found : Option SequenceType) → look_up variables n ≡ found → look_up (carried_types variables numbers ++ types) 0 ≡ None
        → look_up (with_carried n found (carried_types variables numbers) ++ types) 0 ≡ None
    by_carried n None e rest = rest
    by_carried n (Some u) e rest = by_number n u (nat_eq n 0) refl e rest

module _ (s : SchemaSet) (variables : Types) (known : List FunctionSignature) (calls : CallOutcomes)
    (hands_on : (rule : RewritingRule) → RuleHandsOn rule) where
  abbrev setting : Setting
  setting = plan_setting s variables known calls

  abbrev context : Context
  context = context_of setting

  abbrev Stands : PlanExpression → Types → Type 0
  Stands e types = StandsInPlan s variables known calls e types

  -- parts that follow others stand behind as many others
  sound_behind : (operator : Operator) (before other : List SequenceType) (parts : Parts SequenceType) (types : Types) → units before ≡ units other
      → PartsAreSound setting operator before parts types → PartsAreSound setting operator other parts types
  sound_behind operator before other no_parts types e h = tt
  sound_behind operator before other (a_part first others) types e h = (
    subst (λ (us : List (Unit {0})). IsSound setting first (carried_types variables (numbers_bound_by operator us) ++ types)) e h.0,
    sound_behind operator (before ++ annotation_of first ∷ []) (other ++ annotation_of first ∷ []) others types
        (units_next before other (annotation_of first) (annotation_of first) e) h.1,
  )

  bound_behind : (operator : Operator) (before other : List SequenceType) (parts : Parts SequenceType) (types : Types) → units before ≡ units other
      → PartsAreWellBound setting operator before parts types → PartsAreWellBound setting operator other parts types
  bound_behind operator before other no_parts types e h = tt
  bound_behind operator before other (a_part first others) types e h = (
    subst (λ (us : List (Unit {0})). IsWellBound setting first (carried_types variables (numbers_bound_by operator us) ++ types)) e h.0,
    bound_behind operator (before ++ annotation_of first ∷ []) (other ++ annotation_of first ∷ []) others types
        (units_next before other (annotation_of first) (annotation_of first) e) h.1,
  )

  parts_same : (start : Forest) (operator : Operator) (before : List SequenceType) (parts : Parts SequenceType) (types : Types)
      → PartsComeToTheSameFrom setting start operator before (meanings context parts) parts types
  parts_same start operator before no_parts types = tt
  parts_same start operator before (a_part first others) types =
      ((λ situation grown. refl), parts_same start operator (before ++ annotation_of first ∷ []) others types)

  -- parts that stand behind others in the plan
  record PartsStand (operator : Operator) (before : List SequenceType) (parts : Parts Carried) (types : Types) : Type 0 where
    sound : PartsAreSound setting operator before (typed_parts parts) types
    bound : PartsAreWellBound setting operator before (typed_parts parts) types
    regular : AreRegular parts
    positions : PartsCountByIntegers variables parts

  record PartsGoOn (operator : Operator) (before : List SequenceType) (parts others : Parts Carried) (types : Types) : Type 0 where
    stand : PartsStand operator before others types
    same : (start : Forest) → PartsComeToTheSameFrom setting start operator before (meanings context (typed_parts others)) (typed_parts parts) types
    kinds : units (each_of annotation_of (typed_parts others)) ≡ units (each_of annotation_of (typed_parts parts))

  -- an operator over such parts
  operator_goes_on : (place outer : Place) (carried : Carried) (operator : Operator) (parts others : Parts Carried) (types : Types)
      → Stands (At place outer carried operator parts) types → PartsGoOn operator [] parts others types
      → IsRewrittenWell s variables known calls (At place outer carried operator parts) (At place outer carried operator others) types
  operator_goes_on place outer carried operator parts others types stands goes = record {
    stands = record {
      stands = record {
        schemas = stands.stands.schemas;
        regular = (stands.stands.regular.0, goes.stand.regular);
        sound = (
          (λ situation. subst (λ (o : Outcome Items). Keeps setting situation.forest carried.kind o) (sym (comes situation)) (stands.stands.sound.0 situation)),
          goes.stand.sound,
        );
        well_bound = ((λ situation. binds situation), goes.stand.bound);
      };
      positions = (stands.positions.0, goes.stand.positions);
      none_carries = stands.none_carries;
      none_typed = stands.none_typed;
    };
    same = comes;
  }
    where
      comes : (situation : Situation setting types)
          → denoted context operator (meanings context (typed_parts others)) situation.bindings situation.forest
          ≡ denoted context operator (meanings context (typed_parts parts)) situation.bindings situation.forest
      comes situation =
          well_bound_parts_may_be_replaced setting operator (typed_parts parts) (meanings context (typed_parts others)) types situation stands.stands.well_bound.0
          (goes.same situation.forest)

      binds : BindsWell setting operator (typed_parts others) types
      binds situation =
          subst (AllByRecursion (FitsAt setting operator (each_of annotation_of (typed_parts others)) types situation.forest))
          (same_evaluations setting operator (typed_parts parts) (meanings context (typed_parts others)) types situation stands.stands.well_bound.0 (goes.same situation.forest))
          (all_so (FitsAt setting operator (each_of annotation_of (typed_parts parts)) types situation.forest)
          (FitsAt setting operator (each_of annotation_of (typed_parts others)) types situation.forest)
          (evaluations context operator (meanings context (typed_parts parts)) situation.bindings situation.forest)
          (λ e fit. record {
            grown = fit.grown;
            honest = fit.honest;
            fits = subst (λ (us : List (Unit {0})). Fits s e.forest (carried_types variables (numbers_bound_by operator us) ++ types) e.bindings)
                (units_taken e.part (each_of annotation_of (typed_parts parts)) (each_of annotation_of (typed_parts others)) (sym goes.kinds)) fit.fits;
          })
          (stands.stands.well_bound.0 situation))

  -- ---- one application

  mutual
    steps_keep : (e other : PlanExpression) (types : Types) → Stands e types → StepsTo (plan_rule_setting s variables) e other
        → IsRewrittenWell s variables known calls e other types
    steps_keep (At place outer carried operator parts) other types stands (inl applies) = record {
      stands = hands_on applies.rule s variables known calls (At place outer carried operator parts) other types stands applies.gives;
      same = all_keep applies.rule setting variables (At place outer carried operator parts) other types stands.stands applies.gives;
    }
    steps_keep (At place outer carried operator parts) other types stands (inr (others, is, steps)) =
        subst (λ (d : PlanExpression). IsRewrittenWell s variables known calls (At place outer carried operator parts) d types) (sym is)
        (operator_goes_on place outer carried operator parts others types stands
        (part_steps_keep operator [] parts others types stands.none_carries stands.none_typed stands.stands.schemas (record {
          sound = stands.stands.sound.1;
          bound = stands.stands.well_bound.1;
          regular = stands.stands.regular.1;
          positions = stands.positions.1;
        }) steps))

    part_steps_keep : (operator : Operator) (before : List SequenceType) (parts others : Parts Carried) (types : Types) → look_up variables 0 ≡ None
        → look_up types 0 ≡ None → IsSchemaSet s → PartsStand operator before parts types → PartStepsTo (plan_rule_setting s variables) parts others
        → PartsGoOn operator before parts others types
    part_steps_keep operator before no_parts others types v t is stand steps = absurd steps
    part_steps_keep operator before (a_part e es) others types v t is stand (inl (d, same, steps)) =
        let first = steps_keep e d (setting.binders operator before ++ types) (record {
          stands = record { schemas = is; regular = stand.regular.0; sound = stand.sound.0; well_bound = stand.bound.0 };
          positions = stand.positions.0;
          none_carries = v;
          none_typed = none_typed_behind variables (numbers_bound_by operator (units before)) types v t;
        }) steps in
        let count : units (before ++ annotation_of (typed_expression e) ∷ []) ≡ units (before ++ annotation_of (typed_expression d) ∷ []) =
        units_next before before (annotation_of (typed_expression e)) (annotation_of (typed_expression d)) refl in
        subst (λ (ds : Parts Carried). PartsGoOn operator before (a_part e es) ds types) (sym same) (record {
          stand = record {
            sound = (first.stands.stands.sound, sound_behind operator (before ++ annotation_of (typed_expression e) ∷ []) (before ++ annotation_of (typed_expression d) ∷ []) (typed_parts es) types count stand.sound.1);
            bound = (first.stands.stands.well_bound, bound_behind operator (before ++ annotation_of (typed_expression e) ∷ []) (before ++ annotation_of (typed_expression d) ∷ []) (typed_parts es) types count stand.bound.1);
            regular = (first.stands.stands.regular, stand.regular.1);
            positions = (first.stands.positions, stand.positions.1);
          };
          same = λ start. ((λ situation grown. first.same situation), parts_same start operator (before ++ annotation_of (typed_expression e) ∷ []) (typed_parts es) types);
          kinds = refl;
        })
    part_steps_keep operator before (a_part e es) others types v t is stand (inr (ds, same, steps)) =
        let rest = part_steps_keep operator (before ++ annotation_of (typed_expression e) ∷ []) es ds types v t is (record {
          sound = stand.sound.1;
          bound = stand.bound.1;
          regular = stand.regular.1;
          positions = stand.positions.1;
        }) steps in
        subst (λ (fs : Parts Carried). PartsGoOn operator before (a_part e es) fs types) (sym same) (record {
          stand = record {
            sound = (stand.sound.0, rest.stand.sound);
            bound = (stand.bound.0, rest.stand.bound);
            regular = (stand.regular.0, rest.stand.regular);
            positions = (stand.positions.0, rest.stand.positions);
          };
          same = λ start. ((λ situation grown. refl), rest.same start);
          kinds = ap (λ (us : List (Unit {0})). tt ∷ us) rest.kinds;
        })

  -- ---- any number of them

  reached_keep : (applications : ℕ) (e other : PlanExpression) (types : Types) → Stands e types → ReachesIn (StepsTo (plan_rule_setting s variables)) applications e other
      → IsRewrittenWell s variables known calls e other types
  reached_keep zero e other types stands same =
      subst (λ (d : PlanExpression). IsRewrittenWell s variables known calls e d types) same (record { stands = stands; same = λ situation. refl })
  reached_keep (suc n) e other types stands (next, steps, rest) =
      let first = steps_keep e next types stands steps in
      let others = reached_keep n next other types first.stands rest in
      record { stands = others.stands; same = λ situation. others.same situation ∙ first.same situation }

pub rewritten_well : ((rule : RewritingRule) → RuleHandsOn rule) → (s : SchemaSet) (variables : Types) (known : List FunctionSignature) (calls : CallOutcomes)
    (e other : PlanExpression) (types : Types) → StandsInPlan s variables known calls e types → PlanReaches (plan_rule_setting s variables) e other
    → IsRewrittenWell s variables known calls e other types
rewritten_well hands_on s variables known calls e other types stands reaches =
    reached_keep s variables known calls hands_on reaches.applications e other types stands reaches.reached

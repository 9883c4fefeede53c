-- Expressions that raise no error and make no node have a value, and leave the forest as it is.
use Rattle.std.proofs.Common.{◌≡◌, Bool, true, false, List, [], ◌∷◌, ◌++◌, map, refl, sym, ◌∙◌, ap, subst}
use Rattle.std.proofs.lemmas.Bool.{and_parts}
use Rattle.gx_base.specs.declared.place.Place.{Place}
use Rattle.gx_types.specs.SchemaSet.{SchemaSet}
use Rattle.gx_types.specs.SchemaInvariant.{IsSchemaSet}
use Rattle.gx_types.specs.SequenceType.{SequenceType}
use Rattle.gx_model.specs.Belongs.{Belongs}
use Rattle.gx_model.specs.Forest.{Forest}
use Rattle.gx_model.specs.Item.{Items}
use Rattle.gx_core.specs.declared.operator.Operator.{Operator}
use Rattle.gx_core.specs.declared.operator.Operator.TheVariants as operators
use Rattle.gx_core.specs.declared.signature.FunctionSignature.{FunctionSignature}
use Rattle.gx_core.specs.Bindings.{Types}
use Rattle.gx_core.specs.Expression.{At, Parts, no_parts, a_part, annotation_of}
use Rattle.gx_core.specs.Outcome.{Outcome, gives, raises, wrong, after}
use Rattle.gx_core.specs.Meaning.{CallOutcomes, Context, Bindings, Denotation, acts, all_of, denoted, meaning, meanings}
use Rattle.gx_core.specs.Soundness.{Setting, context_of, AreOfTypes, Keeps, Situation, IsSound, PartsAreSound}
use Rattle.gx_core.proofs.SoundQueries.{keeps_its_type}
use Rattle.gx_plan.specs.declared.plan.Carried.{Carried}
use Rattle.gx_plan.specs.Plan.{PlanExpression, kind_carried, kinds_carried, typed_expression, typed_parts}
use Rattle.gx_plan.specs.Fitting.{BindsWell, IsWellBound, PartsAreWellBound}
use Rattle.gx_plan.specs.SameMeaning.{PartsComeToTheSameFrom}
use Rattle.gx_plan.proofs.ReplacingParts.{well_bound_parts_may_be_replaced}
use Rattle.gx_rules.specs.Guards.{is_quiet_operator, is_quiet, are_quiet}
use Rattle.gx_rule_laws.specs.QuietValues.{carried_binders, plan_setting, GivesInPlace, HasValueInPlace, is_comparison_of_join, JoinsCompareInPlace, JoinsInPartsCompareInPlace, QuietExpressionsHaveValues}
use Rattle.gx_rule_laws.proofs.SoundParts.{kind_of}
use Rattle.gx_rule_laws.proofs.QuietOperators.{IsQuiet, AreQuiet}
use Rattle.gx_rule_laws.proofs.QuietActs.{quiet_act, is_choosing, quiet_strict, quiet_choosing}

-- ---- outcomes

-- an outcome that is no error, and no type error
in_place : (setting : Setting) (before : Forest) (t : SequenceType) (outcome : Outcome Items) → IsQuiet before outcome → Keeps setting before t outcome
    → GivesInPlace before outcome
in_place setting before t (gives xs left) h keeps = h
in_place setting before t (raises code) h keeps = h
in_place setting before t wrong h keeps = keeps

-- a part that is quiet wherever it stands, and the same where the part has a value
abbrev quieted_outcome : Forest → Outcome Items → Outcome Items
quieted_outcome forest (gives xs left) = gives xs forest
quieted_outcome forest (raises code) = wrong
quieted_outcome forest wrong = wrong

abbrev quieted : Denotation → Denotation
quieted part bindings forest = quieted_outcome forest (part bindings forest)

quieted_same : (forest : Forest) (outcome : Outcome Items) → GivesInPlace forest outcome → quieted_outcome forest outcome ≡ outcome
quieted_same forest (gives xs left) h = ap (gives xs) (sym h)
quieted_same forest (raises code) h = absurd h
quieted_same forest wrong h = absurd h

quieted_is_quiet : (forest : Forest) (outcome : Outcome Items) → IsQuiet forest (quieted_outcome forest outcome)
quieted_is_quiet forest (gives xs left) = refl
quieted_is_quiet forest (raises code) = tt
quieted_is_quiet forest wrong = tt

quieted_are_quiet : (parts : List Denotation) → AreQuiet (map quieted parts)
quieted_are_quiet [] = tt
quieted_are_quiet (part ∷ parts) = ((λ bindings forest. quieted_is_quiet forest (part bindings forest)), quieted_are_quiet parts)

-- ---- parts that have values

abbrev PartsHaveValues : Setting → Operator → (before : List SequenceType) → Parts Carried → Types → Type 0
PartsHaveValues setting operator before no_parts types = Unit {0}
PartsHaveValues setting operator before (a_part first others) types =
    HasValueInPlace setting first (setting.binders operator before ++ types)
    × PartsHaveValues setting operator (before ++ annotation_of (typed_expression first) ∷ []) others types

quieted_parts_same : (setting : Setting) (start : Forest) (operator : Operator) (before : List SequenceType) (parts : Parts Carried) (types : Types)
    → PartsHaveValues setting operator before parts types
    → PartsComeToTheSameFrom setting start operator before (map quieted (meanings (context_of setting) (typed_parts parts))) (typed_parts parts) types
quieted_parts_same setting start operator before no_parts types h = tt
quieted_parts_same setting start operator before (a_part first others) types h = (
  (λ situation grown. quieted_same situation.forest (meaning (context_of setting) (typed_expression first) situation.bindings situation.forest) (h.0 situation)),
  quieted_parts_same setting start operator (before ++ annotation_of (typed_expression first) ∷ []) others types h.1,
)

-- the values of the parts of an operator that binds nothing
record HasValues (setting : Setting) (parts : Parts Carried) (bindings : Bindings) (forest : Forest) : Type 0 where
  values : List Items
  gives_all : all_of (meanings (context_of setting) (typed_parts parts)) bindings forest ≡ gives values forest
  typed : AreOfTypes setting.schemas (kinds_carried parts) forest values

one_more_value : (setting : Setting) (first : PlanExpression) (others : Parts Carried) (bindings : Bindings) (forest : Forest) (t : SequenceType) (outcome : Outcome Items)
    → t ≡ kind_carried first → meaning (context_of setting) (typed_expression first) bindings forest ≡ outcome → GivesInPlace forest outcome → Keeps setting forest t outcome
    → HasValues setting others bindings forest → HasValues setting (a_part first others) bindings forest
one_more_value setting first others bindings forest t (gives xs left) kind e h keeps rest =
    let d : Denotation = meaning (context_of setting) (typed_expression first) in
    let ds : List Denotation = meanings (context_of setting) (typed_parts others) in record {
      values = xs ∷ rest.values;
      gives_all = ap (λ (o : Outcome Items). after o (λ value left. after (all_of ds bindings left) (λ values last. gives (value ∷ values) last))) (e ∙ ap (gives xs) h)
          ∙ ap (λ (o : Outcome (List Items)). after o (λ values last. gives (xs ∷ values) last)) rest.gives_all;
      typed = (subst (λ (u : SequenceType). Belongs setting.schemas forest xs u) kind (subst (λ (f : Forest). Belongs setting.schemas f xs t) h keeps.fact), rest.typed);
    }
one_more_value setting first others bindings forest t (raises code) kind e h keeps rest = absurd h
one_more_value setting first others bindings forest t wrong kind e h keeps rest = absurd h

all_have_values : (setting : Setting) (operator : Operator) → ((before : List SequenceType) → setting.binders operator before ≡ []) → (before : List SequenceType)
    (parts : Parts Carried) (types : Types) → PartsAreSound setting operator before (typed_parts parts) types → PartsHaveValues setting operator before parts types
    → (situation : Situation setting types) → HasValues setting parts situation.bindings situation.forest
all_have_values setting operator none before no_parts types sound h situation = record { values = []; gives_all = refl; typed = tt }
all_have_values setting operator none before (a_part first others) types sound h situation =
    let none_here : setting.binders operator before ++ types ≡ types = ap (λ (ts : Types). ts ++ types) (none before) in
    let sound_here : IsSound setting (typed_expression first) types = subst (IsSound setting (typed_expression first)) none_here sound.0 in
    let value_here : HasValueInPlace setting first types = subst (HasValueInPlace setting first) none_here h.0 in
    one_more_value setting first others situation.bindings situation.forest (annotation_of (typed_expression first))
    (meaning (context_of setting) (typed_expression first) situation.bindings situation.forest) (kind_of first) refl (value_here situation)
    (keeps_its_type setting (typed_expression first) types sound_here situation)
    (all_have_values setting operator none (before ++ annotation_of (typed_expression first) ∷ []) others types sound.1 h.1 situation)

-- ---- one operator

-- where it binds nothing, its acts are quiet
binds_nothing : (variables : Types) (operator : Operator) → is_choosing operator ≡ false → (before : List SequenceType) → carried_binders variables operator before ≡ []
binds_nothing variables (operators.For binder position) e before = absurd (cc)
binds_nothing variables (operators.SomeIn binder) e before = absurd (cc)
binds_nothing variables (operators.EveryIn binder) e before = absurd (cc)
binds_nothing variables (operators.Block kinds orders) e before = absurd (cc)
binds_nothing variables (operators.Let binder) e before = absurd (cc)
binds_nothing variables (operators.Switch cases default) e before = absurd (cc)
binds_nothing variables operators.If e before = absurd (cc)
binds_nothing variables _ e before = refl

module _ (s : SchemaSet) (is : IsSchemaSet s) (variables : Types) (known : List FunctionSignature) (calls : CallOutcomes) where
  abbrev setting : Setting
  setting = plan_setting s variables known calls

  abbrev context : Context
  context = context_of setting

  operator_has_value : (place outer : Place) (carried : Carried) (operator : Operator) (parts : Parts Carried) (types : Types)
      → IsSound setting (typed_expression (At place outer carried operator parts)) types → BindsWell setting operator (typed_parts parts) types
      → (is_comparison_of_join carried.role operator ≡ true → HasValueInPlace setting (At place outer carried operator parts) types)
      → is_quiet_operator s carried.role operator (kinds_carried parts) ≡ true → PartsHaveValues setting operator [] parts types
      → HasValueInPlace setting (At place outer carried operator parts) types
  operator_has_value place outer carried operator parts types sound binds joins quiet values situation =
      by_mark (is_comparison_of_join carried.role operator) refl
    where
      chosen : is_choosing operator ≡ true → IsQuiet situation.forest (denoted context operator (meanings context (typed_parts parts)) situation.bindings situation.forest)
      chosen c =
          subst (IsQuiet situation.forest)
          (well_bound_parts_may_be_replaced setting operator (typed_parts parts) (map quieted (meanings context (typed_parts parts))) types situation binds
          (quieted_parts_same setting situation.forest operator [] parts types values))
          (quiet_choosing context operator (map quieted (meanings context (typed_parts parts))) situation.bindings situation.forest c
          (quieted_are_quiet (meanings context (typed_parts parts))))

      acted : is_comparison_of_join carried.role operator ≡ false → is_choosing operator ≡ false
          → IsQuiet situation.forest (denoted context operator (meanings context (typed_parts parts)) situation.bindings situation.forest)
      acted m c =
          let all = all_have_values setting operator (binds_nothing variables operator c) [] parts types sound.1 values situation in
          quiet_strict context operator (meanings context (typed_parts parts)) situation.bindings situation.forest c
          (subst (λ (o : Outcome (List Items)). IsQuiet situation.forest (after o (acts context operator))) (sym all.gives_all)
          (quiet_act context is carried.role operator (kinds_carried parts) all.values situation.forest situation.honest m quiet all.typed))

      by_choosing : (b : Bool) → is_choosing operator ≡ b → is_comparison_of_join carried.role operator ≡ false
          → IsQuiet situation.forest (denoted context operator (meanings context (typed_parts parts)) situation.bindings situation.forest)
      by_choosing true c m = chosen c
      by_choosing false c m = acted m c

      by_mark : (b : Bool) → is_comparison_of_join carried.role operator ≡ b
          → GivesInPlace situation.forest (denoted context operator (meanings context (typed_parts parts)) situation.bindings situation.forest)
      by_mark true e = joins e situation
      by_mark false e =
          in_place setting situation.forest carried.kind (denoted context operator (meanings context (typed_parts parts)) situation.bindings situation.forest)
          (by_choosing (is_choosing operator) refl e) (sound.0 situation)

  mutual
    has_value : (e : PlanExpression) (types : Types) → IsSound setting (typed_expression e) types → IsWellBound setting (typed_expression e) types
        → JoinsCompareInPlace setting e types → is_quiet s e ≡ true → HasValueInPlace setting e types
    has_value (At place outer carried operator parts) types sound bound joins h =
        let both = and_parts (is_quiet_operator s carried.role operator (kinds_carried parts)) (are_quiet s parts) h in
        operator_has_value place outer carried operator parts types sound bound.0 joins.0 both.0
        (have_values operator [] parts types sound.1 bound.1 joins.1 both.1)

    have_values : (operator : Operator) (before : List SequenceType) (parts : Parts Carried) (types : Types)
        → PartsAreSound setting operator before (typed_parts parts) types → PartsAreWellBound setting operator before (typed_parts parts) types
        → JoinsInPartsCompareInPlace setting operator before parts types → are_quiet s parts ≡ true → PartsHaveValues setting operator before parts types
    have_values operator before no_parts types sound bound joins h = tt
    have_values operator before (a_part first others) types sound bound joins h =
        let both = and_parts (is_quiet s first) (are_quiet s others) h in (
          has_value first (setting.binders operator before ++ types) sound.0 bound.0 joins.0 both.0,
          have_values operator (before ++ annotation_of (typed_expression first) ∷ []) others types sound.1 bound.1 joins.1 both.1,
        )

pub quiet_expressions_have_values : QuietExpressionsHaveValues
quiet_expressions_have_values s variables known calls e types stands joins h =
    has_value s stands.schemas variables known calls e types stands.sound stands.well_bound joins h

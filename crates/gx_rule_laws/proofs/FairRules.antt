-- Rules hand on that joins are fair, and make fair joins.
use Rattle.std.proofs.Common.{◌≡◌, ◌≢◌, ◌⊎◌, inl, inr, ℕ, zero, suc, Bool, true, false, ◌&&◌, ◌||◌, None, Some, List, [], ◌∷◌, ◌++◌, refl, sym, ◌∙◌, ap, subst}
use Rattle.std.specs.List.{list_all}
use Rattle.std.proofs.lemmas.Bool.{and_parts}
use Rattle.gx_base.specs.declared.place.Place.{Place}
use Rattle.gx_facets.specs.declared.AtomValue.{AtomValue}
use Rattle.gx_facets.specs.declared.AtomValue.TheVariants as values
use Rattle.gx_types.specs.declared.item_type.ItemType.{ItemType}
use Rattle.gx_types.specs.declared.step.Test.{Test}
use Rattle.gx_types.specs.SchemaSet.{SchemaSet}
use Rattle.gx_types.specs.SequenceType.{SequenceType, never, nothing, item, both, either, optional, star, plus}
use Rattle.gx_model.specs.Forest.{Forest}
use Rattle.gx_model.specs.Item.{Items}
use Rattle.gx_core.specs.declared.expression.Binder.{Binder}
use Rattle.gx_core.specs.declared.operator.Operator.{Operator}
use Rattle.gx_core.specs.declared.operator.Operator.TheVariants as operators
use Rattle.gx_core.specs.declared.signature.FunctionSignature.{FunctionSignature}
use Rattle.gx_core.specs.Bindings.{Types, look_up, position_numbers}
use Rattle.gx_core.specs.Expression.{At, no_parts, a_part, one_part, two_parts}
use Rattle.gx_core.specs.Meaning.{CallOutcomes}
use Rattle.gx_core.specs.Outcome.{Outcome, gives, raises, wrong}
use Rattle.gx_core.specs.Soundness.{Setting, Keeps}
use Rattle.gx_static.specs.declared.comparison.Family.{Family}
use Rattle.gx_static.specs.declared.comparison.Family.TheVariants as families
use Rattle.gx_static.specs.Rule.{all_items, is_of_family, are_of_family}
use Rattle.gx_static.proofs.Families.{is_value_of, family_met}
use Rattle.gx_static.proofs.ItemLemmas.{EachItem, Meets, items_meet}
use Rattle.gx_plan.specs.declared.plan.Carried.{Carried}
use Rattle.gx_plan.specs.Plan.{PlanExpression}
use Rattle.gx_rules.specs.Guards.{is_own_role, compare_quietly, are_compared_quietly}
use Rattle.gx_rules.specs.Rules.{first_position, with_position, made_operator, made_let, made_step, plain_binder, binds_alone, is_step_to_all_below, loop_over_descendants, descending_from, with_steps_below, without_order}
use Rattle.gx_rule_laws.specs.KeepingSoundness.{StandsInPlan, plan_rule_setting}
use Rattle.gx_rule_laws.specs.QuietValues.{carried_types, plan_setting}
use Rattle.gx_rule_laws.specs.FairJoins.{is_number_value, is_text_value, is_atom_so, ValuesPass, HasFairJoins}
use Rattle.gx_rule_laws.proofs.GuardLemmas.{met}
use Rattle.gx_rule_laws.proofs.FairSteps.{joins_there}
use Rattle.gx_rule_laws.proofs.LetsStand.{same_carried}
use Rattle.gx_rule_laws.proofs.SingleStands.{swapped}

-- ---- keys of one family

pub both_true : (a b : Bool) → a ≡ true → b ≡ true → (a && b) ≡ true
both_true true true e f = refl
both_true false b e f = absurd (cc)
both_true true false e f = absurd (cc)

either_is : (a b c : Bool) → (a ≡ true) ⊎ ((b ≡ true) ⊎ (c ≡ true)) → ((a || b) || c) ≡ true
either_is true b c h = refl
either_is false true c h = refl
either_is false false true h = refl
either_is false false false (inl e) = absurd (cc)
either_is false false false (inr (inl e)) = absurd (cc)
either_is false false false (inr (inr e)) = absurd (cc)

-- an item type test that passes where another one does
all_pass_so : (f g : ItemType → Bool) → ((kind : ItemType) → f kind ≡ true → g kind ≡ true) → (t : SequenceType) → all_items f t ≡ true → all_items g t ≡ true
all_pass_so f g h never e = refl
all_pass_so f g h nothing e = refl
all_pass_so f g h (item kind) e = h kind e
all_pass_so f g h (both a b) e =
    let p = and_parts (all_items f a) (all_items f b) e in both_true (all_items g a) (all_items g b) (all_pass_so f g h a p.0) (all_pass_so f g h b p.1)
all_pass_so f g h (either a b) e =
    let p = and_parts (all_items f a) (all_items f b) e in both_true (all_items g a) (all_items g b) (all_pass_so f g h a p.0) (all_pass_so f g h b p.1)
all_pass_so f g h (optional a) e = all_pass_so f g h a e
all_pass_so f g h (star a) e = all_pass_so f g h a e
all_pass_so f g h (plus a) e = all_pass_so f g h a e

one_of_three : (s : SchemaSet) (family : Family) (a b : ItemType) → is_of_family s family a ≡ true → is_of_family s family b ≡ true → compare_quietly s a b ≡ true
one_of_three s families.Number a b e f =
    either_is (is_of_family s families.Number a && is_of_family s families.Number b) (is_of_family s families.Text a && is_of_family s families.Text b)
    (is_of_family s families.Truth a && is_of_family s families.Truth b) (inl (both_true (is_of_family s families.Number a) (is_of_family s families.Number b) e f))
one_of_three s families.Text a b e f =
    either_is (is_of_family s families.Number a && is_of_family s families.Number b) (is_of_family s families.Text a && is_of_family s families.Text b)
    (is_of_family s families.Truth a && is_of_family s families.Truth b) (inr (inl (both_true (is_of_family s families.Text a) (is_of_family s families.Text b) e f)))
one_of_three s families.Truth a b e f =
    either_is (is_of_family s families.Number a && is_of_family s families.Number b) (is_of_family s families.Text a && is_of_family s families.Text b)
    (is_of_family s families.Truth a && is_of_family s families.Truth b) (inr (inr (both_true (is_of_family s families.Truth a) (is_of_family s families.Truth b) e f)))

families_compare : (s : SchemaSet) (family : Family) (left right : SequenceType) → are_of_family s left right family ≡ true → are_compared_quietly s left right ≡ true
families_compare s family left right e =
    let p = and_parts (all_items (is_of_family s family) left) (all_items (is_of_family s family) right) e in
    all_pass_so (is_of_family s family) (λ a. all_items (compare_quietly s a) right)
    (λ a f. all_pass_so (is_of_family s family) (compare_quietly s a) (λ b g. one_of_three s family a b f g) right p.1) left p.0

pub keys_compare : (s : SchemaSet) (left right : SequenceType) (a b : Bool) → are_of_family s left right families.Number ≡ a → are_of_family s left right families.Text ≡ b → (a || b) ≡ true
    → are_compared_quietly s left right ≡ true
keys_compare s left right true b e f h = families_compare s families.Number left right e
keys_compare s left right false true e f h = families_compare s families.Text left right f
keys_compare s left right false false e f h = absurd (cc)

-- values of a family
pub number_so : (v : AtomValue) → is_value_of families.Number v ≡ true → is_number_value v ≡ true
number_so (values.Num n) e = refl
number_so (values.Untyped t) e = absurd (cc)
number_so (values.Str t) e = absurd (cc)
number_so (values.Truth b) e = absurd (cc)

pub text_so : (v : AtomValue) → is_value_of families.Text v ≡ true → is_text_value v ≡ true
text_so (values.Num n) e = absurd (cc)
text_so (values.Untyped t) e = refl
text_so (values.Str t) e = refl
text_so (values.Truth b) e = absurd (cc)

items_pass : (s : SchemaSet) (forest : Forest) (family : Family) (test : AtomValue → Bool) → ((v : AtomValue) → is_value_of family v ≡ true → test v ≡ true) → (xs : Items)
    → EachItem (Meets s forest (is_of_family s family)) xs → list_all (is_atom_so test) xs ≡ true
items_pass s forest family test h [] m = refl
items_pass s forest family test h (x ∷ xs) m =
    let a = family_met s forest family x m.0 in
    both_true (is_atom_so test x) (list_all (is_atom_so test) xs) (ap (is_atom_so test) a.is ∙ h a.value.value a.passes) (items_pass s forest family test h xs m.1)

-- the type of a key
pub is_key : (setting : Setting) (family : Family) (test : AtomValue → Bool) → ((v : AtomValue) → is_value_of family v ≡ true → test v ≡ true) → (before : Forest) (t : SequenceType)
    (outcome : Outcome Items) → all_items (is_of_family setting.schemas family) t ≡ true → Keeps setting before t outcome → ValuesPass test outcome
is_key setting family test h before t (gives xs left) e keeps =
    items_pass setting.schemas left family test h xs (items_meet setting.schemas left (is_of_family setting.schemas family) xs t e keeps.fact)
is_key setting family test h before t (raises code) e keeps = tt
is_key setting family test h before t wrong e keeps = tt

pub quiet_so : (marked compared first second : Bool) → compared ≡ true → first ≡ true → second ≡ true → ((marked || compared) && (first && (second && true))) ≡ true
quiet_so true true true true e f g = refl
quiet_so false true true true e f g = refl
quiet_so marked false first second e f g = absurd (cc)
quiet_so marked compared false second e f g = absurd (cc)
quiet_so marked compared first false e f g = absurd (cc)

module _ (s : SchemaSet) (variables : Types) (known : List FunctionSignature) (calls : CallOutcomes) where
  abbrev setting : Setting
  setting = plan_setting s variables known calls

  abbrev Stands : PlanExpression → Types → Type 0
  Stands e types = StandsInPlan s variables known calls e types

  abbrev Fair : PlanExpression → Types → Type 0
  Fair e types = HasFairJoins setting e types

  -- ---- operators of their own

  pub let_fair : (place : Place) (binder : Binder) (value body : PlanExpression) (types : Types) → Fair value types → Fair body (carried_types variables (binder.variable ∷ []) ++ types)
      → Fair (made_let s place binder value body) types
  let_fair place binder value body types first second = record {
    fair = (tt, (first.fair, (second.fair, tt)));
    compare = ((λ marked. absurd (cc)), (first.compare, (second.compare, tt)));
  }

  for_fair : (place : Place) (binder : Binder) (source body : PlanExpression) (types : Types) → Fair source types → Fair body (carried_types variables (binder.variable ∷ []) ++ types)
      → Fair (made_operator s place (operators.For binder zero) (two_parts source body)) types
  for_fair place binder source body types first second = record {
    fair = ((λ marked. absurd (cc)), (first.fair, (second.fair, tt)));
    compare = ((λ marked. absurd (cc)), (first.compare, (second.compare, tt)));
  }

  step_fair : (place : Place) (asks : Test) (variable : ℕ) (types : Types) → Fair (made_step (plan_rule_setting s variables) place asks variable) types
  step_fair place asks variable types = record { fair = (tt, tt); compare = ((λ marked. absurd (cc)), tt) }

  position_fair : (place : Place) (types : Types) → Fair (first_position place) types
  position_fair place types = record { fair = (tt, tt); compare = ((λ marked. absurd (cc)), tt) }

  pub order_fair : (place : Place) (e : PlanExpression) (types : Types) → Fair e types → Fair (made_operator s place operators.Order (one_part e)) types
  order_fair place e types h = record { fair = (tt, (h.fair, tt)); compare = ((λ marked. absurd (cc)), (h.compare, tt)) }

  -- ---- what rules give

  pub body_fair : (place : Place) (variable position : ℕ) (body : PlanExpression) (types : Types) → position ≢ variable
      → Fair body (carried_types variables (variable ∷ position_numbers position) ++ types) → Fair (with_position s place position body) (carried_types variables (variable ∷ []) ++ types)
  body_fair place variable zero body types differ h = h
  body_fair place variable (suc n) body types differ h =
      let_fair place (plain_binder (suc n) place) (first_position place) body (carried_types variables (variable ∷ []) ++ types)
      (position_fair place (carried_types variables (variable ∷ []) ++ types))
      (joins_there setting body (carried_types variables (variable ∷ suc n ∷ []) ++ types) (carried_types variables (suc n ∷ []) ++ (carried_types variables (variable ∷ []) ++ types))
      (swapped variable (suc n) (λ e. differ (sym e)) (look_up variables variable) (look_up variables (suc n)) types) h)

  pub branch_fair : (number : ℕ) (e : PlanExpression) (types : Types) → look_up variables 0 ≡ None → Fair e (carried_types variables (position_numbers number) ++ types)
      → Fair e (carried_types variables (number ∷ []) ++ types)
  branch_fair number e types none h = subst (λ (us : Types). Fair e (us ++ types)) (same_carried variables number none) h

  descended_fair : (place outer : Place) (carried : Carried) (asks : Test) (operator : Operator) (source body other : PlanExpression) (types : Types)
      → Fair (At place outer carried operator (a_part source (a_part body no_parts))) types
      → descending_from (plan_rule_setting s variables) place asks (is_own_role carried.role) operator source body (binds_alone operator) ≡ Some other → Fair other types
  descended_fair place outer carried asks (operators.For binder zero) source body other types h g =
      subst (λ (d : PlanExpression). Fair d types) (met (is_own_role carried.role && is_step_to_all_below binder.variable body)
      (loop_over_descendants (plan_rule_setting s variables) place asks (operators.For binder zero) source binder) other g).1
      (for_fair place binder source (made_step (plan_rule_setting s variables) place asks binder.variable) types
      (record { fair = h.fair.1.0; compare = h.compare.1.0 }) (step_fair place asks binder.variable (carried_types variables (binder.variable ∷ []) ++ types)))
  descended_fair place outer carried asks (operators.Let binder) source body other types h g =
      subst (λ (d : PlanExpression). Fair d types) (met (is_own_role carried.role && is_step_to_all_below binder.variable body)
      (loop_over_descendants (plan_rule_setting s variables) place asks (operators.Let binder) source binder) other g).1
      (let_fair place binder source (made_step (plan_rule_setting s variables) place asks binder.variable) types
      (record { fair = h.fair.1.0; compare = h.compare.1.0 }) (step_fair place asks binder.variable (carried_types variables (binder.variable ∷ []) ++ types)))
  descended_fair place outer carried asks _ source body other types h g = absurd (cc)

  pub descends_fair : (asks : Test) (e other : PlanExpression) (types : Types) → Fair e types → with_steps_below (plan_rule_setting s variables) asks e ≡ Some other → Fair other types
  descends_fair asks (At place outer carried operator (a_part source (a_part body no_parts))) other types h g =
      descended_fair place outer carried asks operator source body other types h g
  descends_fair asks _ other types h g = absurd (cc)

  pub source_fair : (e : PlanExpression) (types : Types) → Fair e types → Fair (without_order e) types
  source_fair (At place outer carried operators.Order (a_part e no_parts)) types h = record { fair = h.fair.1.0; compare = h.compare.1.0 }
  source_fair e types h = h

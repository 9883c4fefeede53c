-- A loop over one item is a `let`.
use Rattle.std.proofs.Common.{◌≡◌, ◌≢◌, ◌≤◌, ℕ, zero, suc, pos, true, ◌&&◌, nat_eq, [], ◌∷◌, ◌++◌, length, refl, sym, ◌∙◌, ap, subst, arith}
use Rattle.std.proofs.lemmas.Bool.{eqb-true, and_parts}
use Rattle.gx_base.specs.declared.place.Place.{Place}
use Rattle.gx_types.specs.Occurrence.{occurrence_of}
use Rattle.gx_types.specs.SchemaSet.{SchemaSet}
use Rattle.gx_types.specs.SequenceType.{SequenceType}
use Rattle.gx_funcs.specs.Function.{integer_atom}
use Rattle.gx_model.specs.Belongs.{Belongs}
use Rattle.gx_model.specs.Forest.{Forest}
use Rattle.gx_model.specs.Item.{Item, atom, Items}
use Rattle.gx_core.specs.declared.expression.Binder.{Binder}
use Rattle.gx_core.specs.declared.operator.Operator.TheVariants as operators
use Rattle.gx_core.specs.Expression.{At, no_parts, a_part, annotation_of}
use Rattle.gx_core.specs.Outcome.{Outcome, gives, raises, wrong, after}
use Rattle.gx_core.specs.Meaning.{Context, Bindings, for_each, item_bound, meaning}
use Rattle.gx_core.specs.Soundness.{Setting, context_of, Keeps}
use Rattle.gx_static.proofs.ItemLemmas.{belongs_within}
use Rattle.gx_plan.specs.Plan.{PlanExpression, kind_carried, typed_expression}
use Rattle.gx_rules.specs.Guards.{is_own_role}
use Rattle.gx_rules.specs.Rules.{occurs_once, with_position, made_let, Single}
use Rattle.gx_rule_laws.specs.KeepingRules.{RuleKeeps}
use Rattle.gx_rule_laws.proofs.GuardLemmas.{met}
use Rattle.gx_rule_laws.proofs.Outcomes.{after_gives}
use Rattle.gx_rule_laws.proofs.Renaming.{may_be_swapped}
use Rattle.gx_rule_laws.proofs.SoundParts.{kind_of, first_keeps}

-- a value of one item
pub record IsOneItem (xs : Items) : Type 0 where
  pub item : Item
  pub is : xs ≡ item ∷ []

pub one_item_where : (s : SchemaSet) (forest : Forest) (t : SequenceType) (xs : Items) → occurs_once t ≡ true → Belongs s forest xs t → IsOneItem xs
one_item_where s forest t xs e b =
    let allows = belongs_within s forest t xs b in
    let both = and_parts (nat_eq (occurrence_of t).least 1) (nat_eq (occurrence_of t).greatest 1) e in
    let low : (occurrence_of t).least ≡ 1 = eqb-true (occurrence_of t).least 1 both.0 in
    let high : (occurrence_of t).greatest ≡ 1 = eqb-true (occurrence_of t).greatest 1 both.1 in
    by_length xs (omega (arith, allows.least, low)) (omega (arith, allows.greatest (omega (arith, high)), high))
  where
    by_length : (ys : Items) → 1 ≤ length ys → length ys ≤ 1 → IsOneItem ys
    by_length [] l h = absurd (omega (arith, l))
    by_length (x ∷ []) l h = record { item = x; is = refl }
    by_length (x ∷ y ∷ ys) l h = absurd (omega (arith, h))

-- the body, with the position of the one item
body_at_one : (context : Context) (s : SchemaSet) (place : Place) (variable position : ℕ) (body : PlanExpression) (x : Item) (bindings : Bindings) (forest : Forest)
    → position ≢ variable
    → meaning context (typed_expression (with_position s place position body)) ((variable, x ∷ []) ∷ bindings) forest
    ≡ meaning context (typed_expression body) (item_bound variable position 1 x ++ bindings) forest
body_at_one context s place variable zero body x bindings forest differ = refl
body_at_one context s place variable (suc n) body x bindings forest differ =
    may_be_swapped context (typed_expression body) (suc n) variable (atom (integer_atom (pos 1)) ∷ []) (x ∷ []) bindings forest differ

single_means : (setting : Setting) (place : Place) (binder : Binder) (position : ℕ) (t : SequenceType) (source : Outcome Items) (body : PlanExpression) (bindings : Bindings)
    (before : Forest) → position ≢ binder.variable → occurs_once t ≡ true → Keeps setting before t source
    → after source (λ xs left. meaning (context_of setting) (typed_expression (with_position setting.schemas place position body)) ((binder.variable, xs) ∷ bindings) left)
    ≡ after source (λ xs left. for_each (λ number x now. meaning (context_of setting) (typed_expression body) (item_bound binder.variable position number x ++ bindings) now) 1 [] xs left)
single_means setting place binder position t (raises code) body bindings before differ once keeps = refl
single_means setting place binder position t wrong body bindings before differ once keeps = refl
single_means setting place binder position t (gives xs left) body bindings before differ once keeps =
    let one = one_item_where setting.schemas left t xs once keeps.fact in
    subst (λ (ys : Items). meaning (context_of setting) (typed_expression (with_position setting.schemas place position body)) ((binder.variable, ys) ∷ bindings) left
    ≡ for_each (λ number x now. meaning (context_of setting) (typed_expression body) (item_bound binder.variable position number x ++ bindings) now) 1 [] ys left) (sym one.is)
    (body_at_one (context_of setting) setting.schemas place binder.variable position body one.item bindings left differ
    ∙ sym (after_gives (meaning (context_of setting) (typed_expression body) (item_bound binder.variable position 1 one.item ++ bindings) left)))

pub single_keeps : RuleKeeps Single
single_keeps setting variables (At place outer carried (operators.For binder position) (a_part source (a_part body no_parts))) other types stands h situation =
    let guard = met (is_own_role carried.role && occurs_once (kind_carried source))
    (made_let setting.schemas place binder source (with_position setting.schemas place position body)) other h in
    let once : occurs_once (kind_carried source) ≡ true = (and_parts (is_own_role carried.role) (occurs_once (kind_carried source)) guard.0).1 in
    let keeps : Keeps setting situation.forest (annotation_of (typed_expression source)) (meaning (context_of setting) (typed_expression source) situation.bindings situation.forest) =
    first_keeps setting (operators.For binder position) (annotation_of (typed_expression source) ∷ annotation_of (typed_expression body) ∷ []) (typed_expression source) types
    situation.bindings situation.forest situation.forest situation.calls_keep (stands.well_bound.0 situation).0 stands.sound.1.0 in
    ap (λ (d : PlanExpression). meaning (context_of setting) (typed_expression d) situation.bindings situation.forest) (sym guard.1)
    ∙ single_means setting place binder position (annotation_of (typed_expression source)) (meaning (context_of setting) (typed_expression source) situation.bindings situation.forest)
    body situation.bindings situation.forest stands.regular.0 (ap occurs_once (kind_of source) ∙ once) keeps
single_keeps setting variables _ other types stands h situation = absurd (cc)

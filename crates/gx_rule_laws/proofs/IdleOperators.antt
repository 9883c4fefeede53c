-- Operators that change nothing.
use Rattle.std.proofs.Common.{◌≡◌, Bool, true, List, [], ◌∷◌, Option, Some, refl, sym, ◌∙◌, ap, subst}
use Rattle.gx_base.specs.declared.type_name.Builtin.TheVariants as builtins
use Rattle.gx_base.specs.declared.type_name.TypeName.{TypeName}
use Rattle.gx_base.specs.declared.type_name.TypeName.TheVariants as names
use Rattle.gx_facets.specs.declared.Atomic.{Atomic}
use Rattle.gx_facets.specs.declared.AtomValue.{AtomValue}
use Rattle.gx_facets.specs.declared.AtomValue.TheVariants.{Truth}
use Rattle.gx_types.specs.Derivation.{DerivesFrom}
use Rattle.gx_types.specs.ItemTakes.{ItemTakes}
use Rattle.gx_types.specs.Takes.{Takes}
use Rattle.gx_types.specs.declared.item_type.ItemType.TheVariants as items
use Rattle.gx_types.specs.declared.shape.Shape.{Shape}
use Rattle.gx_types.specs.declared.shape.Shape.TheVariants as shapes
use Rattle.gx_types.specs.SchemaSet.{SchemaSet}
use Rattle.gx_types.specs.SchemaInvariant.{IsSchemaSet}
use Rattle.gx_types.specs.SequenceType.{SequenceType}
use Rattle.gx_include.specs.Decision.{is_included}
use Rattle.gx_funcs.specs.declared.function.Function.TheVariants as functions
use Rattle.gx_model.specs.Atomization.{joined_values, values_of_item, atomized}
use Rattle.gx_model.specs.Belongs.{HaveShapes, Belongs}
use Rattle.gx_model.specs.Forest.{Forest}
use Rattle.gx_model.specs.Item.{Item, atom, node, Items}
use Rattle.gx_core.specs.declared.operator.Operator.{Operator}
use Rattle.gx_core.specs.declared.operator.Operator.TheVariants as operators
use Rattle.gx_core.specs.Calling.{called}
use Rattle.gx_core.specs.Expression.{At, no_parts, a_part, annotation_of}
use Rattle.gx_core.specs.Outcome.{Outcome, gives, raises, wrong, after, given}
use Rattle.gx_core.specs.Meaning.{Context, acts, meaning}
use Rattle.gx_core.specs.Soundness.{Setting, context_of, Keeps}
use Rattle.gx_static.specs.Rule.{atomic}
use Rattle.gx_static.proofs.Conditionals.{value_is_boolean}
use Rattle.gx_static.proofs.HonestValues.{included_belongs}
use Rattle.gx_static.proofs.ItemLemmas.{EachItem, IsAtom, items_are_atoms}
use Rattle.gx_plan.specs.Plan.{PlanExpression, kind_carried, typed_expression}
use Rattle.gx_rules.specs.Rules.{any_atomic_values, Idle}
use Rattle.gx_rule_laws.specs.KeepingRules.{RuleKeeps}
use Rattle.gx_rule_laws.proofs.GuardLemmas.{met}
use Rattle.gx_rule_laws.proofs.SoundParts.{kind_of, first_keeps}

-- what a strict operator of one part makes of an outcome
pub acts_on_one : (context : Context) (operator : Operator) (operand : Outcome Items)
    → after (after operand (λ xs left. gives (xs ∷ []) left)) (acts context operator) ≡ after operand (λ xs left. acts context operator (xs ∷ []) left)
acts_on_one context operator (gives xs left) = refl
acts_on_one context operator (raises code) = refl
acts_on_one context operator wrong = refl

-- ---- atomic values are their own typed values

atoms_stay : (s : SchemaSet) (forest : Forest) (xs : Items) → EachItem IsAtom xs → atomized s forest xs ≡ Some xs
atoms_stay s forest [] h = refl
atoms_stay s forest (x ∷ xs) h =
    ap (λ (y : Item). joined_values (values_of_item s forest y) (atomized s forest xs)) h.0.1
    ∙ ap (joined_values (Some (atom h.0.0 ∷ []))) (atoms_stay s forest xs h.1)
    ∙ ap (λ (y : Item). Some (y ∷ xs)) (sym h.0.1)

data_means : (setting : Setting) (t : SequenceType) (before : Forest) (operand : Outcome Items) → IsSchemaSet setting.schemas
    → is_included setting.schemas t any_atomic_values ≡ true → Keeps setting before t operand
    → operand ≡ after operand (λ xs left. acts (context_of setting) operators.DataOf (xs ∷ []) left)
data_means setting t before (gives xs left) schemas e keeps =
    let b = included_belongs setting.schemas left xs t any_atomic_values schemas.grounded keeps.honest e keeps.fact in
    sym (ap (λ (found : Option Items). given found (λ ys. gives ys left))
    (atoms_stay setting.schemas left xs (items_are_atoms setting.schemas left xs any_atomic_values refl b)))
data_means setting t before (raises code) schemas e keeps = refl
data_means setting t before wrong schemas e keeps = refl

-- ---- a boolean is its own effective boolean value

-- one atomic value that is a boolean
abbrev IsTruth : Items → Type 0
IsTruth xs = (a : Atomic) × (truth : Bool) × (a.value ≡ Truth truth) × (xs ≡ atom a ∷ [])

derived_shape : (s : SchemaSet) (kind : TypeName) (shape : Shape) → ItemTakes s (items.Atom (names.Builtin builtins.Boolean)) shape
    → shape ≡ shapes.Atom kind → DerivesFrom s kind (names.Builtin builtins.Boolean)
derived_shape s kind shape k e = subst (ItemTakes s (items.Atom (names.Builtin builtins.Boolean))) e k

boolean_shown : (s : SchemaSet) (forest : Forest) (xs : Items) (seen : List Shape) → HaveShapes s forest xs seen → Takes s (atomic builtins.Boolean) seen
    → IsTruth xs
boolean_shown s forest [] [] h (shape, is, k) = absurd (cc)
boolean_shown s forest [] (t ∷ seen) h k = absurd h
boolean_shown s forest (x ∷ xs) [] h k = absurd h
boolean_shown s forest (x ∷ y ∷ xs) (t ∷ []) h k = absurd h.2
boolean_shown s forest (x ∷ y ∷ xs) (t ∷ u ∷ seen) h (shape, is, k) = absurd (cc)
boolean_shown s forest (node place ∷ []) (t ∷ seen) h k =
    let b : Belongs s forest (node place ∷ []) (atomic builtins.Boolean) = record { seen = t ∷ seen; shaped = h; taken = k } in
    let a = (items_are_atoms s forest (node place ∷ []) (atomic builtins.Boolean) refl b).0 in
    let same : node place ≡ atom a.0 = a.1 in absurd (cc)
boolean_shown s forest (atom a ∷ []) (t ∷ seen) h (shape, is, k) =
    let same : Some (shapes.Atom a.kind) ≡ Some t = h.0 in
    let shown : shape ≡ shapes.Atom a.kind = cc in
    let truth = value_is_boolean s a.value a.kind h.1 (derived_shape s a.kind shape k shown) in
    (a, truth.0, truth.1, refl)

-- `boolean` gives one boolean back, whatever type it has
truth_called : (s : SchemaSet) (forest : Forest) (value : AtomValue) (kind : TypeName) (truth : Bool) → value ≡ Truth truth
    → gives (atom (record { value = value; kind = kind }) ∷ []) forest
    ≡ called s functions.Boolean ((atom (record { value = value; kind = kind }) ∷ []) ∷ []) forest
truth_called s forest value kind truth e =
    subst (λ (v : AtomValue). gives (atom (record { value = v; kind = kind }) ∷ []) forest
    ≡ called s functions.Boolean ((atom (record { value = v; kind = kind }) ∷ []) ∷ []) forest) (sym e) refl

boolean_means : (setting : Setting) (t : SequenceType) (before : Forest) (operand : Outcome Items) → IsSchemaSet setting.schemas
    → is_included setting.schemas t (atomic builtins.Boolean) ≡ true → Keeps setting before t operand
    → operand ≡ after operand (λ xs left. acts (context_of setting) (operators.Call functions.Boolean) (xs ∷ []) left)
boolean_means setting t before (gives xs left) schemas e keeps =
    let b = included_belongs setting.schemas left xs t (atomic builtins.Boolean) schemas.grounded keeps.honest e keeps.fact in
    let shown = boolean_shown setting.schemas left xs b.seen b.shaped b.taken in
    subst (λ (ys : Items). gives ys left ≡ called setting.schemas functions.Boolean (ys ∷ []) left) (sym shown.3)
    (truth_called setting.schemas left shown.0.value shown.0.kind shown.1 shown.2)
boolean_means setting t before (raises code) schemas e keeps = refl
boolean_means setting t before wrong schemas e keeps = refl

-- ---- the law

pub idle_keeps : RuleKeeps Idle
idle_keeps setting variables (At place outer carried (operators.Call functions.Boolean) (a_part e no_parts)) other types stands h situation =
    let guard = met (is_included setting.schemas (kind_carried e) (atomic builtins.Boolean)) e other h in
    let keeps : Keeps setting situation.forest (annotation_of (typed_expression e)) (meaning (context_of setting) (typed_expression e) situation.bindings situation.forest) =
    first_keeps setting (operators.Call functions.Boolean) (annotation_of (typed_expression e) ∷ []) (typed_expression e) types situation.bindings situation.forest situation.forest situation.calls_keep
    (stands.well_bound.0 situation).0 stands.sound.1.0 in
    ap (λ (d : PlanExpression). meaning (context_of setting) (typed_expression d) situation.bindings situation.forest) (sym guard.1)
    ∙ boolean_means setting (annotation_of (typed_expression e)) situation.forest (meaning (context_of setting) (typed_expression e) situation.bindings situation.forest)
    stands.schemas (ap (λ (t : SequenceType). is_included setting.schemas t (atomic builtins.Boolean)) (kind_of e) ∙ guard.0) keeps
    ∙ sym (acts_on_one (context_of setting) (operators.Call functions.Boolean) (meaning (context_of setting) (typed_expression e) situation.bindings situation.forest))
idle_keeps setting variables (At place outer carried operators.DataOf (a_part e no_parts)) other types stands h situation =
    let guard = met (is_included setting.schemas (kind_carried e) any_atomic_values) e other h in
    let keeps : Keeps setting situation.forest (annotation_of (typed_expression e)) (meaning (context_of setting) (typed_expression e) situation.bindings situation.forest) =
    first_keeps setting operators.DataOf (annotation_of (typed_expression e) ∷ []) (typed_expression e) types situation.bindings situation.forest situation.forest situation.calls_keep
    (stands.well_bound.0 situation).0 stands.sound.1.0 in
    ap (λ (d : PlanExpression). meaning (context_of setting) (typed_expression d) situation.bindings situation.forest) (sym guard.1)
    ∙ data_means setting (annotation_of (typed_expression e)) situation.forest (meaning (context_of setting) (typed_expression e) situation.bindings situation.forest)
    stands.schemas (ap (λ (t : SequenceType). is_included setting.schemas t any_atomic_values) (kind_of e) ∙ guard.0) keeps
    ∙ sym (acts_on_one (context_of setting) operators.DataOf (meaning (context_of setting) (typed_expression e) situation.bindings situation.forest))
idle_keeps setting variables _ other types stands h situation = absurd (cc)

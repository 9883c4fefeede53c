-- Conditionals keep their types.
use Rattle.std.proofs.Common.{◌≡◌, Bool, true, false, ◌&&◌, [], ◌∷◌, Option, Some, refl, sym, subst, inl, inr}
use Rattle.std.proofs.lemmas.Bool.{and_parts}
use Rattle.gx_base.specs.declared.type_name.Builtin.TheVariants.{Boolean}
use Rattle.gx_base.specs.declared.type_name.TypeName.{TypeName}
use Rattle.gx_base.specs.declared.type_name.TypeName.TheVariants as names
use Rattle.gx_facets.specs.declared.AtomValue.{AtomValue}
use Rattle.gx_facets.specs.declared.AtomValue.TheVariants as values
use Rattle.gx_types.specs.SchemaSet.{SchemaSet}
use Rattle.gx_types.specs.Derivation.{DerivesFrom}
use Rattle.gx_types.specs.SequenceType.{SequenceType}
use Rattle.gx_types.specs.TypeRules.{choice_of}
use Rattle.gx_types.proofs.PublicLaws.{choice_takes_members}
use Rattle.gx_model.specs.Forest.{Forest}
use Rattle.gx_model.specs.Honest.{IsHonest}
use Rattle.gx_model.specs.Item.{Item, Items}
use Rattle.gx_model.specs.Belongs.{ValueFits, Belongs}
use Rattle.gx_model.specs.Growth.{Extends}
use Rattle.gx_core.specs.Expression.{no_parts, a_part, annotation_of}
use Rattle.gx_core.specs.Outcome.{Outcome, gives, raises, wrong, after, given}
use Rattle.gx_core.specs.Meaning.{branch, meaning}
use Rattle.gx_core.specs.Comparing.{truth_of_value, condition_of}
use Rattle.gx_core.specs.Soundness.{Setting, calling_setting, context_of, IsOfType, Keeps}
use Rattle.gx_core.proofs.KeptFacts.{fact_after, later}
use Rattle.gx_static.specs.Rule.{is_at_least_one, is_at_most_one, is_all_in, is_optional_in}
use Rattle.gx_static.specs.Laws.{ConditionalKeepsType}
use Rattle.gx_static.proofs.ItemLemmas.{IsAtomIn, items_are_in, the_item, one_item}
use Rattle.gx_static.proofs.LiteralLemmas.{boolean_is_no_number, untyped_is_no_boolean, string_is_no_boolean, integer_is_a_number}
use Rattle.gx_static.proofs.Keeping.{type_so}

-- an item whose type is derived from xs:boolean is a boolean
pub value_is_boolean : (s : SchemaSet) (v : AtomValue) (kind : TypeName) → ValueFits s v kind → DerivesFrom s kind (names.Builtin Boolean) → (truth : Bool) × (v ≡ values.Truth truth)
value_is_boolean s (values.Untyped t) kind f d = absurd (untyped_is_no_boolean s kind f d)
value_is_boolean s (values.Str t) kind f d = absurd (string_is_no_boolean s kind f d)
value_is_boolean s (values.Truth b) kind f d = (b, refl)
value_is_boolean s (values.Num n) kind f d = absurd (boolean_is_no_number s kind d (integer_is_a_number s n kind f))

condition_is : (s : SchemaSet) (x : Item) → IsAtomIn s Boolean x → (truth : Bool) × (condition_of (x ∷ []) ≡ Some truth)
condition_is s x a =
    let v = value_is_boolean s a.value.value a.value.kind a.fits a.derived in
    (v.0, subst (λ (y : Item). condition_of (y ∷ []) ≡ Some v.0) (sym a.is) (subst (λ (w : AtomValue). truth_of_value w ≡ Some v.0) (sym v.1) refl))

-- a value of one boolean
pub one_condition : (s : SchemaSet) (forest : Forest) (t : SequenceType) (xs : Items) → (is_at_least_one t && is_optional_in s Boolean t) ≡ true → Belongs s forest xs t → (truth : Bool) × (condition_of xs ≡ Some truth)
one_condition s forest t xs e b =
    let p = and_parts (is_at_least_one t) (is_optional_in s Boolean t) e in
    let q = and_parts (is_at_most_one t) (is_all_in s Boolean t) p.1 in
    let x = one_item s forest t xs p.0 q.0 b in
    let c = condition_is s x.0 (the_item (IsAtomIn s Boolean) xs x.0 x.1 (items_are_in s forest Boolean xs t q.1 b)) in
    (c.0, subst (λ (ys : Items). condition_of ys ≡ Some c.0) (sym x.1) c.1)

-- what belongs to a branch belongs to the choice
chosen_belongs : (s : SchemaSet) (forest : Forest) (t u : SequenceType) (xs : Items) → Belongs s forest xs t → Belongs s forest xs (choice_of t u)
chosen_belongs s forest t u xs b = record { seen = b.seen; shaped = b.shaped; taken = choice_takes_members s t u b.seen (inl b.taken) }

other_belongs : (s : SchemaSet) (forest : Forest) (t u : SequenceType) (xs : Items) → Belongs s forest xs u → Belongs s forest xs (choice_of t u)
other_belongs s forest t u xs b = record { seen = b.seen; shaped = b.shaped; taken = choice_takes_members s t u b.seen (inr b.taken) }

pub widened : (setting : Setting) (forest : Forest) (t u : SequenceType) (o : Outcome Items) → ((now : Forest) (xs : Items) → Belongs setting.schemas now xs t → Belongs setting.schemas now xs u) → Keeps setting forest t o → Keeps setting forest u o
widened setting forest t u (gives xs now) h k = record { grown = k.grown; honest = k.honest; fact = h now xs k.fact }
widened setting forest t u (raises code) h k = tt
widened setting forest t u wrong h k = absurd k

pub conditional_keeps : ConditionalKeepsType
conditional_keeps s known calls (a_part a (a_part b (a_part c no_parts))) types place outer t e known_call h situation =
    let setting : Setting = calling_setting s known calls in
    let k = context_of setting in
    let r = type_so (is_at_least_one (annotation_of a) && is_optional_in s Boolean (annotation_of a)) (choice_of (annotation_of b) (annotation_of c)) t e in
    subst (λ (u : SequenceType). Keeps setting situation.forest u (after (meaning k a situation.bindings situation.forest) (λ xs left. given (condition_of xs) (λ truth. branch truth (meaning k b) (meaning k c) situation.bindings left)))) r.1
    (fact_after setting situation.forest (IsOfType s (annotation_of a)) (IsOfType s (choice_of (annotation_of b) (annotation_of c))) (meaning k a situation.bindings situation.forest)
    (λ xs left. given (condition_of xs) (λ truth. branch truth (meaning k b) (meaning k c) situation.bindings left)) (h.0 situation)
    (λ xs now grown honest belongs.
    let truth = one_condition s now (annotation_of a) xs r.0 belongs in
    subst (λ (found : Option Bool). Keeps setting now (choice_of (annotation_of b) (annotation_of c)) (given found (λ truth. branch truth (meaning k b) (meaning k c) situation.bindings now))) (sym truth.1)
    (branch_keeps truth.0 now grown honest)))
  where
    branch_keeps : (truth : Bool) (now : Forest) → Extends situation.forest now → IsHonest s now → Keeps (calling_setting s known calls) now (choice_of (annotation_of b) (annotation_of c)) (branch truth (meaning (context_of (calling_setting s known calls)) b) (meaning (context_of (calling_setting s known calls)) c) situation.bindings now)
    branch_keeps true now grown honest = widened (calling_setting s known calls) now (annotation_of b) (choice_of (annotation_of b) (annotation_of c)) _ (λ f xs. chosen_belongs s f (annotation_of b) (annotation_of c) xs) (h.1.0 (later (calling_setting s known calls) types situation now grown honest))
    branch_keeps false now grown honest = widened (calling_setting s known calls) now (annotation_of c) (choice_of (annotation_of b) (annotation_of c)) _ (λ f xs. other_belongs s f (annotation_of b) (annotation_of c) xs) (h.1.1.0 (later (calling_setting s known calls) types situation now grown honest))
conditional_keeps s known calls no_parts types place outer t e known_call h situation = absurd (cc)
conditional_keeps s known calls (a_part a no_parts) types place outer t e known_call h situation = absurd (cc)
conditional_keeps s known calls (a_part a (a_part b no_parts)) types place outer t e known_call h situation = absurd (cc)
conditional_keeps s known calls (a_part a (a_part b (a_part c (a_part d others)))) types place outer t e known_call h situation = absurd (cc)

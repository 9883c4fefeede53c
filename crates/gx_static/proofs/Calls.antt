-- Calls of built-in functions keep their types.
use Rattle.std.proofs.Common.{◌≡◌, ℕ, ℤ, ◌+◌, Bool, true, false, List, [], ◌∷◌, length, Option, None, Some, refl, sym, ◌∙◌, ap, subst, arith, if◌then◌else◌}
use Rattle.std.specs.Prelude.{not, pos}
use Rattle.gx_base.specs.declared.code.Code.{Code}
use Rattle.gx_base.specs.declared.code.Code.TheVariants.{XPTY0004}
use Rattle.gx_base.specs.declared.type_name.Builtin.{Builtin}
use Rattle.gx_base.specs.declared.type_name.Builtin.TheVariants.{Boolean, Integer, Str}
use Rattle.gx_base.specs.declared.type_name.TypeName.TheVariants as names
use Rattle.gx_base.specs.declared.type_name.TypeName.{TypeName}
use Rattle.gx_facets.specs.declared.Atomic.{Atomic}
use Rattle.gx_facets.specs.declared.AtomValue.{AtomValue}
use Rattle.gx_facets.specs.declared.AtomValue.TheVariants as values
use Rattle.gx_facets.specs.declared.AtomValue.TheVariants.{Untyped, Truth, Num}
use Rattle.gx_types.specs.SchemaSet.{SchemaSet}
use Rattle.gx_types.specs.declared.shape.Shape.{Shape}
use Rattle.gx_types.specs.Derivation.{DerivesFrom}
use Rattle.gx_types.specs.SchemaInvariant.{IsSchemaSet}
use Rattle.gx_types.specs.SequenceType.{SequenceType}
use Rattle.gx_atomic.specs.EffectiveBoolean.{effective_boolean_value}
use Rattle.gx_funcs.specs.declared.function.Function.{Function}
use Rattle.gx_funcs.specs.declared.function.Function.TheVariants as functions
use Rattle.gx_funcs.specs.declared.function.Parameter.{Parameter}
use Rattle.gx_funcs.specs.declared.text_function.TextFunction.{TextFunction}
use Rattle.gx_funcs.specs.declared.function.Conversion.{Conversion}
use Rattle.gx_funcs.specs.declared.function.Conversion.TheVariants.{Nothing}
use Rattle.gx_funcs.specs.Texts.{text_answer}
use Rattle.gx_funcs.specs.Function.{conversion_of, value_parameters_of, item_parameters_of, text_parameters_of, text_answer_type_of, integer_atom, string_atom, string_of_item, has_no_item, any_items, one_item_at_most, truth_valued}
use Rattle.gx_model.specs.Forest.{Forest}
use Rattle.gx_model.specs.Honest.{IsHonest}
use Rattle.gx_model.specs.Item.{atom, Items}
use Rattle.gx_model.specs.Belongs.{ValueFits, HaveShapes, Belongs}
use Rattle.gx_core.specs.Outcome.{Outcome, gives, given}
use Rattle.gx_core.specs.Calling.{value_called, view_of, views_of, text_called, called}
use Rattle.gx_core.specs.ItemCalling.{item_called}
use Rattle.gx_core.specs.Soundness.{typed_setting, IsOfType, AreOfTypes, Keeps}
use Rattle.gx_core.proofs.KeptFacts.{fact_at_once}
use Rattle.gx_static.specs.Rule.{value_answer_type, first_seen, item_call_type, Ruling, has_type, has_none, atomic, is_at_most_one, type_by, seen_argument, takes_argument, if_taken, arguments_rule, call_rule}
use Rattle.gx_static.specs.Laws.{CallKeepsType}
use Rattle.gx_static.proofs.Comparisons.{truth_keeps}
use Rattle.gx_static.proofs.BooleanTypes.{HasTruth, is_empty, begins_with_node, is_one_atom, has_truth}
use Rattle.gx_static.proofs.Singles.{one_atom_belongs}
use Rattle.gx_static.proofs.Keeping.{ruled}
use Rattle.gx_static.proofs.ValueCalls.{value_call_keeps}
use Rattle.gx_static.proofs.ItemCalls.{item_call_keeps}
use Rattle.gx_static.proofs.TextCalls.{few_items, IsTaken, AreTaken, arguments_have_texts, text_parameters_atomize, text_is_answered}

-- what a function answers: one atomic value of a type
one_answer_keeps : (s : SchemaSet) (forest : Forest) (b : Builtin) (a : Atomic) → IsHonest s forest → ValueFits s a.value a.kind → DerivesFrom s a.kind (names.Builtin b)
    → Keeps (typed_setting s) forest (atomic b) (gives (atom a ∷ []) forest)
one_answer_keeps s forest b a honest fits derived =
    fact_at_once (typed_setting s) forest (IsOfType s (atomic b)) (atom a ∷ []) honest (one_atom_belongs s forest (names.Builtin b) a fits derived)

integer_keeps : (s : SchemaSet) (forest : Forest) (i : ℤ) → IsHonest s forest → Keeps (typed_setting s) forest (atomic Integer) (gives (atom (integer_atom i) ∷ []) forest)
integer_keeps s forest i honest = one_answer_keeps s forest Integer (integer_atom i) honest (0, refl) (0, refl)

string_keeps : (s : SchemaSet) (forest : Forest) (text : List ℕ) → IsHonest s forest → Keeps (typed_setting s) forest (atomic Str) (gives (atom (string_atom text) ∷ []) forest)
string_keeps s forest text honest = one_answer_keeps s forest Str (string_atom text) honest (0, refl) (0, refl)

-- one boolean is itself
atom_keeps : (s : SchemaSet) (forest : Forest) (value : AtomValue) (kind : TypeName) → IsHonest s forest → ValueFits s value kind
    → Keeps (typed_setting s) forest (atomic Boolean) (called s functions.Boolean ((atom (record { value = value; kind = kind }) ∷ []) ∷ []) forest)
atom_keeps s forest (Untyped text) kind honest fits = truth_keeps s forest (effective_boolean_value (Untyped text)) honest
atom_keeps s forest (values.Str text) kind honest fits = truth_keeps s forest (effective_boolean_value (values.Str text)) honest
atom_keeps s forest (Truth truth) kind honest fits = one_answer_keeps s forest Boolean (record { value = Truth truth; kind = kind }) honest fits fits
atom_keeps s forest (Num number) kind honest fits = truth_keeps s forest (effective_boolean_value (Num number)) honest

first_fits : (s : SchemaSet) (forest : Forest) (a : Atomic) (xs : Items) (seen : List Shape) → HaveShapes s forest (atom a ∷ xs) seen → ValueFits s a.value a.kind
first_fits s forest a xs [] h = absurd h
first_fits s forest a xs (t ∷ seen) h = h.1

-- what `boolean` and `not` answer
boolean_keeps : (s : SchemaSet) (forest : Forest) (xs : Items) (t : SequenceType) → IsHonest s forest → Belongs s forest xs t → HasTruth xs
    → Keeps (typed_setting s) forest (atomic Boolean) (called s functions.Boolean (xs ∷ []) forest)
boolean_keeps s forest xs t honest b is_empty = truth_keeps s forest false honest
boolean_keeps s forest xs t honest b (begins_with_node place rest) = truth_keeps s forest true honest
boolean_keeps s forest xs t honest b (is_one_atom a) = atom_keeps s forest a.value a.kind honest (first_fits s forest a [] b.seen b.shaped)

not_keeps : (s : SchemaSet) (forest : Forest) (xs : Items) → IsHonest s forest → HasTruth xs → Keeps (typed_setting s) forest (atomic Boolean) (called s functions.Not (xs ∷ []) forest)
not_keeps s forest xs honest is_empty = truth_keeps s forest true honest
not_keeps s forest xs honest (begins_with_node place rest) = truth_keeps s forest false honest
not_keeps s forest xs honest (is_one_atom a) = truth_keeps s forest (not (effective_boolean_value a.value)) honest

text_keeps : (s : SchemaSet) (forest : Forest) (a : SequenceType) (xs : Items) → IsHonest s forest → is_at_most_one a ≡ true → Belongs s forest xs a → Keeps (typed_setting s) forest (atomic Str) (called s functions.String (xs ∷ []) forest)
text_keeps s forest a [] honest e b = string_keeps s forest [] honest
text_keeps s forest a (x ∷ []) honest e b = string_keeps s forest (string_of_item (view_of forest x)) honest
text_keeps s forest a (x ∷ y ∷ xs) honest e b = let l = few_items s forest a (x ∷ y ∷ xs) e b in absurd (omega (arith, l))

-- ---- arguments that their parameters take

-- what follows an argument, where it has a type
what_follows : (takes : SequenceType → Bool) (code : Code) (number : ℕ) (next seen : Ruling) (t : SequenceType) → if_taken takes code number next seen ≡ has_type t
    → (u : SequenceType) × (seen ≡ has_type u) × (takes u ≡ true) × (next ≡ has_type t)
what_follows takes code number next (has_type u) t e =
    elim (takes u) as (λ (b : Bool). takes u ≡ b → (if b then next else has_none code (Some number)) ≡ has_type t
    → (v : SequenceType) × (has_type u ≡ has_type v) × (takes v ≡ true) × (next ≡ has_type t)) [
      | true ↦ λ same h. (u, refl, same, h)
      | false ↦ λ same h. absurd (cc)
    ] refl e
what_follows takes code number next (has_none other part) t e = absurd (cc)

arguments_taken : (s : SchemaSet) (ps : List Parameter) (arguments : List SequenceType) (number : ℕ) (ruling : Ruling) (t : SequenceType) → arguments_rule s ps arguments number ruling ≡ has_type t → AreTaken s ps arguments × (ruling ≡ has_type t)
arguments_taken s [] [] number ruling t e = (tt, e)
arguments_taken s [] (a ∷ arguments) number ruling t e = absurd (cc)
arguments_taken s (p ∷ ps) [] number ruling t e = absurd (cc)
arguments_taken s (p ∷ ps) (a ∷ arguments) number ruling t e =
    let w = what_follows (takes_argument s p.takes) p.code number (arguments_rule s ps arguments (number + 1) ruling) (seen_argument s p.takes a) t e in
    let r = arguments_taken s ps arguments (number + 1) ruling t w.3 in
    ((record { seen = w.0; as_seen = w.1; taken = w.2 }, r.0), r.1)

-- a parameter that does not atomize sees the argument itself
taken_itself : (s : SchemaSet) (p : Parameter) (a : SequenceType) → conversion_of p.takes ≡ Nothing → IsTaken s p a → takes_argument s p.takes a ≡ true
taken_itself s p a plain h =
    let e : has_type a ≡ has_type h.seen = sym (ap (λ (conversion : Conversion). type_by s conversion a) plain) ∙ h.as_seen in
    subst (λ (u : SequenceType). takes_argument s p.takes u ≡ true) (sym (ruled a h.seen e)) h.taken

-- a function of no argument, and of one
with_none : (s : SchemaSet) (forest : Forest) (function : Function) (b : Builtin) (t : SequenceType) (arguments : List SequenceType) (values : List Items)
    → arguments_rule s [] arguments 0 (has_type (atomic b)) ≡ has_type t → AreOfTypes s arguments forest values
    → Keeps (typed_setting s) forest (atomic b) (called s function [] forest) → Keeps (typed_setting s) forest t (called s function values forest)
with_none s forest function b t [] [] e h k = subst (λ (u : SequenceType). Keeps (typed_setting s) forest u (called s function [] forest)) (ruled (atomic b) t e) k
with_none s forest function b t [] (xs ∷ values) e h k = absurd h
with_none s forest function b t (a ∷ arguments) values e h k = absurd (cc)

with_one : (s : SchemaSet) (forest : Forest) (function : Function) (p : Parameter) (b : Builtin) (t : SequenceType) (arguments : List SequenceType) (values : List Items)
    → arguments_rule s (p ∷ []) arguments 0 (has_type (atomic b)) ≡ has_type t → AreOfTypes s arguments forest values
    → conversion_of p.takes ≡ Nothing
    → ((a : SequenceType) (xs : Items) → takes_argument s p.takes a ≡ true → Belongs s forest xs a → Keeps (typed_setting s) forest (atomic b) (called s function (xs ∷ []) forest))
    → Keeps (typed_setting s) forest t (called s function values forest)
with_one s forest function p b t (a ∷ []) (xs ∷ []) e h plain k =
    let r = arguments_taken s (p ∷ []) (a ∷ []) 0 (has_type (atomic b)) t e in
    subst (λ (u : SequenceType). Keeps (typed_setting s) forest u (called s function (xs ∷ []) forest)) (ruled (atomic b) t r.1) (k a xs (taken_itself s p a plain r.0.0) h.0)
with_one s forest function p b t (a ∷ []) [] e h plain k = absurd h
with_one s forest function p b t (a ∷ []) (xs ∷ ys ∷ values) e h plain k = absurd h.1
with_one s forest function p b t [] values e h plain k = absurd (cc)
with_one s forest function p b t (a ∷ c ∷ arguments) values e h plain k = absurd (arguments_taken s (p ∷ []) (a ∷ c ∷ arguments) 0 (has_type (atomic b)) t e).0.1

-- a function over strings
text_call_keeps : (s : SchemaSet) → IsSchemaSet s → (forest : Forest) (function : TextFunction) (arguments : List SequenceType) (values : List Items) (t : SequenceType)
    → arguments_rule s (text_parameters_of function) arguments 0 (has_type (atomic (text_answer_type_of function))) ≡ has_type t → IsHonest s forest → AreOfTypes s arguments forest values
    → Keeps (typed_setting s) forest t (text_called s function values forest)
text_call_keeps s is forest function arguments values t e honest h =
    let b : Builtin = text_answer_type_of function in
    let r = arguments_taken s (text_parameters_of function) arguments 0 (has_type (atomic b)) t e in
    let x = arguments_have_texts s is forest honest (text_parameters_of function) arguments values (text_parameters_atomize function) r.0 h in
    let a = text_is_answered function x.texts x.fit in
    let answer : text_called s function values forest ≡ gives (atom a.answer ∷ []) forest =
    ap (λ (o : Option (List (List (List ℕ)))). given o (λ texts. given (text_answer function texts) (λ answer. gives (atom answer ∷ []) forest))) x.are
    ∙ ap (λ (o : Option Atomic). given o (λ answer. gives (atom answer ∷ []) forest)) a.is in
    subst (λ (o : Outcome Items). Keeps (typed_setting s) forest t o) (sym answer)
    (subst (λ (u : SequenceType). Keeps (typed_setting s) forest u (gives (atom a.answer ∷ []) forest)) (ruled (atomic b) t r.1) (one_answer_keeps s forest b a.answer honest (a.fits s) (a.derived s)))

pub call_keeps : CallKeepsType
unfolding call_rule
call_keeps s functions.True is arguments t forest values e honest h = with_none s forest functions.True Boolean t arguments values e h (truth_keeps s forest true honest)
call_keeps s functions.False is arguments t forest values e honest h = with_none s forest functions.False Boolean t arguments values e h (truth_keeps s forest false honest)
call_keeps s functions.Boolean is arguments t forest values e honest h =
    with_one s forest functions.Boolean truth_valued Boolean t arguments values e h refl (λ a xs taken b. boolean_keeps s forest xs a honest b (has_truth s forest xs a is.grounded honest taken b))
call_keeps s functions.Not is arguments t forest values e honest h =
    with_one s forest functions.Not truth_valued Boolean t arguments values e h refl (λ a xs taken b. not_keeps s forest xs honest (has_truth s forest xs a is.grounded honest taken b))
call_keeps s functions.Count is arguments t forest values e honest h =
    with_one s forest functions.Count any_items Integer t arguments values e h refl
    (λ a xs taken b. integer_keeps s forest (pos (length (views_of forest xs))) honest)
call_keeps s functions.Empty is arguments t forest values e honest h =
    with_one s forest functions.Empty any_items Boolean t arguments values e h refl
    (λ a xs taken b. truth_keeps s forest (has_no_item (views_of forest xs)) honest)
call_keeps s functions.Exists is arguments t forest values e honest h =
    with_one s forest functions.Exists any_items Boolean t arguments values e h refl
    (λ a xs taken b. truth_keeps s forest (not (has_no_item (views_of forest xs))) honest)
call_keeps s functions.Data is arguments t forest values e honest h = absurd (cc (arguments_taken s (any_items ∷ []) arguments 0 (has_none XPTY0004 None) t e).1)
call_keeps s functions.Position is arguments t forest values e honest h = absurd (cc (arguments_taken s [] arguments 0 (has_none XPTY0004 None) t e).1)
call_keeps s functions.Last is arguments t forest values e honest h = absurd (cc (arguments_taken s [] arguments 0 (has_none XPTY0004 None) t e).1)
call_keeps s functions.String is arguments t forest values e honest h =
    with_one s forest functions.String one_item_at_most Str t arguments values e h refl (λ a xs taken b. text_keeps s forest a xs honest taken b)
call_keeps s (functions.OfValues function) is arguments t forest values e honest h =
    let answer : SequenceType = value_answer_type s function (first_seen s (value_parameters_of function) arguments) in
    let r = arguments_taken s (value_parameters_of function) arguments 0 (has_type answer) t e in
    subst (λ (u : SequenceType). Keeps (typed_setting s) forest u (value_called s function values forest)) (ruled answer t r.1) (value_call_keeps s is forest function arguments r.0 values honest h)
call_keeps s (functions.OfItems function) is arguments t forest values e honest h =
    let answer : SequenceType = item_call_type s function (item_parameters_of function) arguments in
    let r = arguments_taken s (item_parameters_of function) arguments 0 (has_type answer) t e in
    subst (λ (u : SequenceType). Keeps (typed_setting s) forest u (item_called s function values forest)) (ruled answer t r.1) (item_call_keeps s is forest function arguments r.0 values honest h)
call_keeps s (functions.OfTexts function) is arguments t forest values e honest h = text_call_keeps s is forest function arguments values t e honest h

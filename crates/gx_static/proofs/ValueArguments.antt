-- Arguments of functions over atomic values have values of the types that their parameters take.
use Rattle.std.proofs.Common.{◌≡◌, Bool, true, ◌&&◌, List, [], ◌∷◌, Option, Some, refl, sym, ◌∙◌, ap, subst}
use Rattle.std.proofs.lemmas.Bool.{and_parts}
use Rattle.gx_base.specs.declared.type_name.Builtin.TheVariants.{Integer, Decimal}
use Rattle.gx_base.specs.declared.type_name.TypeName.TheVariants as names
use Rattle.gx_facets.specs.declared.Atomic.{Atomic}
use Rattle.gx_types.specs.declared.item_type.ItemType.{ItemType}
use Rattle.gx_types.specs.declared.item_type.ItemType.TheVariants as items
use Rattle.gx_types.specs.SchemaSet.{SchemaSet}
use Rattle.gx_types.specs.SchemaInvariant.{IsSchemaSet}
use Rattle.gx_types.specs.SequenceType.{SequenceType, never, nothing, item, both, either, optional, star, plus}
use Rattle.gx_funcs.specs.declared.function.Parameter.{Parameter}
use Rattle.gx_funcs.specs.declared.function.ParameterType.{ParameterType}
use Rattle.gx_funcs.specs.declared.function.ParameterType.TheVariants as parameters
use Rattle.gx_funcs.specs.declared.function.Conversion.{Conversion}
use Rattle.gx_funcs.specs.declared.function.Conversion.TheVariants.{Nothing, Data, DataAndCast}
use Rattle.gx_funcs.specs.Function.{conversion_of}
use Rattle.gx_model.specs.Forest.{Forest}
use Rattle.gx_model.specs.Growth.{Extends}
use Rattle.gx_model.specs.Honest.{IsHonest}
use Rattle.gx_model.specs.Item.{Item, atom, Items, atoms}
use Rattle.gx_model.specs.Belongs.{Belongs}
use Rattle.gx_model.proofs.PublicLaws.{growth_is_an_order, values_stay}
use Rattle.gx_core.specs.Arguments.{argument_by, argument_values, all_argument_values}
use Rattle.gx_core.specs.Comparing.{atoms_among}
use Rattle.gx_core.specs.Outcome.{gives, after, given}
use Rattle.gx_core.specs.Soundness.{typed_setting, AreOfTypes, IsOfType, Keeps, KeepsFact}
use Rattle.gx_core.proofs.KeptFacts.{fact_after, fact_at_once}
use Rattle.gx_steptype.proofs.DataTypes.{data_keeps_its_type}
use Rattle.gx_static.specs.declared.comparison.Family.TheVariants as families
use Rattle.gx_static.specs.Rule.{has_type, all_items, is_atomic, is_atomic_in, is_all_in, is_of_family, is_at_most_one, is_at_least_one, type_by, takes_argument}
use Rattle.gx_static.proofs.Comparisons.{atoms_are_among}
use Rattle.gx_static.proofs.ItemLemmas.{EachItem, IsAtom, items_are_atoms}
use Rattle.gx_static.proofs.Keeping.{ruled}
use Rattle.gx_static.proofs.TextCalls.{AreTaken, atomized_type}
use Rattle.gx_static.proofs.UserCalls.{converted_keeps}

-- ---- types of atomic values

all_weaker : (test other : ItemType → Bool) → ((kind : ItemType) → test kind ≡ true → other kind ≡ true) → (t : SequenceType) → all_items test t ≡ true → all_items other t ≡ true
all_weaker test other h never e = refl
all_weaker test other h nothing e = refl
all_weaker test other h (item kind) e = h kind e
all_weaker test other h (both a b) e =
    let p = and_parts (all_items test a) (all_items test b) e in
    ap (λ (c : Bool). c && all_items other b) (all_weaker test other h a p.0) ∙ all_weaker test other h b p.1
all_weaker test other h (either a b) e =
    let p = and_parts (all_items test a) (all_items test b) e in
    ap (λ (c : Bool). c && all_items other b) (all_weaker test other h a p.0) ∙ all_weaker test other h b p.1
all_weaker test other h (optional a) e = all_weaker test other h a e
all_weaker test other h (star a) e = all_weaker test other h a e
all_weaker test other h (plus a) e = all_weaker test other h a e

text_is_atomic : (s : SchemaSet) (kind : ItemType) → is_of_family s families.Text kind ≡ true → is_atomic kind ≡ true
text_is_atomic s (items.Atom kind) e = refl
text_is_atomic s _ e = absurd (cc)

number_is_atomic : (s : SchemaSet) (kind : ItemType) → is_atomic_in s Decimal kind ≡ true → is_atomic kind ≡ true
number_is_atomic s (items.Atom kind) e = refl
number_is_atomic s _ e = absurd (cc)

integer_is_atomic : (s : SchemaSet) (kind : ItemType) → is_atomic_in s Integer kind ≡ true → is_atomic kind ≡ true
integer_is_atomic s (items.Atom kind) e = refl
integer_is_atomic s _ e = absurd (cc)

-- what a parameter of atomic values takes
all_texts : (s : SchemaSet) (u : SequenceType) → all_items (is_of_family s families.Text) u ≡ true → all_items is_atomic u ≡ true
all_texts s u e = all_weaker (is_of_family s families.Text) is_atomic (text_is_atomic s) u e

all_numbers : (s : SchemaSet) (u : SequenceType) → is_all_in s Decimal u ≡ true → all_items is_atomic u ≡ true
all_numbers s u e = all_weaker (is_atomic_in s Decimal) is_atomic (number_is_atomic s) u e

taken_is_atomic : (s : SchemaSet) (takes : ParameterType) (u : SequenceType) → (conversion_of takes ≡ Nothing → ⊥) → takes_argument s takes u ≡ true → all_items is_atomic u ≡ true
taken_is_atomic s parameters.Items u n e = absurd (n refl)
taken_is_atomic s parameters.OptionalItem u n e = absurd (n refl)
taken_is_atomic s parameters.TruthValue u n e = absurd (n refl)
taken_is_atomic s parameters.OptionalNode u n e = absurd (n refl)
taken_is_atomic s parameters.OptionalText u n e = all_texts s u (and_parts (is_at_most_one u) (all_items (is_of_family s families.Text) u) e).1
taken_is_atomic s parameters.OneText u n e = all_texts s u (and_parts (is_at_least_one u && is_at_most_one u) (all_items (is_of_family s families.Text) u) e).1
taken_is_atomic s parameters.Texts u n e = all_texts s u e
taken_is_atomic s parameters.OptionalValue u n e = (and_parts (is_at_most_one u) (all_items is_atomic u) e).1
taken_is_atomic s parameters.OptionalNumber u n e = all_numbers s u (and_parts (is_at_most_one u) (is_all_in s Decimal u) e).1
taken_is_atomic s parameters.OneNumber u n e = all_numbers s u (and_parts (is_at_least_one u && is_at_most_one u) (is_all_in s Decimal u) e).1
taken_is_atomic s parameters.Numbers u n e = all_numbers s u e
taken_is_atomic s parameters.Integers u n e = all_weaker (is_atomic_in s Integer) is_atomic (integer_is_atomic s) u e
taken_is_atomic s parameters.Values u n e = e
taken_is_atomic s parameters.OneValue u n e = (and_parts (is_at_least_one u && is_at_most_one u) (all_items is_atomic u) e).1
taken_is_atomic s parameters.OneInteger u n e =
    all_weaker (is_atomic_in s Integer) is_atomic (integer_is_atomic s) u (and_parts (is_at_least_one u && is_at_most_one u) (is_all_in s Integer u) e).1

-- ---- the values of an argument

record AreAtoms (xs : Items) : Type 0 where
  values : List Atomic
  are : xs ≡ atoms values

atoms_found : (xs : Items) → EachItem IsAtom xs → AreAtoms xs
atoms_found [] h = record { values = []; are = refl }
atoms_found (x ∷ xs) h =
    let rest = atoms_found xs h.1 in record { values = h.0.0 ∷ rest.values; are = ap (λ (y : Item). y ∷ xs) h.0.1 ∙ ap (λ (ys : Items). atom h.0.0 ∷ ys) rest.are }

-- values of a type
abbrev pub AreValuesOf : SchemaSet → SequenceType → Forest → List Atomic → Type 0
AreValuesOf s t forest values = Belongs s forest (atoms values) t

pub argument_keeps : (s : SchemaSet) → IsSchemaSet s → (conversion : Conversion) (a u : SequenceType) (forest : Forest) (xs : Items) → IsHonest s forest
    → type_by s conversion a ≡ has_type u → Belongs s forest xs a → Keeps (typed_setting s) forest u (argument_by conversion s xs forest)
argument_keeps s is Nothing a u forest xs honest e b = fact_at_once (typed_setting s) forest (IsOfType s u) xs honest (subst (λ (t : SequenceType). Belongs s forest xs t) (ruled a u e) b)
argument_keeps s is Data a u forest xs honest e b =
    let d = atomized_type s a u e in
    let v = data_keeps_its_type s forest xs a is honest d.0 b in
    subst (λ (o : Option Items). Keeps (typed_setting s) forest u (given o (λ ys. gives ys forest))) (sym v.are)
    (fact_at_once (typed_setting s) forest (IsOfType s u) v.values honest (subst (λ (t : SequenceType). Belongs s forest v.values t) d.1 v.belong))
argument_keeps s is (DataAndCast kind) a u forest xs honest e b = converted_keeps s is (Some (names.Builtin kind)) a u forest xs honest e b

values_keep : (s : SchemaSet) → IsSchemaSet s → (conversion : Conversion) (a u : SequenceType) (forest : Forest) (xs : Items) → IsHonest s forest
    → type_by s conversion a ≡ has_type u → all_items is_atomic u ≡ true → Belongs s forest xs a → KeepsFact (typed_setting s) forest (AreValuesOf s u) (argument_values conversion s xs forest)
values_keep s is conversion a u forest xs honest e atomic b =
    fact_after (typed_setting s) forest (IsOfType s u) (AreValuesOf s u) (argument_by conversion s xs forest) (λ ys left. given (atoms_among ys) (λ values. gives values left))
    (argument_keeps s is conversion a u forest xs honest e b)
    (λ ys left grown still c. let r = atoms_found ys (items_are_atoms s left ys u atomic c) in
    subst (λ (o : Option (List Atomic)). KeepsFact (typed_setting s) left (AreValuesOf s u) (given o (λ values. gives values left))) (sym (ap atoms_among r.are ∙ atoms_are_among r.values))
    (fact_at_once (typed_setting s) left (AreValuesOf s u) r.values still (subst (λ (zs : Items). Belongs s left zs u) r.are c)))

-- ---- the values of all arguments

abbrev pub AllConvert : List Parameter → Type 0
AllConvert [] = Unit {0}
AllConvert (p ∷ ps) = (conversion_of p.takes ≡ Nothing → ⊥) × AllConvert ps

-- the values of each argument are of the type that its parameter sees
abbrev pub AreSeen : (s : SchemaSet) (ps : List Parameter) (arguments : List SequenceType) → AreTaken s ps arguments → Forest → List (List Atomic) → Type 0
AreSeen s [] [] taken forest [] = Unit {0}
AreSeen s (p ∷ ps) (a ∷ arguments) taken forest (values ∷ others) = Belongs s forest (atoms values) taken.0.seen × AreSeen s ps arguments taken.1 forest others
AreSeen s _ _ taken forest _ = ⊥

pub all_values_keep : (s : SchemaSet) → IsSchemaSet s → (ps : List Parameter) (arguments : List SequenceType) (taken : AreTaken s ps arguments) (xss : List Items) (before forest : Forest) → AllConvert ps → Extends before forest
    → IsHonest s forest → AreOfTypes s arguments before xss → KeepsFact (typed_setting s) forest (AreSeen s ps arguments taken) (all_argument_values s ps xss forest)
all_values_keep s is [] [] taken [] before forest n grown honest b = fact_at_once (typed_setting s) forest (AreSeen s [] [] taken) [] honest tt
all_values_keep s is [] [] taken (xs ∷ xss) before forest n grown honest b = absurd b
all_values_keep s is [] (a ∷ arguments) taken xss before forest n grown honest b = absurd taken
all_values_keep s is (p ∷ ps) [] taken xss before forest n grown honest b = absurd taken
all_values_keep s is (p ∷ ps) (a ∷ arguments) taken [] before forest n grown honest b = absurd b
all_values_keep s is (p ∷ ps) (a ∷ arguments) taken (xs ∷ xss) before forest n grown honest b =
    let u : SequenceType = taken.0.seen in
    fact_after (typed_setting s) forest (AreValuesOf s u) (AreSeen s (p ∷ ps) (a ∷ arguments) taken) (argument_values (conversion_of p.takes) s xs forest)
    (λ values left. after (all_argument_values s ps xss left) (λ others last. gives (values ∷ others) last))
    (values_keep s is (conversion_of p.takes) a u forest xs honest taken.0.as_seen (taken_is_atomic s p.takes u n.0 taken.0.taken) (values_stay s before forest xs a grown b.0))
    (λ values left more still one. fact_after (typed_setting s) left (AreSeen s ps arguments taken.1) (AreSeen s (p ∷ ps) (a ∷ arguments) taken) (all_argument_values s ps xss left) (λ others last. gives (values ∷ others) last)
    (all_values_keep s is ps arguments taken.1 xss before left n.1 (growth_is_an_order.transitive before forest left grown more) still b.1)
    (λ others last further again rest. fact_at_once (typed_setting s) last (AreSeen s (p ∷ ps) (a ∷ arguments) taken) (values ∷ others) again (values_stay s left last (atoms values) u further one, rest)))

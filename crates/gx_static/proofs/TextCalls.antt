-- Arguments of functions over strings have texts, and these an answer.
use Rattle.std.proofs.Common.{◌≡◌, ◌≤◌, ℕ, zero, suc, ◌+◌, Bool, true, false, ◌&&◌, List, [], ◌∷◌, ◌++◌, length, map, replicate, Option, None, Some, refl, ◌∙◌, ap, subst, arith, if◌then◌else◌}
use Rattle.std.specs.Prelude.{option_map, ◌==◌, is_some, pos}
use Rattle.std.specs.List.{starts_with, ends_with}
use Rattle.std.proofs.lemmas.Bool.{and_parts, eq-eqb}
use Rattle.std.proofs.lemmas.List.{length-map}
use Rattle.gx_base.specs.declared.type_name.TypeName.TheVariants as names
use Rattle.gx_facets.specs.declared.Atomic.{Atomic}
use Rattle.gx_facets.specs.WhiteSpace.{collapsed}
use Rattle.gx_types.specs.SchemaSet.{SchemaSet}
use Rattle.gx_types.specs.Derivation.{DerivesFrom}
use Rattle.gx_types.specs.Occurrence.{occurrence_of}
use Rattle.gx_types.specs.SchemaInvariant.{IsSchemaSet}
use Rattle.gx_types.specs.SequenceType.{SequenceType}
use Rattle.gx_funcs.specs.declared.function.Parameter.{Parameter}
use Rattle.gx_funcs.specs.declared.function.ParameterType.{ParameterType}
use Rattle.gx_funcs.specs.declared.function.ParameterType.TheVariants as parameters
use Rattle.gx_funcs.specs.declared.text_function.TextFunction.{TextFunction}
use Rattle.gx_funcs.specs.declared.text_function.TextFunction.TheVariants as texts
use Rattle.gx_funcs.specs.Function.{text_parameters_of, text_answer_type_of, value_at_most, string_at_most, one_string, any_strings, integer_atom, string_atom, truth_atom}
use Rattle.gx_funcs.specs.Texts.{Text, text_or_empty, one_text, both_texts, with_map, only_text, two_texts, strings_and_separator, text_and_map, concatenated, joined, split_at_first, before_first_text, behind_first_text, translated, text_answer}
use Rattle.gx_model.specs.Forest.{Forest}
use Rattle.gx_model.specs.Honest.{IsHonest}
use Rattle.gx_model.specs.Item.{Items}
use Rattle.gx_model.specs.Belongs.{ValueFits, Belongs}
use Rattle.gx_steptype.specs.DataType.{has_data, type_of_data}
use Rattle.gx_steptype.proofs.DataTypes.{data_keeps_its_type}
use Rattle.gx_core.specs.Calling.{text_of_value, argument_texts, texts_behind, all_argument_texts}
use Rattle.gx_core.specs.Soundness.{AreOfTypes}
use Rattle.gx_static.specs.declared.comparison.Family.TheVariants as families
use Rattle.gx_static.specs.Rule.{has_type, all_items, is_atomic, is_of_family, is_at_most_one, is_at_least_one, data_rule, seen_argument, takes_argument}
use Rattle.gx_static.proofs.ItemLemmas.{belongs_within, at_most_one, at_least_one}
use Rattle.gx_static.proofs.Keeping.{tested}

-- ---- how many items a value has

pub few_items : (s : SchemaSet) (forest : Forest) (a : SequenceType) (xs : Items) → is_at_most_one a ≡ true → Belongs s forest xs a → length xs ≤ 1
few_items s forest a xs e b =
    let g = at_most_one (occurrence_of a).greatest e in
    let l = (belongs_within s forest a xs b).greatest (omega (arith, g)) in omega (arith, l, g)

pub some_item : (s : SchemaSet) (forest : Forest) (a : SequenceType) (xs : Items) → is_at_least_one a ≡ true → Belongs s forest xs a → 1 ≤ length xs
some_item s forest a xs e b = let l = (belongs_within s forest a xs b).least in let m = at_least_one (occurrence_of a).least e in omega (arith, l, m)

-- ---- an argument, as its parameter sees it

pub record IsTaken (s : SchemaSet) (p : Parameter) (a : SequenceType) : Type 0 where
  pub seen : SequenceType
  pub as_seen : seen_argument s p.takes a ≡ has_type seen
  pub taken : takes_argument s p.takes seen ≡ true

abbrev pub AreTaken : SchemaSet → List Parameter → List SequenceType → Type 0
AreTaken s [] [] = Unit {0}
AreTaken s (p ∷ ps) (a ∷ arguments) = IsTaken s p a × AreTaken s ps arguments
AreTaken s [] (a ∷ arguments) = ⊥
AreTaken s (p ∷ ps) [] = ⊥

-- parameters of functions over strings
abbrev takes_texts : ParameterType → Bool
takes_texts parameters.OptionalText = true
takes_texts parameters.OneText = true
takes_texts parameters.Texts = true
takes_texts parameters.OptionalValue = true
takes_texts takes = false

abbrev AllAtomize : List Parameter → Type 0
AllAtomize [] = Unit {0}
AllAtomize (p ∷ ps) = (takes_texts p.takes ≡ true) × AllAtomize ps

-- as many texts as a parameter takes
abbrev FitsParameter : ParameterType → List Text → Type 0
FitsParameter parameters.OneText ts = (1 ≤ length ts) × (length ts ≤ 1)
FitsParameter parameters.Texts ts = Unit {0}
FitsParameter takes ts = length ts ≤ 1

record HasTexts (s : SchemaSet) (forest : Forest) (takes : ParameterType) (xs : Items) : Type 0 where
  texts : List Text
  are : argument_texts s forest xs ≡ Some texts
  fit : FitsParameter takes texts

pub atomized_type : (s : SchemaSet) (a u : SequenceType) → data_rule s a ≡ has_type u → (has_data s a ≡ true) × (type_of_data s a ≡ u)
unfolding data_rule
atomized_type s a u e = tested (has_data s a) (type_of_data s a) u _ _ e

-- the typed values of an argument, and their texts
record HasValues (s : SchemaSet) (forest : Forest) (u : SequenceType) (xs : Items) : Type 0 where
  values : Items
  belong : Belongs s forest values u
  are : argument_texts s forest xs ≡ Some (map text_of_value values)

values_of : (s : SchemaSet) → IsSchemaSet s → (forest : Forest) → IsHonest s forest → (a u : SequenceType) (xs : Items) → data_rule s a ≡ has_type u → Belongs s forest xs a → HasValues s forest u xs
values_of s is forest honest a u xs e b =
    let r = atomized_type s a u e in
    let v = data_keeps_its_type s forest xs a is honest r.0 b in
    record {
      values = v.values;
      belong = subst (λ (w : SequenceType). Belongs s forest v.values w) r.1 v.belong;
      are = ap (λ (o : Option Items). option_map (map text_of_value) o) v.are;
    }

few_texts : (s : SchemaSet) (forest : Forest) (u : SequenceType) (xs : Items) (v : HasValues s forest u xs) → is_at_most_one u ≡ true → length (map text_of_value v.values) ≤ 1
few_texts s forest u xs v e = let l = few_items s forest u v.values e v.belong in let m = length-map v.values text_of_value in omega (arith, l, m)

argument_has_texts : (s : SchemaSet) → IsSchemaSet s → (forest : Forest) → IsHonest s forest → (takes : ParameterType) (a u : SequenceType) (xs : Items) → takes_texts takes ≡ true
    → seen_argument s takes a ≡ has_type u → takes_argument s takes u ≡ true → Belongs s forest xs a → HasTexts s forest takes xs
argument_has_texts s is forest honest parameters.OptionalText a u xs t e h b =
    let v = values_of s is forest honest a u xs e b in record { texts = map text_of_value v.values; are = v.are; fit = few_texts s forest u xs v (and_parts (is_at_most_one u) (all_items (is_of_family s families.Text) u) h).0 }
argument_has_texts s is forest honest parameters.OneText a u xs t e h b =
    let v = values_of s is forest honest a u xs e b in
    let both = and_parts (is_at_least_one u && is_at_most_one u) (all_items (is_of_family s families.Text) u) h in
    let one = and_parts (is_at_least_one u) (is_at_most_one u) both.0 in
    let l = some_item s forest u v.values one.0 v.belong in
    let m = length-map v.values text_of_value in
    record { texts = map text_of_value v.values; are = v.are; fit = (omega (arith, l, m), few_texts s forest u xs v one.1) }
argument_has_texts s is forest honest parameters.Texts a u xs t e h b = let v = values_of s is forest honest a u xs e b in record { texts = map text_of_value v.values; are = v.are; fit = tt }
argument_has_texts s is forest honest parameters.OptionalValue a u xs t e h b =
    let v = values_of s is forest honest a u xs e b in record { texts = map text_of_value v.values; are = v.are; fit = few_texts s forest u xs v (and_parts (is_at_most_one u) (all_items is_atomic u) h).0 }
argument_has_texts s is forest honest _ a u xs t e h b = absurd (cc)

-- ---- all arguments

abbrev AllFit : List Parameter → List (List Text) → Type 0
AllFit [] [] = Unit {0}
AllFit (p ∷ ps) (ts ∷ texts) = FitsParameter p.takes ts × AllFit ps texts
AllFit [] (ts ∷ texts) = ⊥
AllFit (p ∷ ps) [] = ⊥

pub record HaveTexts (s : SchemaSet) (forest : Forest) (ps : List Parameter) (values : List Items) : Type 0 where
  pub texts : List (List Text)
  pub are : all_argument_texts s forest values ≡ Some texts
  pub fit : AllFit ps texts

pub arguments_have_texts : (s : SchemaSet) → IsSchemaSet s → (forest : Forest) → IsHonest s forest → (ps : List Parameter) (arguments : List SequenceType) (values : List Items) → AllAtomize ps
    → AreTaken s ps arguments → AreOfTypes s arguments forest values → HaveTexts s forest ps values
arguments_have_texts s is forest honest [] [] [] t h b = record { texts = []; are = refl; fit = tt }
arguments_have_texts s is forest honest [] [] (xs ∷ values) t h b = absurd b
arguments_have_texts s is forest honest [] (a ∷ arguments) values t h b = absurd h
arguments_have_texts s is forest honest (p ∷ ps) [] values t h b = absurd h
arguments_have_texts s is forest honest (p ∷ ps) (a ∷ arguments) [] t h b = absurd b
arguments_have_texts s is forest honest (p ∷ ps) (a ∷ arguments) (xs ∷ values) t h b =
    let one = argument_has_texts s is forest honest p.takes a h.0.seen xs t.0 h.0.as_seen h.0.taken b.0 in
    let more = arguments_have_texts s is forest honest ps arguments values t.1 h.1 b.1 in
    record {
      texts = one.texts ∷ more.texts;
      are =
          ap (λ (o : Option (List Text)). texts_behind o (all_argument_texts s forest values)) one.are ∙ ap (λ (o : Option (List (List Text))). texts_behind (Some one.texts) o) more.are;
      fit = (one.fit, more.fit);
    }

values_atomize : (count : ℕ) → AllAtomize (replicate count value_at_most)
values_atomize zero = tt
values_atomize (suc count) = (refl, values_atomize count)

pub text_parameters_atomize : (function : TextFunction) → AllAtomize (text_parameters_of function)
text_parameters_atomize texts.StringLength = (refl, tt)
text_parameters_atomize texts.NormalizeSpace = (refl, tt)
text_parameters_atomize (texts.Concat count) = values_atomize count
text_parameters_atomize texts.Translate = (refl, (refl, (refl, tt)))
text_parameters_atomize _ = (refl, (refl, tt))

-- ---- answers

pub optional_there : (ts : List Text) → length ts ≤ 1 → (t : Text) × (text_or_empty ts ≡ Some t)
optional_there [] h = ([], refl)
optional_there (t ∷ []) h = (t, refl)
optional_there (t ∷ u ∷ ts) h = absurd (omega arith)

pub one_there : (ts : List Text) → (1 ≤ length ts) × (length ts ≤ 1) → (t : Text) × (one_text ts ≡ Some t)
one_there [] h = let l = h.0 in absurd (omega arith)
one_there (t ∷ []) h = (t, refl)
one_there (t ∷ u ∷ ts) h = let l = h.1 in absurd (omega arith)

only_there : (all : List (List Text)) → AllFit (string_at_most ∷ []) all → (t : Text) × (only_text all ≡ Some t)
only_there (a ∷ []) h = optional_there a h.0
only_there [] h = absurd h
only_there (a ∷ b ∷ all) h = absurd h.1

two_there : (all : List (List Text)) → AllFit (string_at_most ∷ string_at_most ∷ []) all → (both : Text × Text) × (two_texts all ≡ Some both)
two_there (a ∷ b ∷ []) h =
    let x = optional_there a h.0 in
    let y = optional_there b h.1.0 in
    ((x.0, y.0), ap (λ (o : Option Text). both_texts o (text_or_empty b)) x.1 ∙ ap (λ (o : Option Text). both_texts (Some x.0) o) y.1)
two_there [] h = absurd h
two_there (a ∷ []) h = absurd h.1
two_there (a ∷ b ∷ c ∷ all) h = absurd h.1.1

strings_there : (all : List (List Text)) → AllFit (any_strings ∷ one_string ∷ []) all → (both : List Text × Text) × (strings_and_separator all ≡ Some both)
strings_there (a ∷ b ∷ []) h =
    let y = one_there b h.1.0 in
    ((a, y.0), ap (λ (o : Option Text). option_map (λ (separator : Text). let found : List Text × Text = (a, separator) in found) o) y.1)
strings_there [] h = absurd h
strings_there (a ∷ []) h = absurd h.1
strings_there (a ∷ b ∷ c ∷ all) h = absurd h.1.1

map_there : (all : List (List Text)) → AllFit (string_at_most ∷ one_string ∷ one_string ∷ []) all → (found : Text × (Text × Text)) × (text_and_map all ≡ Some found)
map_there (a ∷ b ∷ c ∷ []) h =
    let x = optional_there a h.0 in
    let y = one_there b h.1.0 in
    let z = one_there c h.1.1.0 in
    let both : both_texts (one_text b) (one_text c) ≡ Some (y.0, z.0) =
    ap (λ (o : Option Text). both_texts o (one_text c)) y.1 ∙ ap (λ (o : Option Text). both_texts (Some y.0) o) z.1 in
    ((x.0, (y.0, z.0)), ap (λ (o : Option Text). with_map o (both_texts (one_text b) (one_text c))) x.1 ∙ ap (λ (o : Option (Text × Text)). with_map (Some x.0) o) both)
map_there [] h = absurd h
map_there (a ∷ []) h = absurd h.1
map_there (a ∷ b ∷ []) h = absurd h.1.1
map_there (a ∷ b ∷ c ∷ d ∷ all) h = absurd h.1.1.1

concatenated_there : (count : ℕ) (all : List (List Text)) → AllFit (replicate count value_at_most) all → (count ≡ length all) × ((t : Text) × (concatenated all ≡ Some t))
concatenated_there zero [] h = (refl, ([], refl))
concatenated_there zero (a ∷ all) h = absurd h
concatenated_there (suc count) [] h = absurd h
concatenated_there (suc count) (a ∷ all) h =
    let x = optional_there a h.0 in
    let y = concatenated_there count all h.1 in
    let both : both_texts (text_or_empty a) (concatenated all) ≡ Some (x.0, y.1.0) =
    ap (λ (o : Option Text). both_texts o (concatenated all)) x.1 ∙ ap (λ (o : Option Text). both_texts (Some x.0) o) y.1.1 in
    (ap suc y.0, (x.0 ++ y.1.0, ap (λ (o : Option (Text × Text)). option_map (λ (both : Text × Text). both.0 ++ both.1) o) both))

pub record IsAnswered (function : TextFunction) (all : List (List Text)) : Type 0 where
  pub answer : Atomic
  pub is : text_answer function all ≡ Some answer
  pub fits : (s : SchemaSet) → ValueFits s answer.value answer.kind
  pub derived : (s : SchemaSet) → DerivesFrom s answer.kind (names.Builtin (text_answer_type_of function))

pub text_is_answered : (function : TextFunction) (all : List (List Text)) → AllFit (text_parameters_of function) all → IsAnswered function all
text_is_answered texts.StringLength all h =
    let x = only_there all h in
    record { answer = integer_atom (pos (length x.0)); is = ap (λ (o : Option (Text)). option_map (λ (t : Text). integer_atom (pos (length t))) o) x.1; fits = λ s. (0, refl); derived = λ s. (0, refl) }
text_is_answered texts.NormalizeSpace all h =
    let x = only_there all h in
    record { answer = string_atom (collapsed x.0); is = ap (λ (o : Option (Text)). option_map (λ (t : Text). string_atom (collapsed t)) o) x.1; fits = λ s. (0, refl); derived = λ s. (0, refl) }
text_is_answered texts.Translate all h =
    let x = map_there all h in
    record { answer = string_atom (translated x.0.1.0 x.0.1.1 x.0.0); is = ap (λ (o : Option (Text × (Text × Text))). option_map (λ (a : Text × (Text × Text)). string_atom (translated a.1.0 a.1.1 a.0)) o) x.1; fits = λ s. (0, refl); derived = λ s. (0, refl) }
text_is_answered texts.StringJoin all h =
    let x = strings_there all h in
    record { answer = string_atom (joined x.0.1 x.0.0); is = ap (λ (o : Option (List Text × Text)). option_map (λ (a : List Text × Text). string_atom (joined a.1 a.0)) o) x.1; fits = λ s. (0, refl); derived = λ s. (0, refl) }
text_is_answered texts.Contains all h =
    let x = two_there all h in
    record { answer = truth_atom (is_some (split_at_first x.0.1 x.0.0)); is = ap (λ (o : Option (Text × Text)). option_map (λ (a : Text × Text). truth_atom (is_some (split_at_first a.1 a.0))) o) x.1; fits = λ s. (0, refl); derived = λ s. (0, refl) }
text_is_answered texts.StartsWith all h =
    let x = two_there all h in
    record { answer = truth_atom (starts_with ◌==◌ x.0.0 x.0.1); is = ap (λ (o : Option (Text × Text)). option_map (λ (a : Text × Text). truth_atom (starts_with ◌==◌ a.0 a.1)) o) x.1; fits = λ s. (0, refl); derived = λ s. (0, refl) }
text_is_answered texts.EndsWith all h =
    let x = two_there all h in
    record { answer = truth_atom (ends_with ◌==◌ x.0.0 x.0.1); is = ap (λ (o : Option (Text × Text)). option_map (λ (a : Text × Text). truth_atom (ends_with ◌==◌ a.0 a.1)) o) x.1; fits = λ s. (0, refl); derived = λ s. (0, refl) }
text_is_answered texts.SubstringBefore all h =
    let x = two_there all h in
    record { answer = string_atom (before_first_text x.0.1 x.0.0); is = ap (λ (o : Option (Text × Text)). option_map (λ (a : Text × Text). string_atom (before_first_text a.1 a.0)) o) x.1; fits = λ s. (0, refl); derived = λ s. (0, refl) }
text_is_answered texts.SubstringAfter all h =
    let x = two_there all h in
    record { answer = string_atom (behind_first_text x.0.1 x.0.0); is = ap (λ (o : Option (Text × Text)). option_map (λ (a : Text × Text). string_atom (behind_first_text a.1 a.0)) o) x.1; fits = λ s. (0, refl); derived = λ s. (0, refl) }
text_is_answered (texts.Concat count) all h =
    let x = concatenated_there count all h in
    record {
      answer = string_atom x.1.0;
      is =
          ap (λ (same : Bool). if same then option_map string_atom (concatenated all) else None) (eq-eqb count (length all) x.0)
          ∙ ap (λ (o : Option Text). option_map string_atom o) x.1.1;
      fits = λ s. (0, refl);
      derived = λ s. (0, refl);
    }

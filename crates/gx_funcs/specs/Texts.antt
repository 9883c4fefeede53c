-- Functions over strings: what each answers of the texts of its arguments (Functions and Operators, sections 7.4 and 7.5).
use Rattle.std.specs.Global.{Global}
use Rattle.std.specs.Prelude.{ℕ, pos, map, Vec, ◌==◌, ◌++◌, if◌then◌else◌, List, [], ◌∷◌, drop, length, Option, Some, None, option_map, is_some, unwrap_or}
use Rattle.std.specs.List.{starts_with, ends_with}
use Rattle.gx_facets.specs.declared.Atomic.{Atomic}
use Rattle.gx_facets.specs.WhiteSpace.{collapsed}
use Rattle.gx_funcs.specs.declared.text_function.TextFunction.{TextFunction}
use Rattle.gx_funcs.specs.declared.text_function.TextFunction.TheVariants.{StringLength, Concat, StringJoin, NormalizeSpace, Translate, Contains, StartsWith, EndsWith, SubstringBefore, SubstringAfter}
use Rattle.gx_funcs.specs.Function.{truth_atom, integer_atom, string_atom}

abbrev pub Text : Type 0
Text = List ℕ

-- ---- arguments, each the texts of its values

abbrev pub texts_of : List (Vec Text Global) → List (List Text)
texts_of = map (λ (v : Vec Text Global). v.items)

-- the text of at most one value, which is empty where there is none
abbrev pub text_or_empty : List Text → Option Text
text_or_empty [] = Some []
text_or_empty (t ∷ []) = Some t
text_or_empty (t ∷ u ∷ ts) = None

-- the text of one value
abbrev pub one_text : List Text → Option Text
one_text [] = None
one_text (t ∷ []) = Some t
one_text (t ∷ u ∷ ts) = None

-- two texts, if both are there
abbrev pub both_texts : Option Text → Option Text → Option (Text × Text)
both_texts None other = None
both_texts (Some t) None = None
both_texts (Some t) (Some u) = Some (t, u)

abbrev pub with_map : Option Text → Option (Text × Text) → Option (Text × (Text × Text))
with_map None map = None
with_map (Some t) None = None
with_map (Some t) (Some map) = Some (t, map)

-- the text of the only argument, and those of the two arguments
abbrev pub only_text : List (List Text) → Option Text
only_text (a ∷ []) = text_or_empty a
only_text _ = None

abbrev pub two_texts : List (List Text) → Option (Text × Text)
two_texts (a ∷ b ∷ []) = both_texts (text_or_empty a) (text_or_empty b)
two_texts _ = None

-- strings, and the one string that is their separator
abbrev pub strings_and_separator : List (List Text) → Option (List Text × Text)
strings_and_separator (a ∷ b ∷ []) = option_map (λ separator. (a, separator)) (one_text b)
strings_and_separator _ = None

-- a text and a map of characters
abbrev pub text_and_map : List (List Text) → Option (Text × (Text × Text))
text_and_map (a ∷ b ∷ c ∷ []) = with_map (text_or_empty a) (both_texts (one_text b) (one_text c))
text_and_map _ = None

-- ---- what is made of texts

-- one text behind another (7.4.1)
abbrev pub concatenated : List (List Text) → Option Text
concatenated [] = Some []
concatenated (argument ∷ arguments) = option_map (λ (both : Text × Text). both.0 ++ both.1) (both_texts (text_or_empty argument) (concatenated arguments))

-- texts with a separator between them (7.4.2)
abbrev pub joined : (separator : Text) → List Text → Text
joined separator [] = []
joined separator (t ∷ []) = t
joined separator (t ∷ u ∷ ts) = t ++ separator ++ joined separator (u ∷ ts)

-- what stands before and behind the first occurrence of a text in another, if it occurs there
abbrev pub split_at_first : (searched : Text) → Text → Option (Text × Text)
split_at_first searched [] = if starts_with ◌==◌ [] searched then Some ([], []) else None
split_at_first searched (c ∷ cs) =
    if starts_with ◌==◌ (c ∷ cs) searched then Some ([], drop (length searched) (c ∷ cs))
    else option_map (λ parts. (c ∷ parts.0, parts.1)) (split_at_first searched cs)

-- where a text does not occur, nothing stands before it and behind it (7.5.4, 7.5.5)
abbrev pub before_first_text : (searched : Text) → Text → Text
before_first_text searched t = unwrap_or (option_map (λ parts. parts.0) (split_at_first searched t)) []

abbrev pub behind_first_text : (searched : Text) → Text → Text
behind_first_text searched t = unwrap_or (option_map (λ parts. parts.1) (split_at_first searched t)) []

-- what a character becomes by a map (7.4.9): the first place at which it stands in the one text counts; where the other text ends before
-- that place, it goes
abbrev pub first_character : Text → Option ℕ
first_character [] = None
first_character (c ∷ cs) = Some c

abbrev pub target : (from to : Text) → ℕ → Option (Option ℕ)
target [] to c = None
target (d ∷ from) to c = if d == c then Some (first_character to) else target from (drop 1 to) c

abbrev pub in_place_of : ℕ → Option (Option ℕ) → Text
in_place_of c None = c ∷ []
in_place_of c (Some None) = []
in_place_of c (Some (Some d)) = d ∷ []

abbrev pub translated : (from to : Text) → Text → Text
translated from to [] = []
translated from to (c ∷ cs) = in_place_of c (target from to c) ++ translated from to cs

-- ---- the one atomic value that a function answers; none where its arguments are not of its parameters

abbrev pub text_answer : TextFunction → List (List Text) → Option Atomic
text_answer StringLength arguments = option_map (λ (t : Text). integer_atom (pos (length t))) (only_text arguments)
text_answer (Concat count) arguments = if count == length arguments then option_map string_atom (concatenated arguments) else None
text_answer StringJoin arguments = option_map (λ (a : List Text × Text). string_atom (joined a.1 a.0)) (strings_and_separator arguments)
text_answer NormalizeSpace arguments = option_map (λ (t : Text). string_atom (collapsed t)) (only_text arguments)
text_answer Translate arguments = option_map (λ (a : Text × (Text × Text)). string_atom (translated a.1.0 a.1.1 a.0)) (text_and_map arguments)
text_answer Contains arguments = option_map (λ (a : Text × Text). truth_atom (is_some (split_at_first a.1 a.0))) (two_texts arguments)
text_answer StartsWith arguments = option_map (λ (a : Text × Text). truth_atom (starts_with ◌==◌ a.0 a.1)) (two_texts arguments)
text_answer EndsWith arguments = option_map (λ (a : Text × Text). truth_atom (ends_with ◌==◌ a.0 a.1)) (two_texts arguments)
text_answer SubstringBefore arguments = option_map (λ (a : Text × Text). string_atom (before_first_text a.1 a.0)) (two_texts arguments)
text_answer SubstringAfter arguments = option_map (λ (a : Text × Text). string_atom (behind_first_text a.1 a.0)) (two_texts arguments)

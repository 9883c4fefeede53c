-- Two types have an alphabet.
use Rattle.std.proofs.Common.{◌≡◌, ℕ, zero, suc, ◌+◌, ◌^◌, ◌<◌, ◌≤◌, Bool, true, false, List, [], ◌∷◌, ◌++◌, ◌⊎◌, map, inl, inr, refl, sym, ◌∙◌, ap, subst, length, length-append, arith, ◌==◌, ◌||◌, lit<, if◌then◌else◌, Option, None, Some}
use Rattle.std.specs.Fmt.{decimal}
use Rattle.std.specs.Str.{IsAscii}
use Rattle.std.specs.declared.alloc.Global.{Global}
use Rattle.std.proofs.lemmas.List.{map-append, length-map}
use Rattle.std.proofs.lemmas.Fmt.{decimal_injective, decimal_nonempty, IsAscii-decimal}
use Rattle.std.proofs.lemmas.Str.{chars-IsAscii, IsAscii-append}
use Rattle.std.proofs.lemmas.Bool.{and_parts, cases_lt}
use Rattle.std.specs.Cmp.{unsigned_Decides}
use Rattle.std.specs.Cmp.Lexicographic.{pointwise_decides}
use Rattle.std.specs.Prelude.{codes, Vec, slice_index_or}
use Rattle.std.proofs.Math.Dec.{eqb-suc-zero}
use denote.RawPtr.{null_ptr}
use Rattle.gx_base.specs.Name.{same_name}
use Rattle.gx_base.specs.Text.{same_text}
use Rattle.gx_base.specs.declared.name.Name.{Name}
use Rattle.gx_types.specs.declared.shape.Shape.{Shape}
use Rattle.gx_types.specs.SchemaSet.{SchemaSet}
use Rattle.gx_types.specs.SequenceType.{SequenceType, never, nothing, item, both, either, optional, star, plus}
use Rattle.gx_types.specs.TypeRules.{positions_of}
use Rattle.gx_include_letters.specs.declared.letter.Letter.{Letter}
use Rattle.gx_include_positions.specs.Step.{all_tests}
use Rattle.gx_include_positions.specs.Test.{is_taken}
use Rattle.gx_include_letters.specs.WellFormed.{plain_types}
use Rattle.gx_include_positions.specs.Names.{name_of, is_named, with_name, with_names}
use Rattle.gx_include_letters.specs.Trials.{other_name, IsOther, trial_shapes}
use Rattle.gx_include_letters.specs.Alphabet.{LetterEntry, entry_of_letter, entries_at, entries_below, IsAlphabet}
use Rattle.gx_include_positions.proofs.Lists.{In}
use Rattle.gx_include.proofs.Counts.{AreDifferent, fits_in}

-- a vector of a list that memory may hold

a_heap : Global
a_heap = record { memory = record { seal = tt } }

pub vec_of : {X : Type 0} (xs : List X) → length xs < 2 ^ 63 → (v : Vec X Global) × (v.items ≡ xs)
vec_of {X} xs h = (record { ptr = null_ptr; len = length xs; cap = length xs; alloc = a_heap; items = xs; ok = (refl, omega arith); small = h }, refl)

-- letters of given entries

abbrev AreMade : List LetterEntry → Type 0
AreMade entries = (letters : List Letter) × (map entry_of_letter letters ≡ entries)

both_made : (es fs : List LetterEntry) → AreMade es → AreMade fs → AreMade (es ++ fs)
both_made es fs m n = (m.0 ++ n.0, map-append entry_of_letter m.0 n.0 ∙ ap (λ xs. xs ++ map entry_of_letter n.0) m.1 ∙ ap (λ xs. es ++ xs) n.1)

made_if : (place : ℕ) (shape : Shape) (taken : Bool) (takers : List Bool) → AreMade (if taken then (place, shape, takers) ∷ [] else [])
made_if place shape true takers = let letter : Letter = record { place = place; shape = shape; takers = takers } in (letter ∷ [], refl)
made_if place shape false takers = ([], refl)

module _ (s : SchemaSet) (a b : SequenceType) where
  made_at : (shapes : List Shape) (place : ℕ) → AreMade (entries_at s a b shapes place)
  made_at [] place = ([], refl)
  made_at (x ∷ xs) place =
      both_made _ (entries_at s a b xs place)
      (made_if place x (slice_index_or (all_tests a (is_taken s x)) place false) (all_tests b (is_taken s x))) (made_at xs place)

  made_below : (shapes : List Shape) (bound : ℕ) → AreMade (entries_below s a b shapes bound)
  made_below shapes zero = ([], refl)
  made_below shapes (suc bound) = both_made (entries_below s a b shapes bound) (entries_at s a b shapes bound) (made_below shapes bound) (made_at shapes bound)

-- how many names there are

one_name_more : (names : List Name) (name : Name) (there : Bool) → length (if there then names else names ++ name ∷ []) ≤ length names + 1
one_name_more names name true = omega arith
one_name_more names name false = omega (arith, length-append names (name ∷ []))

name_more : (names : List Name) (name : Option Name) → length (with_name names name) ≤ length names + 1
name_more names None = omega arith
name_more names (Some name) = one_name_more names name (is_named names name)

few_names : (names : List Name) (t : SequenceType) → length (with_names names t) ≤ length names + positions_of t
few_names names never = omega arith
few_names names nothing = omega arith
few_names names (item kind) = name_more names (name_of kind)
few_names names (both a b) = let f = few_names names a in let g = few_names (with_names names a) b in omega (arith, f, g)
few_names names (either a b) = let f = few_names names a in let g = few_names (with_names names a) b in omega (arith, f, g)
few_names names (optional a) = few_names names a
few_names names (star a) = few_names names a
few_names names (plus a) = few_names names a

-- names that are no two equal

local_text : ℕ → List ℕ
local_text number = if number == 0 then codes "other" else (codes "other" ++ decimal number)

word_is_ascii : IsAscii (codes "other")
word_is_ascii zero = lit< tt
word_is_ascii (suc zero) = lit< tt
word_is_ascii (suc (suc zero)) = lit< tt
word_is_ascii (suc (suc (suc zero))) = lit< tt
word_is_ascii (suc (suc (suc (suc zero)))) = lit< tt
word_is_ascii (suc (suc (suc (suc (suc i))))) = lit< tt

text_is_ascii : (none : Bool) (digits : List ℕ) → IsAscii digits → IsAscii (if none then codes "other" else (codes "other" ++ digits))
text_is_ascii true digits h = word_is_ascii
text_is_ascii false digits h = IsAscii-append (codes "other") digits word_is_ascii h

local_is : (number : ℕ) → number < 2 ^ 64 → (other_name number).local ≡ local_text number
unfolding local_text
local_is number h = chars-IsAscii (if number == 0 then codes "other" else (codes "other" ++ decimal number)) (text_is_ascii (number == 0) (decimal number) (IsAscii-decimal number h))

not_empty : (xs : List ℕ) → 0 < length xs → [] ≡ xs → ⊥
not_empty [] h e = omega (arith, h)
not_empty (x ∷ xs) h e = cc

behind_word : (xs ys : List ℕ) → codes "other" ++ xs ≡ codes "other" ++ ys → xs ≡ ys
behind_word xs ys e = cc

positive : (n : ℕ) → local_text (suc n) ≡ codes "other" ++ decimal (suc n)
unfolding local_text
positive n = ap (λ (b : Bool). if b then codes "other" else (codes "other" ++ decimal (suc n))) (eqb-suc-zero n)

different_texts : (i j : ℕ) → i < j → j < 2 ^ 64 → local_text i ≡ local_text j → ⊥
unfolding local_text
different_texts i zero h k e = omega (arith, h)
different_texts zero (suc j) h k e = not_empty (decimal (suc j)) (decimal_nonempty (suc j) k) (behind_word [] (decimal (suc j)) (e ∙ positive j))
different_texts (suc i) (suc j) h k e =
    let f = decimal_injective (suc i) (suc j) (omega arith) k (behind_word (decimal (suc i)) (decimal (suc j)) (sym (positive i) ∙ e ∙ positive j)) in omega (arith, f)

-- the first other name

texts_below : ℕ → List (List ℕ)
texts_below zero = []
texts_below (suc n) = local_text n ∷ texts_below n

length-texts_below : (n : ℕ) → length (texts_below n) ≡ n
unfolding texts_below
length-texts_below zero = refl
length-texts_below (suc n) = ap suc (length-texts_below n)

text_below : (n : ℕ) (x : List ℕ) → In x (texts_below n) → (k : ℕ) × (k < n) × (local_text k ≡ x)
unfolding texts_below
text_below zero x h = absurd h
text_below (suc n) x (inl e) = (n, omega arith, e)
text_below (suc n) x (inr h) = let t = text_below n x h in (t.0, omega (arith, t.1), t.2)

texts_differ : (n : ℕ) → n ≤ 2 ^ 64 → AreDifferent (texts_below n)
unfolding texts_below
texts_differ zero h = tt
texts_differ (suc n) h = (
  λ there. let t = text_below n (local_text n) there in different_texts t.0 n t.1 (omega arith) t.2,
  texts_differ n (omega arith),
)

abbrev locals_of : List Name → List (List ℕ)
locals_of names = map (λ (name : Name). name.local) names

here_or_later : (here later : Bool) → (here || later) ≡ true → (here ≡ true) ⊎ (later ≡ true)
here_or_later true later h = inl refl
here_or_later false later h = inr h

same_local : (x y : Name) → same_name x y ≡ true → y.local ≡ x.local
same_local x y h = sym ((pointwise_decides unsigned_Decides x.local y.local).0 (and_parts (same_text x.uri y.uri) (same_text x.local y.local) h).1)

named_local : (names : List Name) (name : Name) → is_named names name ≡ true → In name.local (locals_of names)
named_local [] name h = absurd (cc)
named_local (x ∷ xs) name h =
    elim (here_or_later (same_name name x) (is_named xs name) h) [ inl e ↦ inl (same_local name x e) | inr k ↦ inr (named_local xs name k) ]

in_locals : (names : List Name) (n : ℕ) → n ≤ 2 ^ 64 → ((k : ℕ) → k < n → is_named names (other_name k) ≡ true) → (x : List ℕ) → In x (texts_below n) → In x (locals_of names)
in_locals names n h all x there =
    let t = text_below n x there in
    subst (λ y. In y (locals_of names)) (local_is t.0 (omega (arith, t.1)) ∙ t.2) (named_local names (other_name t.0) (all t.0 t.1))

abbrev NamedBelow : List Name → ℕ → Type 0
NamedBelow names n = (k : ℕ) → k < n → is_named names (other_name k) ≡ true

named_next : (names : List Name) (n : ℕ) → NamedBelow names n → is_named names (other_name n) ≡ true → NamedBelow names (suc n)
named_next names n all e k h = elim (cases_lt k n) [ inl l ↦ all k l | inr l ↦ let same : n ≡ k = omega arith in ap (λ i. is_named names (other_name i)) (sym same) ∙ e ]

one_more_other : (names : List Name) (n : ℕ) (there : Bool) → NamedBelow names n → is_named names (other_name n) ≡ there → ((other : Name) × IsOther names other) ⊎ NamedBelow names (suc n)
one_more_other names n true all e = inr (named_next names n all e)
one_more_other names n false all e = inl (other_name n, record { number = n; is = refl; new = e; before = all })

find_other : (names : List Name) (n : ℕ) → ((other : Name) × IsOther names other) ⊎ NamedBelow names n
find_other names zero = inr (λ k h. absurd (omega arith))
find_other names (suc n) = elim (find_other names n) [
  | inl o ↦ inl o
  | inr all ↦ one_more_other names n (is_named names (other_name n)) all refl
]

some_other : (names : List Name) → length names < 2 ^ 63 → (other : Name) × IsOther names other
some_other names h =
    elim (find_other names (length names + 1)) [
      | inl o ↦ o
      | inr all ↦
          let many = fits_in (texts_below (length names + 1)) (locals_of names) (texts_differ (length names + 1) (omega arith)) (in_locals names (length names + 1) (omega arith) all) in
          absurd (omega (arith, many, length-texts_below (length names + 1), length-map names (λ (name : Name). name.local)))
    ]

-- the alphabet

pub an_alphabet_exists : (s : SchemaSet) (a b : SequenceType) → positions_of a < 2 ^ 62 → positions_of b < 2 ^ 62 → (letters : List Letter) × IsAlphabet s a b letters
an_alphabet_exists s a b m n =
    let names : List Name = with_names (with_names [] a) b in
    let other = some_other (with_names (with_names [] a) b) (omega (arith, few_names [] a, few_names (with_names [] a) b)) in
    let made = made_below s a b (trial_shapes (plain_types s) (with_names (with_names [] a) b ++ other.0 ∷ [])) (positions_of a + 1) in
    (made.0, record { other = other.0; fresh = other.1; are = made.1 })

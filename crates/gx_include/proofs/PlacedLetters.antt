-- Letters by their places.
use Rattle.std.proofs.Common.{◌≡◌, ℕ, zero, suc, ◌+◌, ◌<◌, ◌≤◌, Bool, true, false, ◌||◌, List, [], ◌∷◌, ◌++◌, ◌⊎◌, inl, inr, Option, None, Some, refl, sym, ◌∙◌, ap, subst, get_or, length, slice_get, nat_eq, arith, if◌then◌else◌}
use Rattle.std.specs.Prelude.{Vec, slice_set}
use Rattle.std.specs.List.{list_any, flat_map}
use Rattle.std.proofs.lemmas.Bool.{cases_lt, eqb-true, eq-eqb, false≢true, or_cases, or_left, or_right}
use Rattle.std.proofs.lemmas.List.{append-nil}
use Rattle.std.proofs.lemmas.List.Folds.{list_any-append}
use Rattle.std.proofs.lemmas.Option.{slice_get_within, get_or_from_slice_get}
use Rattle.gx_include_letters.specs.declared.letter.Letter.{Letter}
use Rattle.gx_include_followers.specs.NumberSet.{flagged}
use Rattle.gx_include_followers.proofs.NumberSetLemmas.{flag_is}
use Rattle.gx_include_followers.proofs.RowLemmas.{any_flat}
use Rattle.gx_include_letters.specs.ItemIndex.{numbers_at}
use Rattle.gx_include.specs.ByPlace.{AreByPlace, HasLettersAt}

any_of_member : (test : ℕ → Bool) (p : ℕ) (ns : List ℕ) → list_any (λ m. nat_eq m p) ns ≡ true → test p ≡ true → list_any test ns ≡ true
any_of_member test p [] h t = absurd (false≢true h)
any_of_member test p (n ∷ ns) h t = elim (or_cases (nat_eq n p) (list_any (λ m. nat_eq m p) ns) h) [
  | inl e ↦ or_left (test n) (list_any test ns) (ap test (eqb-true n p e) ∙ t)
  | inr e ↦ or_right (test n) (list_any test ns) (any_of_member test p ns e t)
]

module _ {A : Type 0} where
  pub has_letters : (letters : List Letter) (numbers : List (Vec ℕ A)) (places set : List Bool) (members found : List ℕ) → AreByPlace letters numbers → members ≡ flagged places
      → found ≡ flat_map (numbers_at numbers) members → ((n : ℕ) → n < length letters → get_or set n false ≡ list_any (λ m. nat_eq m n) found) → HasLettersAt letters places set
  has_letters letters numbers places set members found are e f says n letter at flag =
      says n (slice_get_within letters n letter at)
      ∙ ap (list_any (λ m. nat_eq m n)) (f ∙ ap (flat_map (numbers_at numbers)) e)
      ∙ any_flat n (numbers_at numbers) (flagged places)
      ∙ any_of_member (λ p. list_any (λ m. nat_eq m n) (numbers_at numbers p)) letter.place (flagged places)
      (sym (flag_is 0 letter.place places ∙ ap (λ k. list_any (λ m. nat_eq m k) (flagged places)) (let g : 0 + letter.place ≡ letter.place = omega arith in g)) ∙ flag) (are n letter at)

  -- the letters before a bound have their numbers
  abbrev pub AreByPlaceBelow : List Letter → List (Vec ℕ A) → ℕ → Type 0
  AreByPlaceBelow letters numbers bound = (n : ℕ) (letter : Letter) → n < bound → slice_get letters n ≡ Some letter → list_any (λ m. nat_eq m n) (numbers_at numbers letter.place) ≡ true

  pub by_place_more : (letters : List Letter) (numbers after : List (Vec ℕ A)) (k : ℕ) (here : Letter) → here ≡ get_or letters k here → AreByPlaceBelow letters numbers k
      → ((p : ℕ) → numbers_at after p ≡ numbers_at numbers p ++ (if nat_eq here.place p then k ∷ [] else [])) → AreByPlaceBelow letters after (k + 1)
  by_place_more letters numbers after k here is all more n letter below at =
      ap (list_any (λ m. nat_eq m n)) (more letter.place) ∙ list_any-append (λ m. nat_eq m n) (numbers_at numbers letter.place) (if nat_eq here.place letter.place then k ∷ [] else [])
      ∙ elim (cases_lt n k) [
        | inl l ↦ or_left (list_any (λ m. nat_eq m n) (numbers_at numbers letter.place)) (list_any (λ m. nat_eq m n) (if nat_eq here.place letter.place then k ∷ [] else [])) (all n letter l at)
        | inr l ↦
            let last : k ≡ n = omega arith in
            let same : letter ≡ here = sym (get_or_from_slice_get letters n letter here at) ∙ ap (λ i. get_or letters i here) (sym last) ∙ sym is in
            or_right (list_any (λ m. nat_eq m n) (numbers_at numbers letter.place)) (list_any (λ m. nat_eq m n) (if nat_eq here.place letter.place then k ∷ [] else []))
            (ap (λ b. list_any (λ m. nat_eq m n) (if b then k ∷ [] else [])) (eq-eqb here.place letter.place (ap (λ (x : Letter). x.place) (sym same))) ∙ or_left (nat_eq k n) false (eq-eqb k n last))
      ]

  pub all_by_place : (letters : List Letter) (numbers : List (Vec ℕ A)) (bound : ℕ) → length letters ≤ bound → AreByPlaceBelow letters numbers bound → AreByPlace letters numbers
  all_by_place letters numbers bound past all n letter at = all n letter (let k = slice_get_within letters n letter at in omega arith) at

-- The alphabet of two types has exact letters, and enough of them.
use Rattle.std.proofs.Common.{◌≡◌, ℕ, zero, suc, ◌+◌, ◌<◌, Bool, true, false, List, [], ◌∷◌, ◌++◌, inl, inr, refl, sym, ◌∙◌, ap, subst, get_or, arith, if◌then◌else◌}
use Rattle.std.proofs.lemmas.Bool.{cases_lt}
use Rattle.gx_base.specs.declared.name.Name.{Name}
use Rattle.gx_types.specs.declared.shape.Shape.{Shape}
use Rattle.gx_types.specs.SchemaSet.{SchemaSet}
use Rattle.gx_types.specs.Grounded.{Grounded}
use Rattle.gx_types.specs.SequenceType.{SequenceType}
use Rattle.gx_types.specs.TypeRules.{positions_of}
use Rattle.gx_types.specs.Derivation.{bases_of}
use Rattle.gx_include_letters.specs.declared.letter.Letter.{Letter}
use Rattle.gx_include_positions.specs.Step.{all_tests}
use Rattle.gx_include_positions.specs.Test.{is_taken}
use Rattle.gx_include_letters.specs.WellFormed.{plain_types, IsWellFormedShape}
use Rattle.gx_include_letters.specs.Letters.{IsLetter, AreLetters, HasLetterFor, ServeAll}
use Rattle.gx_include_positions.specs.Names.{with_names}
use Rattle.gx_include_letters.specs.Trials.{trial_shapes}
use Rattle.gx_include_letters.specs.Alphabet.{LetterEntry, entry_of_letter, entry_if, entries_at, entries_below, IsAlphabet}
use Rattle.gx_include_positions.proofs.SetReads.{length_tests}
use Rattle.gx_include_positions.proofs.Lists.{In, in_left, in_right, in_either, in_map, of_map, in_flat, of_flat, got_in, in_got, set_within}
use Rattle.gx_include_positions.proofs.Decided.{decided}
use Rattle.gx_include_letters.proofs.Stand.{shape_stands, tests_alike}
use Rattle.gx_include_positions.proofs.KnownNames.{both_known}

module _ (s : SchemaSet) (a b : SequenceType) where
  -- what a letter is

  pub of_if : {X : Type 0} (g : Bool) (y e : X) → In e (if g then y ∷ [] else []) → (g ≡ true) × (y ≡ e)
  of_if true y e (inl h) = (refl, h)
  of_if true y e (inr h) = absurd h
  of_if false y e h = absurd h

  in_if : {X : Type 0} (g : Bool) (y : X) → g ≡ true → In y (if g then y ∷ [] else [])
  in_if true y h = inl refl
  in_if false y h = absurd (cc)

  abbrev IsEntry : LetterEntry → Type 0
  IsEntry e = (shape : Shape) × (place : ℕ) × (get_or (all_tests a (is_taken s shape)) place false ≡ true) × (let made : LetterEntry = (place, shape, all_tests b (is_taken s shape)) in made ≡ e)

  entry_is : (shapes : List Shape) (bound : ℕ) (e : LetterEntry) → In e (entries_below s a b shapes bound) → IsEntry e
  entry_is shapes zero e h = absurd h
  entry_is shapes (suc place) e h =
      elim (in_either e (entries_below s a b shapes place) (entries_at s a b shapes place) h) [
        | inl k ↦ entry_is shapes place e k
        | inr k ↦
            let q = of_flat (λ shape. entry_if place shape (all_tests a (is_taken s shape)) (all_tests b (is_taken s shape))) e shapes k in
            let made : LetterEntry = (place, q.0, all_tests b (is_taken s q.0)) in
            let r = of_if (get_or (all_tests a (is_taken s q.0)) place false) made e q.2 in
            (q.0, place, r.0, r.1)
      ]

  entry_in : (shapes : List Shape) (bound place : ℕ) (shape : Shape) → place < bound → In shape shapes → get_or (all_tests a (is_taken s shape)) place false ≡ true
      → (let made : LetterEntry = (place, shape, all_tests b (is_taken s shape)) in In made (entries_below s a b shapes bound))
  entry_in shapes zero place shape h k g = absurd (omega arith)
  entry_in shapes (suc bound) place shape h k g =
      let made : LetterEntry = (place, shape, all_tests b (is_taken s shape)) in
      elim (cases_lt place bound) [
        | inl l ↦ in_left made (entries_below s a b shapes bound) (entries_at s a b shapes bound) (entry_in shapes bound place shape l k g)
        | inr l ↦
            let same : place ≡ bound = omega arith in
            in_right made (entries_below s a b shapes bound) (entries_at s a b shapes bound)
            (subst (λ n. In made (entries_at s a b shapes n)) same
            (in_flat (λ x. entry_if place x (all_tests a (is_taken s x)) (all_tests b (is_taken s x))) shape made shapes k (in_if (get_or (all_tests a (is_taken s shape)) place false) made g)))
      ]

  module _ (g : Grounded (bases_of s)) (letters : List Letter) (is : IsAlphabet s a b letters) where
    names : List Name
    names = with_names (with_names [] a) b

    letter_entry : (l : Letter) → IsEntry (entry_of_letter l) → IsLetter s a b l
    letter_entry l (shape, place, taken, e) =
        let at : place ≡ l.place = ap (λ (x : LetterEntry). x.0) e in
        let has : shape ≡ l.shape = ap (λ (x : LetterEntry). x.1) e in
        record {
          left = decided s g l.shape a;
          right = decided s g l.shape b;
          taken = subst (λ n. get_or (all_tests a (is_taken s l.shape)) n false ≡ true) at (subst (λ x. get_or (all_tests a (is_taken s x)) place false ≡ true) has taken);
          takers = sym (ap (λ (x : LetterEntry). x.2) e) ∙ ap (λ x. all_tests b (is_taken s x)) has;
        }

    pub are_letters : AreLetters s a b letters
    are_letters number l e =
        letter_entry l
        (entry_is (trial_shapes (plain_types s) (with_names (with_names [] a) b ++ is.other ∷ [])) (positions_of a + 1) (entry_of_letter l)
        (subst (In (entry_of_letter l)) is.are (in_map entry_of_letter l letters (got_in letters number l e))))

    stands : (x : Shape) → IsWellFormedShape s x → (place : ℕ) → get_or (all_tests a (is_taken s x)) place false ≡ true → HasLetterFor s a b letters place x
    stands x w place h =
        let q = shape_stands s (with_names (with_names [] a) b) is.other is.fresh.new x w in
        let known = both_known a b in
        let left : all_tests a (is_taken s q.0) ≡ all_tests a (is_taken s x) = ap (λ ts. false ∷ ts) (tests_alike s (with_names (with_names [] a) b) q.0 x q.2 a known.0) in
        let right : all_tests b (is_taken s q.0) ≡ all_tests b (is_taken s x) = ap (λ ts. false ∷ ts) (tests_alike s (with_names (with_names [] a) b) q.0 x q.2 b known.1) in
        let within : place < positions_of a + 1 = let k = set_within (all_tests a (is_taken s x)) place h in omega (arith, k, length_tests a (is_taken s x)) in
        let e = entry_in (trial_shapes (plain_types s) (with_names (with_names [] a) b ++ is.other ∷ [])) (positions_of a + 1) place q.0 within q.1 (ap (λ ts. get_or ts place false) left ∙ h) in
        let made : LetterEntry = (place, q.0, all_tests b (is_taken s q.0)) in
        let m = of_map entry_of_letter made letters (subst (In made) (sym is.are) e) in
        let n = in_got letters m.0 m.1 in
        record { number = n.0; letter = m.0; here = n.1; at = ap (λ (y : LetterEntry). y.0) m.2; alike = ap (λ (y : LetterEntry). y.2) m.2 ∙ right }

    pub serve_all : ServeAll s a b letters
    serve_all = record { left = λ x w. decided s g x a; right = λ x w. decided s g x b; stands = stands }

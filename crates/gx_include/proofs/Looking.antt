-- How a walk looks at the letters of a pair that may come next, and passes over the others.
use Rattle.std.proofs.Common.{◌≡◌, ℕ, zero, suc, ◌+◌, ◌-◌, ◌<◌, ◌≤◌, Bool, true, false, List, [], ◌∷◌, Some, None, refl, sym, ◌∙◌, ap, subst, drop, get_or, length, slice_get, add-one, arith, if◌then◌else◌}
use Rattle.std.proofs.Math.ListN.{drop_of_length-le}
use Rattle.std.proofs.lemmas.Bool.{false≢true}
use Rattle.std.proofs.lemmas.List.{drop-drop, drop_more, get_or-drop, length-drop}
use Rattle.std.proofs.lemmas.Option.{get_or_from_slice_get}
use Rattle.gx_types.specs.SequenceType.{SequenceType}
use Rattle.gx_include_letters.specs.declared.letter.Letter.{Letter}
use Rattle.gx_include_followers.specs.NumberSet.{flagged_from, flagged}
use Rattle.gx_include_followers.proofs.NumberSetLemmas.{IsNextMember, next_member, no_member}
use Rattle.gx_include_positions.specs.Positions.{both_set}
use Rattle.gx_include.specs.declared.walk.Origin.{Origin}
use Rattle.gx_include.specs.ByPlace.{HasLettersAt}
use Rattle.gx_include.specs.Origins.{IsNotedIfFound}
use Rattle.gx_include.specs.Pairs.{moved, moved_by}
use Rattle.gx_include.specs.Expanding.{Expanding}
use Rattle.gx_include.proofs.Expanding.{expand_none, expand_by}

letter_there : (letters : List Letter) (i : ℕ) → i < length letters → (letter : Letter) × (slice_get letters i ≡ Some letter)
letter_there [] i h = absurd (omega arith)
letter_there (x ∷ letters) zero h = (x, refl)
letter_there (x ∷ letters) (suc i) h = letter_there letters i (omega arith)

moved_none : (left right : List Bool) (letter : Letter) → get_or left letter.place false ≡ false → moved left right letter ≡ None
moved_none left right letter e = ap (λ b. if b then Some (letter.place, both_set right letter.takers) else None) e

not_there : (letters : List Letter) (left set : List Bool) → HasLettersAt letters left set → (n : ℕ) (letter : Letter) → slice_get letters n ≡ Some letter → get_or set n false ≡ false
    → get_or left letter.place false ≡ false
not_there letters left set has n letter e none = by_flag (get_or left letter.place false) refl
  where
    by_flag : (b : Bool) → get_or left letter.place false ≡ b → get_or left letter.place false ≡ false
    by_flag true h = absurd (false≢true (sym none ∙ has n letter e h))
    by_flag false h = h

-- a set of numbers of letters from the first that was not looked at on, where some members were
pub record Looking (a b : SequenceType) (letters : List Letter) (old pairs : List (ℕ × List Bool)) (origins : List Origin) (at : ℕ) (left right set : List Bool) (members : List ℕ) : Type 0 where
  pub bound : ℕ
  pub early : bound ≤ length letters
  pub others : members ≡ flagged_from bound (drop bound set)
  pub expanding : Expanding a b letters old pairs origins at bound left right

pub look_begins : (a b : SequenceType) (letters : List Letter) (old pairs : List (ℕ × List Bool)) (origins : List Origin) (at : ℕ) (left right set : List Bool) (members : List ℕ) → members ≡ flagged set
    → Expanding a b letters old pairs origins at 0 left right → Looking a b letters old pairs origins at left right set members
look_begins a b letters old pairs origins at left right set members e x = record { bound = 0; early = omega arith; others = e; expanding = x }

module _ (a b : SequenceType) (letters : List Letter) (old : List (ℕ × List Bool)) (at : ℕ) (left right set : List Bool) (has : HasLettersAt letters left set) where
  -- letters whose numbers are not in the set lead nowhere
  pass_over : (steps : ℕ) (pairs : List (ℕ × List Bool)) (origins : List Origin) (bound : ℕ) → bound + steps ≤ length letters → ((n : ℕ) → bound ≤ n → n < bound + steps → get_or set n false ≡ false)
      → Expanding a b letters old pairs origins at bound left right → Expanding a b letters old pairs origins at (bound + steps) left right
  pass_over zero pairs origins bound within none x = subst (λ n. Expanding a b letters old pairs origins at n left right) (let e : bound ≡ bound + 0 = omega arith in e) x
  pass_over (suc steps) pairs origins bound within none x =
      let q = letter_there letters bound (omega arith) in
      let no_place = not_there letters left set has bound q.0 q.1 (none bound (omega arith) (omega arith)) in
      let passed = expand_none a b letters old pairs origins at bound left right x q.0 (omega arith) (sym (get_or_from_slice_get letters bound q.0 q.0 q.1)) (moved_none left right q.0 no_place) in
      subst (λ n. Expanding a b letters old pairs origins at n left right) (let e : bound + 1 + steps ≡ bound + suc steps = omega arith in e)
      (pass_over steps pairs origins (bound + 1) (omega arith) (λ n h k. none n (omega arith) (omega arith)) passed)

  unset_from : (bound steps : ℕ) → ((k : ℕ) → k < steps → get_or (drop bound set) k false ≡ false) → (n : ℕ) → bound ≤ n → n < bound + steps → get_or set n false ≡ false
  unset_from bound steps none n h k =
      ap (λ i. get_or set i false) (let e : n ≡ bound + (n - bound) = omega arith in e) ∙ sym (get_or-drop bound set (n - bound) false) ∙ none (n - bound) (omega arith)

  module _ (long : length set ≡ length letters) (pairs : List (ℕ × List Bool)) (origins : List Origin) (members : List ℕ) (x : Looking a b letters old pairs origins at left right set members) where
    -- the next letter that is looked at
    next_of : (number : ℕ) (others : List ℕ) → members ≡ number ∷ others → IsNextMember x.bound (drop x.bound set) number others
    next_of number others e = next_member x.bound (drop x.bound set) number others (sym x.others ∙ e)

    pub look_within : (number : ℕ) (others : List ℕ) → members ≡ number ∷ others → number < length letters
    look_within number others e =
        let next = next_of number others e in omega (arith, next.is, next.within, length-drop x.bound set, long)

    pub look_by : (number : ℕ) (others : List ℕ) (origin : Origin) (pairs2 : List (ℕ × List Bool)) (origins2 : List Origin) → members ≡ number ∷ others → origin.from ≡ at → origin.letter ≡ number
        → IsNotedIfFound pairs origins (moved_by left right (slice_get letters number)) origin pairs2 origins2 → Looking a b letters old pairs2 origins2 at left right set others
    look_by number others origin pairs2 origins2 e from by noted =
        let next = next_of number others e in
        let q = letter_there letters number (look_within number others e) in
        let come = pass_over next.before pairs origins x.bound (omega (arith, next.within, length-drop x.bound set, long)) (unset_from x.bound next.before next.none) x.expanding in
        let here = subst (λ n. Expanding a b letters old pairs origins at n left right) (sym next.is) come in
        record {
          bound = suc number;
          early = let w = look_within number others e in omega arith;
          others = next.behind ∙ ap (flagged_from (suc number)) (drop-drop (suc next.before) x.bound set ∙ ap (λ n. drop n set) (let f : x.bound + suc next.before ≡ suc number = omega (arith, next.is) in f));
          expanding =
              subst (λ n. Expanding a b letters old pairs2 origins2 at n left right) (add-one number)
              (expand_by a b letters old pairs origins at number left right here q.0 (look_within number others e) (sym (get_or_from_slice_get letters number q.0 q.0 q.1))
              (moved_by left right (slice_get letters number)) origin pairs2 origins2 (sym (ap (moved_by left right) q.1)) from by noted);
        }

    pub look_ends : members ≡ [] → Expanding a b letters old pairs origins at (length letters) left right
    look_ends e =
        let none = no_member x.bound (drop x.bound set) (sym x.others ∙ e) in
        let steps = length letters - x.bound in
        let whole : x.bound + steps ≡ length letters = omega (arith, x.early) in
        subst (λ n. Expanding a b letters old pairs origins at n left right) whole
        (pass_over steps pairs origins x.bound (omega (arith, x.early)) (unset_from x.bound steps (λ k t. none k)) x.expanding)

-- the members of flags have flags

pub member_below : (from : ℕ) (flags : List Bool) (i : ℕ) → i < length (flagged_from from flags) → get_or (flagged_from from flags) i 0 < from + length flags
member_below from [] i h = absurd (omega arith)
member_below from (true ∷ flags) zero h = omega arith
member_below from (true ∷ flags) (suc i) h = let k = member_below (suc from) flags i (omega arith) in omega arith
member_below from (false ∷ flags) i h = let k = member_below (suc from) flags i h in omega arith

pub number_within : (set : List Bool) (letters : List Letter) (members : List ℕ) (i : ℕ) → members ≡ flagged set → length set ≡ length letters → i < length members → get_or members i 0 < length letters
number_within set letters members i e long h =
    let k = member_below 0 set i (let f = ap length e in omega (arith, f)) in
    let same = ap (λ ms. get_or ms i 0) e in
    omega (arith, k, same, long)

pub next_number : (members all : List ℕ) (i : ℕ) → members ≡ all → i < length members → drop i all ≡ get_or members i 0 ∷ drop (i + 1) all
next_number members all i e h = ap (drop i) (sym e) ∙ drop_more members i 0 h ∙ ap (λ ms. get_or members i 0 ∷ drop (i + 1) ms) e

pub no_number : (members all : List ℕ) (i : ℕ) → members ≡ all → length members ≤ i → drop i all ≡ []
no_number members all i e h = ap (drop i) (sym e) ∙ drop_of_length-le members h

-- A list without equal members is no longer than a list that has all of them.
use Rattle.std.proofs.Common.{◌≡◌, ℕ, zero, suc, ◌+◌, ◌≤◌, Bool, true, false, List, [], ◌∷◌, ◌⊎◌, inl, inr, Option, None, Some, refl, sym, ◌∙◌, subst, length, arith}
use Rattle.std.specs.List.{IsDistinct, AllByRecursion}
use Rattle.std.specs.Cmp.{unsigned_Decides, booleans_Decides}
use Rattle.std.specs.Cmp.Lexicographic.{pointwise, pointwise_decides}
use Rattle.std.proofs.lemmas.Bool.{and_from, ltb-true, ltb-false}
use Rattle.gx_include.specs.PairOrder.{same_pair}
use Rattle.gx_include.specs.Outcome.{exceeds}
use Rattle.gx_include.specs.Walk.{StateAt}
use Rattle.gx_include.specs.Laws.{PastIsNotWithin}
use Rattle.gx_include_positions.proofs.Lists.{In}
use mathlib.Core.Bool.{beq}

-- the members but one
pub record Without {X : Type 0} (x : X) (ys : List X) : Type 0 where
  pub others : List X
  pub one_less : length ys ≡ length others + 1
  pub stay : (y : X) → In y ys → (x ≡ y) ⊎ In y others

without : {X : Type 0} (x : X) (ys : List X) → In x ys → Without x ys
without x [] h = absurd h
without x (y ∷ ys) (inl e) = record {
  others = ys;
  one_less = omega arith;
  stay = λ z h. elim h [ inl f ↦ inl (sym e ∙ f) | inr k ↦ inr k ];
}
without x (y ∷ ys) (inr h) =
    let w = without x ys h in
    record {
      others = y ∷ w.others;
      one_less = omega (arith, w.one_less);
      stay = λ z k. elim k [
        | inl f ↦ inr (inl f)
        | inr g ↦ elim (w.stay z g) [ inl f ↦ inl f | inr l ↦ inr (inr l) ]
      ];
    }

-- no two members are one
abbrev pub AreDifferent : {X : Type 0} → List X → Type 0
AreDifferent [] = Unit {0}
AreDifferent (x ∷ xs) = (In x xs → ⊥) × AreDifferent xs

pub fits_in : {X : Type 0} (xs ys : List X) → AreDifferent xs → ((x : X) → In x xs → In x ys) → length xs ≤ length ys
fits_in [] ys d f = omega arith
fits_in {X} (x ∷ xs) ys d f =
    let w = without x ys (f x (inl refl)) in
    let less = fits_in xs w.others d.1 (λ y h. elim (w.stay y (f y (inr h))) [ inl e ↦ absurd (d.0 (subst (λ (z : X). In z xs) (sym e) h)) | inr k ↦ k ]) in
    omega (arith, less, w.one_less)

-- pairs that are told apart

same_itself : (p : ℕ × List Bool) → same_pair p p ≡ true
same_itself p = and_from _ (pointwise beq p.1 p.1) ((unsigned_Decides p.0 p.0).1 refl) ((pointwise_decides booleans_Decides p.1 p.1).1 refl)

not_among : (p : ℕ × List Bool) (ps : List (ℕ × List Bool)) → AllByRecursion (λ q. same_pair p q ≡ false) ps → In p ps → ⊥
not_among p [] all h = absurd h
not_among p (q ∷ ps) all (inl e) = let f : same_pair p p ≡ false = subst (λ x. same_pair p x ≡ false) e all.0 in let g = same_itself p in absurd (cc)
not_among p (q ∷ ps) all (inr h) = not_among p ps all.1 h

pub different : (ps : List (ℕ × List Bool)) → IsDistinct same_pair ps → AreDifferent ps
unfolding IsDistinct
different [] d = tt
different (p ∷ ps) d = (not_among p ps d.0, different ps d.1)

-- members and places

pub in_place : {X : Type 0} (xs : List X) (x : X) → In x xs → (i : ℕ) × StateAt xs i x
in_place [] x h = absurd h
in_place (z ∷ xs) x (inl e) = (0, (omega arith, e))
in_place (z ∷ xs) x (inr h) = let q = in_place xs x h in (suc q.0, (omega (arith, q.1.0), q.1.1))

place_in : {X : Type 0} (xs : List X) (i : ℕ) (x : X) → StateAt xs i x → In x xs
place_in [] i x h = absurd (omega (arith, h.0))
place_in (z ∷ xs) zero x h = inl h.1
place_in (z ∷ xs) (suc i) x h = inr (place_in xs i x (omega (arith, h.0), h.1))

apart : (limit : Option ℕ) (many few : ℕ) → exceeds limit many ≡ true → exceeds limit few ≡ false → many ≤ few → ⊥
apart None many few e f h = absurd (cc)
apart (Some limit) many few e f h = let m = ltb-true limit many e in let n = ltb-false limit few f in omega (arith, m, n)

no_limit : (limit : Option ℕ) (many : ℕ) → limit ≡ None → exceeds limit many ≡ true → ⊥
no_limit None many e f = absurd (cc)
no_limit (Some limit) many e f = absurd (cc)

pub past_is_not_within : PastIsNotWithin
past_is_not_within a b letters limit past (inl none) = no_limit limit (length past.pairs) none past.many
past_is_not_within a b letters limit past (inr (pairs, few, all)) =
    apart limit (length past.pairs) (length pairs) past.many few
    (fits_in past.pairs pairs (different past.pairs past.different)
    (λ p h.
    let i = in_place past.pairs p h in
    let r = past.reached i.0 p i.1 in
    let j = all r.0 p r.1 in
    place_in pairs j.0 p j.1))

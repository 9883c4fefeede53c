-- Numbers that ascend: what a sort leaves, and when two such lists are equal.
use Rattle.std.proofs.Common.{◌≡◌, ℕ, suc, ◌<◌, ◌≤◌, Bool, true, false, ◌||◌, eqb, nat_eq, nat_lt, cond, List, [], ◌∷◌, refl, sym, ap, ◌∙◌, arith, subst}
use Rattle.std.specs.List.{list_any, dedup, dedup_from, AllByRecursion}
use Rattle.std.specs.List.Sorted.{IsSorted, IsStrictlySortedBy}
use Rattle.std.specs.Ordering.{nat_cmp}
use Rattle.std.specs.declared.cmp.Ordering.TheVariants.{Less, Equal, Greater}
use Rattle.std.proofs.lemmas.Bool.{eqb-true, eq-eqb, ltb-true, ltb-false}
use Rattle.std.proofs.lemmas.Map.Keys.{IsStrictlyIncreasing-dedup, sorted_from_strictly_increasing}
use Rattle.gx_join_table.specs.RowNumbers.{AscendFrom}

-- what a sort leaves

less_is_below : (m n : ℕ) → nat_cmp m n ≡ Less → m < n
less_is_below m n e = by_test (nat_lt m n) (nat_eq m n) refl refl
  where
    by_test : (below same : Bool) → nat_lt m n ≡ below → nat_eq m n ≡ same → m < n
    by_test true same f g = ltb-true m n f
    by_test false true f g = let k : nat_cmp m n ≡ Equal = rw (f, g) refl in absurd (cc)
    by_test false false f g = let k : nat_cmp m n ≡ Greater = rw (f, g) refl in absurd (cc)

all_above : (n : ℕ) (ns : List ℕ) → AllByRecursion (λ m. nat_cmp n m ≡ Less) ns → AllByRecursion (λ m. suc n ≤ m) ns
all_above n [] h = tt
all_above n (m ∷ ns) h = (let k = less_is_below n m h.0 in omega arith, all_above n ns h.1)

all_from_zero : (ns : List ℕ) → AllByRecursion (λ m. 0 ≤ m) ns
all_from_zero [] = tt
all_from_zero (n ∷ ns) = (omega arith, all_from_zero ns)

sorted_ascends : (least : ℕ) (ns : List ℕ) → AllByRecursion (λ m. least ≤ m) ns → IsStrictlySortedBy nat_cmp ns → AscendFrom least ns
unfolding IsStrictlySortedBy
sorted_ascends least [] a s = tt
sorted_ascends least (n ∷ ns) a s = (a.0, sorted_ascends (suc n) ns (all_above n ns s.0) s.1)

pub ordered_ascends : (sorted ordered : List ℕ) → IsSorted nat_cmp sorted → ordered ≡ dedup eqb sorted → AscendFrom 0 ordered
ordered_ascends sorted ordered s e =
    subst (AscendFrom 0) (sym e) (sorted_ascends 0 (dedup eqb sorted) (all_from_zero (dedup eqb sorted)) (sorted_from_strictly_increasing (dedup eqb sorted) (IsStrictlyIncreasing-dedup sorted s)))

in_deduped_if : (p : ℕ → Bool) (k x : ℕ) (xs : List ℕ) (b : Bool) → eqb x k ≡ b → list_any p (dedup_from eqb k xs) ≡ (p k || list_any p xs)
    → list_any p (dedup_from eqb x xs) ≡ (p x || list_any p xs) → list_any p (cond b (dedup_from eqb k xs) (k ∷ dedup_from eqb x xs)) ≡ (p k || (p x || list_any p xs))
in_deduped_if p k x xs true e h g =
    let same : x ≡ k = eqb-true x k e in h ∙ absorbed (p k) (list_any p xs) ∙ sym (ap (λ (w : ℕ). p k || (p w || list_any p xs)) same)
  where
    absorbed : (a b : Bool) → (a || b) ≡ (a || (a || b))
    absorbed true b = refl
    absorbed false b = refl
in_deduped_if p k x xs false e h g = ap (λ (c : Bool). p k || c) g

in_deduped_from : (p : ℕ → Bool) (k : ℕ) (xs : List ℕ) → list_any p (dedup_from eqb k xs) ≡ (p k || list_any p xs)
in_deduped_from p k [] = refl
in_deduped_from p k (x ∷ xs) = in_deduped_if p k x xs (eqb x k) refl (in_deduped_from p k xs) (in_deduped_from p x xs)

pub in_deduped : (p : ℕ → Bool) (xs : List ℕ) → list_any p (dedup eqb xs) ≡ list_any p xs
in_deduped p [] = refl
in_deduped p (x ∷ xs) = in_deduped_from p x xs

-- two lists with the same numbers

abbrev HaveSameNumbers : List ℕ → List ℕ → Type 0
HaveSameNumbers ms ns = (n : ℕ) → list_any (nat_eq n) ms ≡ list_any (nat_eq n) ns

pub differs : (k m : ℕ) → m < k → nat_eq k m ≡ false
differs k m l = by_test (nat_eq k m) refl
  where
    by_test : (b : Bool) → nat_eq k m ≡ b → b ≡ false
    by_test true e = let same = eqb-true k m e in absurd (omega arith)
    by_test false e = refl

differs_below : (k m : ℕ) → k < m → nat_eq k m ≡ false
differs_below k m l = by_test (nat_eq k m) refl
  where
    by_test : (b : Bool) → nat_eq k m ≡ b → b ≡ false
    by_test true e = let same = eqb-true k m e in absurd (omega arith)
    by_test false e = refl

-- a number below all of a list is not in it
pub not_there : (least n : ℕ) (ns : List ℕ) → n < least → AscendFrom least ns → list_any (nat_eq n) ns ≡ false
not_there least n [] l a = refl
not_there least n (m ∷ ns) l a =
    ap (λ (b : Bool). b || list_any (nat_eq n) ns) (differs_below n m (omega (arith, a.0))) ∙ not_there (suc m) n ns (omega (arith, a.0)) a.1

is_itself : (n : ℕ) (ns : List ℕ) → list_any (nat_eq n) (n ∷ ns) ≡ true
is_itself n ns = ap (λ (b : Bool). b || list_any (nat_eq n) ns) (eq-eqb n n refl)

-- the first number of one list is not above that of the other
same_first : (x y : ℕ) (xs ys : List ℕ) → AscendFrom (suc x) xs → HaveSameNumbers (x ∷ xs) (y ∷ ys) → x ≤ y
same_first x y xs ys a h = by_test (nat_lt y x) refl
  where
    by_test : (c : Bool) → nat_lt y x ≡ c → x ≤ y
    by_test true e =
        let below : y < x = ltb-true y x e in
        let none : list_any (nat_eq y) (x ∷ xs) ≡ false = not_there x y (x ∷ xs) below (omega arith, a) in
        absurd (cc (h y, none, is_itself y ys))
    by_test false e = ltb-false y x e

same_rest : (m n k : ℕ) (ms ns : List ℕ) → m ≡ n → AscendFrom (suc m) ms → AscendFrom (suc m) ns → HaveSameNumbers (m ∷ ms) (n ∷ ns) → list_any (nat_eq k) ms ≡ list_any (nat_eq k) ns
same_rest m n k ms ns same a b h = by_test (nat_lt m k) refl
  where
    by_test : (c : Bool) → nat_lt m k ≡ c → list_any (nat_eq k) ms ≡ list_any (nat_eq k) ns
    by_test true e =
        let l : m < k = ltb-true m k e in
        sym (ap (λ (c : Bool). c || list_any (nat_eq k) ms) (differs k m l)) ∙ h k ∙ ap (λ (c : Bool). c || list_any (nat_eq k) ns) (differs k n (omega arith))
    by_test false e =
        let l : k ≤ m = ltb-false m k e in
        not_there (suc m) k ms (omega arith) a ∙ sym (not_there (suc m) k ns (omega arith) b)

pub same_numbers : (least : ℕ) (ms ns : List ℕ) → AscendFrom least ms → AscendFrom least ns → HaveSameNumbers ms ns → ms ≡ ns
same_numbers least [] [] a b h = refl
same_numbers least [] (n ∷ ns) a b h = absurd (cc (h n, is_itself n ns))
same_numbers least (m ∷ ms) [] a b h = absurd (cc (h m, is_itself m ms))
same_numbers least (m ∷ ms) (n ∷ ns) a b h =
    let one = same_first m n ms ns a.1 h in
    let other = same_first n m ns ms b.1 (λ k. sym (h k)) in
    let same : m ≡ n = omega arith in
    let after : AscendFrom (suc m) ns = subst (λ (k : ℕ). AscendFrom (suc k) ns) (sym same) b.1 in
    let rest : ms ≡ ns = same_numbers (suc m) ms ns a.1 after (λ k. same_rest m n k ms ns same a.1 after h) in
    λ i. same i ∷ rest i

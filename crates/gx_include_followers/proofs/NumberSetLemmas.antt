-- Sets as flags and as ascending members.
use Rattle.std.proofs.Common.{◌≡◌, ℕ, zero, suc, ◌+◌, ◌-◌, ◌<◌, ◌≤◌, Bool, true, false, ◌&&◌, ◌||◌, eqb, ltb, nat_eq, nat_lt, cond, List, [], ◌∷◌, ◌++◌, filter, drop, length, get_or, refl, sym, ap, ◌∙◌, arith, subst, inl, inr, ◌⊎◌}
use Rattle.std.proofs.Math.ListN.{replicate}
use Rattle.std.specs.Prelude.{min, Result, Ok, Err, is_ok, IfOk, MatchResult}
use Rattle.std.specs.Bool.{Decides}
use Rattle.std.specs.List.{list_any, dedup, dedup_from, AllByRecursion, HoldsAt}
use Rattle.std.specs.List.Sorted.{IsSorted, IsStrictlySortedBy, IsBinarySearchResult}
use Rattle.std.specs.Cmp.{both_ways, booleans_Decides, unsigned_Decides}
use Rattle.std.specs.Cmp.Lexicographic.{pointwise}
use Rattle.std.specs.Ordering.{nat_cmp}
use Rattle.std.specs.declared.cmp.Ordering.TheVariants.{Less, Equal, Greater}
use Rattle.std.proofs.lemmas.Bool.{eqb-true, eq-eqb, ltb-true, ltb-false, lt-ltb, and_parts, and_from, cases_lt, or_left, or_right, or_cases, false≢true}
use Rattle.std.proofs.lemmas.List.{same_lists, get_or_default, get_or_past, length-replicate, length-append}
use Rattle.std.proofs.lemmas.List.Sorted.{searched}
use Rattle.std.proofs.lemmas.Map.Keys.{IsStrictlyIncreasing-dedup, sorted_from_strictly_increasing}
use Rattle.std.proofs.lemmas.Map.Views.{any-filter_same}
use Rattle.std.proofs.lemmas.Slice.Eq.{slice_eq-Decides}
use Rattle.gx_include_followers.specs.NumberSet.{AscendWithin, flags_within, flagged_from, flagged}
use Rattle.gx_include_followers.specs.NumberSetOrder.{same_number_sets}
use Rattle.gx_include_positions.specs.Positions.{both_set}
use Rattle.gx_include_positions.specs.Step.{single}
use mathlib.Core.Bool.{beq}

pub below_end : (from end : ℕ) (ns : List ℕ) → AscendWithin from end ns → from ≤ end
below_end from end [] h = h
below_end from end (n ∷ ns) h = let k = below_end (suc n) end ns h.1 in omega (arith, h.0)

-- members of flags

members_past : (from k : ℕ) (flags : List Bool) → flagged_from from (replicate k false ++ flags) ≡ flagged_from (from + k) flags
members_past from zero flags = ap (λ n. flagged_from n flags) (let e : from ≡ from + 0 = omega arith in e)
members_past from (suc k) flags = members_past (suc from) k flags ∙ ap (λ n. flagged_from n flags) (let e : suc from + k ≡ from + suc k = omega arith in e)

none_among : (from k : ℕ) → flagged_from from (replicate k false) ≡ []
none_among from zero = refl
none_among from (suc k) = none_among (suc from) k

pub members_within : (from end : ℕ) (ns : List ℕ) → AscendWithin from end ns → flagged_from from (flags_within from end ns) ≡ ns
members_within from end [] h = none_among from (end - from)
members_within from end (n ∷ ns) h =
    let e : from + (n - from) ≡ n = omega (arith, h.0) in
    members_past from (n - from) (true ∷ flags_within (suc n) end ns)
    ∙ ap (λ m. flagged_from m (true ∷ flags_within (suc n) end ns)) e
    ∙ ap (λ ms. n ∷ ms) (members_within (suc n) end ns h.1)

pub length_within : (from end : ℕ) (ns : List ℕ) → AscendWithin from end ns → length (flags_within from end ns) ≡ end - from
length_within from end [] h = length-replicate (end - from) false
length_within from end (n ∷ ns) h =
    let e : length (replicate (n - from) false) ≡ n - from = length-replicate (n - from) false in
    let f : length (flags_within (suc n) end ns) ≡ end - suc n = length_within (suc n) end ns h.1 in
    let k : suc n ≤ end = below_end (suc n) end ns h.1 in
    let g : length (flags_within from end (n ∷ ns)) ≡ length (replicate (n - from) false) + suc (length (flags_within (suc n) end ns)) =
    length-append (replicate (n - from) false) (true ∷ flags_within (suc n) end ns) in
    omega (arith, e, f, k, g, h.0)

same_number : (n : ℕ) → nat_eq n (n + 0) ≡ true
same_number n = eq-eqb n (n + 0) (omega arith)

other_number : (m n : ℕ) → m < n → nat_eq m n ≡ false
other_number m n l = by_test (nat_eq m n) refl
  where
    by_test : (b : Bool) → nat_eq m n ≡ b → nat_eq m n ≡ false
    by_test true e = let same = eqb-true m n e in absurd (omega arith)
    by_test false e = e

other_number_above : (m n : ℕ) → n < m → nat_eq m n ≡ false
other_number_above m n l = by_test (nat_eq m n) refl
  where
    by_test : (b : Bool) → nat_eq m n ≡ b → nat_eq m n ≡ false
    by_test true e = let same = eqb-true m n e in absurd (omega arith)
    by_test false e = e

none_below : (first n : ℕ) (flags : List Bool) → n < first → list_any (λ m. nat_eq m n) (flagged_from first flags) ≡ false
none_below first n [] h = refl
none_below first n (true ∷ flags) h =
    ap (λ b. b || list_any (λ m. nat_eq m n) (flagged_from (suc first) flags)) (other_number_above first n h) ∙ none_below (suc first) n flags (omega arith)
none_below first n (false ∷ flags) h = none_below (suc first) n flags (omega arith)

-- a flag is set where its number is a member
pub flag_is : (first i : ℕ) (flags : List Bool) → get_or flags i false ≡ list_any (λ m. nat_eq m (first + i)) (flagged_from first flags)
flag_is first i [] = refl
flag_is first zero (true ∷ flags) = sym (ap (λ b. b || list_any (λ m. nat_eq m (first + 0)) (flagged_from (suc first) flags)) (same_number first))
flag_is first zero (false ∷ flags) = sym (none_below (suc first) (first + 0) flags (omega arith))
flag_is first (suc i) (true ∷ flags) =
    flag_is (suc first) i flags ∙ ap (λ n. list_any (λ m. nat_eq m n) (flagged_from (suc first) flags)) (let e : suc first + i ≡ first + suc i = omega arith in e)
    ∙ sym (ap (λ b. b || list_any (λ m. nat_eq m (first + suc i)) (flagged_from (suc first) flags)) (other_number first (first + suc i) (omega arith)))
flag_is first (suc i) (false ∷ flags) =
    flag_is (suc first) i flags ∙ ap (λ n. list_any (λ m. nat_eq m n) (flagged_from (suc first) flags)) (let e : suc first + i ≡ first + suc i = omega arith in e)

pub flag_of_members : (end i : ℕ) (ns : List ℕ) → AscendWithin 0 end ns → get_or (flags_within 0 end ns) i false ≡ list_any (λ m. nat_eq m i) ns
flag_of_members end i ns h =
    flag_is 0 i (flags_within 0 end ns)
    ∙ ap (λ n. list_any (λ m. nat_eq m n) (flagged_from 0 (flags_within 0 end ns))) (let e : 0 + i ≡ i = omega arith in e)
    ∙ ap (λ ms. list_any (λ m. nat_eq m i) ms) (members_within 0 end ns h)

pub same_flags : (xs ys : List Bool) → length xs ≡ length ys → ((i : ℕ) → i < length xs → get_or xs i false ≡ get_or ys i false) → xs ≡ ys
same_flags xs ys e f = same_lists xs ys e (λ k d h. get_or_default xs k d false h ∙ f k h ∙ get_or_default ys k false d (omega (arith, e)))

-- one member

pub one_flag : (place : ℕ) → flags_within 0 (place + 1) (place ∷ []) ≡ single place
one_flag place =
    let e : place + 1 - suc place ≡ 0 = omega arith in
    let f : place - 0 ≡ place = omega arith in
    ap (λ n. replicate (place - 0) false ++ true ∷ replicate n false) e ∙ ap (λ n. replicate n false ++ true ∷ []) f

-- members in order

abbrev AllFrom : ℕ → List ℕ → Type 0
AllFrom from ns = AllByRecursion (λ n. from ≤ n) ns

less_is_below : (m n : ℕ) → nat_cmp m n ≡ Less → m < n
less_is_below m n e = by_test (nat_lt m n) (nat_eq m n) refl refl
  where
    by_test : (below same : Bool) → nat_lt m n ≡ below → nat_eq m n ≡ same → m < n
    by_test true same f g = ltb-true m n f
    by_test false true f g = let k : nat_cmp m n ≡ Equal = rw (f, g) refl in absurd (cc)
    by_test false false f g = let k : nat_cmp m n ≡ Greater = rw (f, g) refl in absurd (cc)

all_above : (n : ℕ) (ns : List ℕ) → AllByRecursion (λ m. nat_cmp n m ≡ Less) ns → AllFrom (suc n) ns
all_above n [] h = tt
all_above n (m ∷ ns) h = (let k = less_is_below n m h.0 in omega arith, all_above n ns h.1)

all_from : (from n : ℕ) (ns : List ℕ) → from ≤ n → AllFrom n ns → AllFrom from ns
all_from from n [] h a = tt
all_from from n (m ∷ ns) h a = (omega (arith, a.0), all_from from n ns h a.1)

sorted_within : (from count : ℕ) (ns : List ℕ) → from ≤ count → AllFrom from ns → IsStrictlySortedBy nat_cmp ns → AscendWithin from count (filter (λ n. nat_lt n count) ns)
unfolding IsStrictlySortedBy
sorted_within from count [] h a s = h
sorted_within from count (n ∷ ns) h a s =
    by_test (nat_lt n count) refl (λ l. sorted_within (suc n) count ns l (all_above n ns s.0) s.1) (sorted_within from count ns h a.1 s.1)
  where
    by_test : (b : Bool) → nat_lt n count ≡ b → (suc n ≤ count → AscendWithin (suc n) count (filter (λ m. nat_lt m count) ns)) → AscendWithin from count (filter (λ m. nat_lt m count) ns)
        → AscendWithin from count (cond b (n ∷ filter (λ m. nat_lt m count) ns) (filter (λ m. nat_lt m count) ns))
    by_test true e here not = (a.0, here (ltb-true n count e))
    by_test false e here not = not

all_from_zero : (ns : List ℕ) → AllFrom 0 ns
all_from_zero [] = tt
all_from_zero (n ∷ ns) = (omega arith, all_from_zero ns)

pub ordered_ascend : (count : ℕ) (sorted unique kept : List ℕ) → IsSorted nat_cmp sorted → unique ≡ dedup eqb sorted → kept ≡ filter (λ n. nat_lt n count) unique → AscendWithin 0 count kept
ordered_ascend count sorted unique kept s e f =
    subst (AscendWithin 0 count) (sym (f ∙ ap (filter (λ n. nat_lt n count)) e))
    (sorted_within 0 count (dedup eqb sorted) (omega arith) (all_from_zero (dedup eqb sorted)) (sorted_from_strictly_increasing (dedup eqb sorted) (IsStrictlyIncreasing-dedup sorted s)))

in_deduped_if : (p : ℕ → Bool) (k x : ℕ) (xs : List ℕ) (b : Bool) → eqb x k ≡ b → list_any p (dedup_from eqb k xs) ≡ (p k || list_any p xs)
    → list_any p (dedup_from eqb x xs) ≡ (p x || list_any p xs) → list_any p (cond b (dedup_from eqb k xs) (k ∷ dedup_from eqb x xs)) ≡ (p k || (p x || list_any p xs))
in_deduped_if p k x xs true e h g =
    let same : x ≡ k = eqb-true x k e in h ∙ absorbed (p k) (list_any p xs) ∙ sym (ap (λ (w : ℕ). p k || (p w || list_any p xs)) same)
  where
    absorbed : (a b : Bool) → (a || b) ≡ (a || (a || b))
    absorbed true b = refl
    absorbed false b = refl
in_deduped_if p k x xs false e h g = ap (λ (c : Bool). p k || c) g

in_deduped_from : (p : ℕ → Bool) (k : ℕ) (xs : List ℕ) → list_any p (dedup_from eqb k xs) ≡ (p k || list_any p xs)
in_deduped_from p k [] = refl
in_deduped_from p k (x ∷ xs) = in_deduped_if p k x xs (eqb x k) refl (in_deduped_from p k xs) (in_deduped_from p x xs)

in_deduped : (p : ℕ → Bool) (xs : List ℕ) → list_any p (dedup eqb xs) ≡ list_any p xs
in_deduped p [] = refl
in_deduped p (x ∷ xs) = in_deduped_from p x xs

pub ordered_same : (count n : ℕ) (sorted unique kept : List ℕ) → unique ≡ dedup eqb sorted → kept ≡ filter (λ m. nat_lt m count) unique → n < count
    → list_any (λ m. nat_eq m n) kept ≡ list_any (λ m. nat_eq m n) sorted
ordered_same count n sorted unique kept e f l =
    ap (list_any (λ m. nat_eq m n)) f
    ∙ any-filter_same (λ m. nat_eq m n) (λ m. nat_lt m count) true (λ m h. let same = eqb-true m n h in lt-ltb m count (omega arith)) unique
    ∙ ap (list_any (λ m. nat_eq m n)) e ∙ in_deduped (λ m. nat_eq m n) sorted

-- two sets

pub same_sets : (c d : ℕ) (ms ns : List ℕ) → AscendWithin 0 c ms → AscendWithin 0 d ns → (nat_eq c d && pointwise nat_eq ms ns) ≡ same_number_sets (flags_within 0 c ms) (flags_within 0 d ns)
same_sets c d ms ns h k = both_ways (nat_eq c d && pointwise nat_eq ms ns) (same_number_sets (flags_within 0 c ms) (flags_within 0 d ns)) there back
  where
    there : (nat_eq c d && pointwise nat_eq ms ns) ≡ true → same_number_sets (flags_within 0 c ms) (flags_within 0 d ns) ≡ true
    there e =
        let p = and_parts (nat_eq c d) (pointwise nat_eq ms ns) e in
        let f : c ≡ d = eqb-true c d p.0 in
        let g : ms ≡ ns = (slice_eq-Decides unsigned_Decides ms ns (pointwise nat_eq ms ns) refl).0 p.1 in
        (slice_eq-Decides booleans_Decides (flags_within 0 c ms) (flags_within 0 d ns) (same_number_sets (flags_within 0 c ms) (flags_within 0 d ns)) refl).1
        (ap (λ n. flags_within 0 n ms) f ∙ ap (flags_within 0 d) g)

    back : same_number_sets (flags_within 0 c ms) (flags_within 0 d ns) ≡ true → (nat_eq c d && pointwise nat_eq ms ns) ≡ true
    back e =
        let f = (slice_eq-Decides booleans_Decides (flags_within 0 c ms) (flags_within 0 d ns) (same_number_sets (flags_within 0 c ms) (flags_within 0 d ns)) refl).0 e in
        let lens = sym (length_within 0 c ms h) ∙ ap length f ∙ length_within 0 d ns k in
        let g : ms ≡ ns = sym (members_within 0 c ms h) ∙ ap (flagged_from 0) f ∙ members_within 0 d ns k in
        and_from (nat_eq c d) (pointwise nat_eq ms ns) (eq-eqb c d (omega (arith, lens))) ((slice_eq-Decides unsigned_Decides ms ns (pointwise nat_eq ms ns) refl).1 g)

pub same_members : (c d : ℕ) (ms ns : List ℕ) (xs ys : List Bool) → AscendWithin 0 c ms → AscendWithin 0 d ns → flags_within 0 c ms ≡ xs → flags_within 0 d ns ≡ ys → c ≡ d
    → pointwise nat_eq ms ns ≡ same_number_sets xs ys
same_members c d ms ns xs ys h k f g e =
    sym (ap (λ b. b && pointwise nat_eq ms ns) (eq-eqb c d e)) ∙ same_sets c d ms ns h k ∙ ap (λ (zs : List Bool). same_number_sets zs (flags_within 0 d ns)) f ∙ ap (same_number_sets xs) g

pub other_count : (c d : ℕ) (ms ns : List ℕ) (xs ys : List Bool) → AscendWithin 0 c ms → AscendWithin 0 d ns → flags_within 0 c ms ≡ xs → flags_within 0 d ns ≡ ys → (c ≡ d → ⊥)
    → nat_eq c d ≡ same_number_sets xs ys
other_count c d ms ns xs ys h k f g e =
    let no = different (nat_eq c d) refl in
    no ∙ sym (ap (λ b. b && pointwise nat_eq ms ns) no) ∙ same_sets c d ms ns h k ∙ ap (λ (zs : List Bool). same_number_sets zs (flags_within 0 d ns)) f ∙ ap (same_number_sets xs) g
  where
    different : (b : Bool) → nat_eq c d ≡ b → nat_eq c d ≡ false
    different true q = absurd (e (eqb-true c d q))
    different false q = q

get_both : (xs ys : List Bool) (i : ℕ) → get_or (both_set xs ys) i false ≡ (get_or xs i false && get_or ys i false)
get_both [] ys i = refl
get_both (x ∷ xs) [] i = sym (and_false (get_or (x ∷ xs) i false))
  where
    and_false : (b : Bool) → (b && false) ≡ false
    and_false true = refl
    and_false false = refl
get_both (x ∷ xs) (y ∷ ys) zero = refl
get_both (x ∷ xs) (y ∷ ys) (suc i) = get_both xs ys i

pub both_sets_swapped : (xs ys : List Bool) → both_set xs ys ≡ both_set ys xs
both_sets_swapped [] [] = refl
both_sets_swapped [] (y ∷ ys) = refl
both_sets_swapped (x ∷ xs) [] = refl
both_sets_swapped (x ∷ xs) (y ∷ ys) = ap (λ b. b ∷ both_set xs ys) (swapped x y) ∙ ap (λ zs. (y && x) ∷ zs) (both_sets_swapped xs ys)
  where
    swapped : (a b : Bool) → (a && b) ≡ (b && a)
    swapped true true = refl
    swapped true false = refl
    swapped false true = refl
    swapped false false = refl

length_both : (xs ys : List Bool) → length (both_set xs ys) ≡ min (length xs) (length ys)
length_both [] ys = omega arith
length_both (x ∷ xs) [] = omega arith
length_both (x ∷ xs) (y ∷ ys) = ap suc (length_both xs ys) ∙ min_suc (length xs) (length ys)
  where
    min_suc : (m n : ℕ) → suc (min m n) ≡ min (suc m) (suc n)
    min_suc m n = omega arith

-- those members of one set that another one has

ascend_less : (from end less : ℕ) (p : ℕ → Bool) (ns : List ℕ) → from ≤ less → ((n : ℕ) → p n ≡ true → n < less) → AscendWithin from end ns → AscendWithin from less (filter p ns)
ascend_less from end less p [] h f a = h
ascend_less from end less p (n ∷ ns) h f a =
    by_test (p n) refl (λ l. ascend_less (suc n) end less p ns l f a.1) (ascend_less from end less p ns h f (further from (suc n) ns (omega (arith, a.0)) a.1))
  where
    further : (n m : ℕ) (ns : List ℕ) → n ≤ m → AscendWithin m end ns → AscendWithin n end ns
    further n m [] l a = omega arith
    further n m (k ∷ ns) l a = (omega (arith, a.0), a.1)

    by_test : (b : Bool) → p n ≡ b → (suc n ≤ less → AscendWithin (suc n) less (filter p ns)) → AscendWithin from less (filter p ns)
        → AscendWithin from less (cond b (n ∷ filter p ns) (filter p ns))
    by_test true e here not = (a.0, here (f n e))
    by_test false e here not = not

set_within : (end i : ℕ) (flags : List Bool) → length flags ≡ end → get_or flags i false ≡ true → i < end
set_within end i flags e h = elim (cases_lt i end) [ inl l ↦ l | inr l ↦ let n = get_or_past flags i false (omega (arith, e)) in absurd (cc) ]

any_within : (end i : ℕ) (ns : List ℕ) (h : AscendWithin 0 end ns) → list_any (λ m. nat_eq m i) ns ≡ true → i < end
any_within end i ns h e =
    let l = length_within 0 end ns h in
    set_within end i (flags_within 0 end ns) (omega (arith, l)) (flag_of_members end i ns h ∙ e)

any_filtered : (i : ℕ) (p : ℕ → Bool) (ns : List ℕ) → list_any (λ m. nat_eq m i) (filter p ns) ≡ (p i && list_any (λ m. nat_eq m i) ns)
any_filtered i p ns = any-filter_same (λ m. nat_eq m i) p (p i) (λ m h. ap p (eqb-true m i h)) ns

below_both : (c d : ℕ) (ms : List ℕ) (other : List Bool) → AscendWithin 0 c ms → length other ≡ d
    → AscendWithin 0 (min c d) (filter (λ n. get_or other n false && list_any (λ m. nat_eq m n) ms) ms)
below_both c d ms other h e =
    ascend_less 0 c (min c d) (λ n. get_or other n false && list_any (λ m. nat_eq m n) ms) ms (omega arith)
    (λ n t.
    let p = and_parts (get_or other n false) (list_any (λ m. nat_eq m n) ms) t in
    let k = set_within d n other e p.0 in let l = any_within c n ms h p.1 in omega arith)
    h

own_filtered : (p : ℕ → Bool) (ms ns : List ℕ) → ((n : ℕ) → list_any (λ m. nat_eq m n) ns ≡ true → list_any (λ m. nat_eq m n) ms ≡ true)
    → filter (λ n. p n && list_any (λ m. nat_eq m n) ms) ns ≡ filter p ns
own_filtered p ms [] f = refl
own_filtered p ms (n ∷ ns) f =
    let here : list_any (λ m. nat_eq m n) ms ≡ true = f n (or_left (nat_eq n n) (list_any (λ m. nat_eq m n) ns) (eq-eqb n n refl)) in
    let rest = own_filtered p ms ns (λ k h. f k (or_right (nat_eq n k) (list_any (λ m. nat_eq m k) ns) h)) in
    ap (λ b. cond (p n && b) (n ∷ filter (λ k. p k && list_any (λ m. nat_eq m k) ms) ns) (filter (λ k. p k && list_any (λ m. nat_eq m k) ms) ns)) here
    ∙ ap (λ b. cond b (n ∷ filter (λ k. p k && list_any (λ m. nat_eq m k) ms) ns) (filter (λ k. p k && list_any (λ m. nat_eq m k) ms) ns)) (and_true (p n))
    ∙ ap (λ ks. cond (p n) (n ∷ ks) ks) rest
  where
    and_true : (b : Bool) → (b && true) ≡ b
    and_true true = refl
    and_true false = refl

pub met_ascend : (c d : ℕ) (ms met : List ℕ) (other : List Bool) → AscendWithin 0 c ms → length other ≡ d → met ≡ filter (λ n. get_or other n false) ms → AscendWithin 0 (min c d) met
met_ascend c d ms met other h e f =
    subst (AscendWithin 0 (min c d)) (own_filtered (λ n. get_or other n false) ms ms (λ n t. t) ∙ sym f) (below_both c d ms other h e)

pub met_is : (c d : ℕ) (ms met : List ℕ) (other : List Bool) → AscendWithin 0 c ms → length other ≡ d → met ≡ filter (λ n. get_or other n false) ms
    → flags_within 0 (min c d) met ≡ both_set (flags_within 0 c ms) other
met_is c d ms met other h e f =
    let a = met_ascend c d ms met other h e f in
    let l = length_within 0 (min c d) met a in
    let k = length_within 0 c ms h in
    let b : length (both_set (flags_within 0 c ms) other) ≡ min c d = length_both (flags_within 0 c ms) other ∙ ap (λ n. min n (length other)) (let q : length (flags_within 0 c ms) ≡ c = omega (arith, k) in q) ∙ ap (min c) e in
    same_flags (flags_within 0 (min c d) met) (both_set (flags_within 0 c ms) other) (omega (arith, l, b))
    (λ i t.
    flag_of_members (min c d) i met a ∙ ap (list_any (λ m. nat_eq m i)) f ∙ any_filtered i (λ n. get_or other n false) ms
    ∙ swapped (get_or other i false) (list_any (λ m. nat_eq m i) ms)
    ∙ ap (λ b. b && get_or other i false) (sym (flag_of_members c i ms h)) ∙ sym (get_both (flags_within 0 c ms) other i))
  where
    swapped : (a b : Bool) → (a && b) ≡ (b && a)
    swapped true true = refl
    swapped true false = refl
    swapped false true = refl
    swapped false false = refl

-- a binary search

at_least : (from end : ℕ) (ns : List ℕ) (j : ℕ) → AscendWithin from end ns → j < length ns → from ≤ get_or ns j 0
at_least from end [] j h l = absurd (omega arith)
at_least from end (n ∷ ns) zero h l = h.0
at_least from end (n ∷ ns) (suc j) h l = let k = at_least (suc n) end ns j h.1 (omega arith) in omega (arith, h.0)

rises : (from end : ℕ) (ns : List ℕ) → AscendWithin from end ns → (i j : ℕ) → i ≤ j → j < length ns → get_or ns i 0 ≤ get_or ns j 0
rises from end [] h i j l k = absurd (omega arith)
rises from end (n ∷ ns) h zero zero l k = omega arith
rises from end (n ∷ ns) h zero (suc j) l k = let m = at_least (suc n) end ns j h.1 (omega arith) in omega arith
rises from end (n ∷ ns) h (suc i) zero l k = absurd (omega arith)
rises from end (n ∷ ns) h (suc i) (suc j) l k = rises (suc n) end ns h.1 i j (omega arith) (omega arith)

found_at : (x : ℕ) (ns : List ℕ) (i : ℕ) → i < length ns → get_or ns i 0 ≡ x → list_any (λ m. nat_eq m x) ns ≡ true
found_at x [] i h e = absurd (omega arith)
found_at x (n ∷ ns) zero h e = or_left (nat_eq n x) (list_any (λ m. nat_eq m x) ns) (eq-eqb n x e)
found_at x (n ∷ ns) (suc i) h e = or_right (nat_eq n x) (list_any (λ m. nat_eq m x) ns) (found_at x ns i (omega arith) e)

place_found : (x : ℕ) (ns : List ℕ) → list_any (λ m. nat_eq m x) ns ≡ true → (i : ℕ) × (i < length ns) × (get_or ns i 0 ≡ x)
place_found x [] h = absurd (false≢true h)
place_found x (n ∷ ns) h = elim (or_cases (nat_eq n x) (list_any (λ m. nat_eq m x) ns) h) [
  | inl e ↦ (0, omega arith, eqb-true n x e)
  | inr e ↦ let q = place_found x ns e in (suc q.0, omega (arith, q.1), q.2)
]

pub found_is : (end : ℕ) (ns : List ℕ) (x : ℕ) (r : Result ℕ ℕ) → AscendWithin 0 end ns → IsBinarySearchResult (λ y. nat_cmp y x) ns r → is_ok r ≡ list_any (λ m. nat_eq m x) ns
found_is end ns x r h s = by_result r (searched ns x r s (rises 0 end ns h))
  where
    by_test : (b : Bool) → ((b ≡ true) → ⊥) → false ≡ b
    by_test true f = absurd (f refl)
    by_test false f = refl

    by_result : (r : Result ℕ ℕ)
        → MatchResult r (λ i. (i < length ns) × (get_or ns i 0 ≡ x)) (λ i. (i ≤ length ns) × ((k : ℕ) → k < i → get_or ns k 0 < x) × ((k : ℕ) → i ≤ k → k < length ns → x < get_or ns k 0))
        → is_ok r ≡ list_any (λ m. nat_eq m x) ns
    by_result (Ok i) q = sym (found_at x ns i q.0 q.1)
    by_result (Err i) q = by_test (list_any (λ m. nat_eq m x) ns) (λ t.
        let f = place_found x ns t in
        elim (cases_lt f.0 i) [
          | inl l ↦ let k = q.1 f.0 l in let e = f.2 in omega arith
          | inr l ↦ let k = q.2 f.0 l f.1 in let e = f.2 in omega arith
        ])

-- one member after another

-- the first member of flags, how many flags stand before it, and the members behind it
pub record IsNextMember (from : ℕ) (flags : List Bool) (member : ℕ) (others : List ℕ) : Type 0 where
  pub before : ℕ
  pub is : member ≡ from + before
  pub within : before < length flags
  pub none : (k : ℕ) → k < before → get_or flags k false ≡ false
  pub behind : others ≡ flagged_from (suc member) (drop (suc before) flags)

pub next_member : (from : ℕ) (flags : List Bool) (member : ℕ) (others : List ℕ) → flagged_from from flags ≡ member ∷ others → IsNextMember from flags member others
next_member from [] member others e = absurd (cc)
next_member from (true ∷ flags) member others e = record {
  before = 0;
  is = let f : from ≡ member = cc in omega (arith, f);
  within = omega arith;
  none = λ k h. absurd (omega arith);
  behind = let f : from ≡ member = cc in let g : others ≡ flagged_from (suc from) flags = cc in g ∙ ap (λ n. flagged_from (suc n) flags) f;
}
next_member from (false ∷ flags) member others e = later (next_member (suc from) flags member others e)
  where
    unset : (next : IsNextMember (suc from) flags member others) (k : ℕ) → k < suc next.before → get_or (false ∷ flags) k false ≡ false
    unset next zero h = refl
    unset next (suc k) h = next.none k (omega arith)

    later : IsNextMember (suc from) flags member others → IsNextMember from (false ∷ flags) member others
    later next = record {
      before = suc next.before;
      is = omega (arith, next.is);
      within = omega (arith, next.within);
      none = unset next;
      behind = next.behind;
    }

pub no_member : (from : ℕ) (flags : List Bool) → flagged_from from flags ≡ [] → (k : ℕ) → get_or flags k false ≡ false
no_member from [] e k = refl
no_member from (true ∷ flags) e k = absurd (cc)
no_member from (false ∷ flags) e zero = refl
no_member from (false ∷ flags) e (suc k) = no_member (suc from) flags e k

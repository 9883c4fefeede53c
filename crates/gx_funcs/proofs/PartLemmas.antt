-- What stands at some positions of a list, by what is dropped and taken.
use Rattle.std.proofs.Common.{◌≡◌, ℕ, zero, suc, ◌+◌, ◌-◌, ◌≤◌, ◌<◌, ◌^◌, Bool, true, false, ◌&&◌, List, [], ◌∷◌, ◌++◌, length, take, drop, min, None, Some, refl, sym, ◌∙◌, ap, subst, arith, ℤ, pos, negsuc, ◌+ℤ◌}
use Rattle.std.specs.Prelude.{int_le, int_lt, nat_le, ◌⊎◌, if◌then◌else◌}
use Rattle.std.specs.Int.{saturate_signed, w128}
use Rattle.std.proofs.Common.{inl, inr}
use Rattle.std.proofs.lemmas.Bool.{leb-true, leb-false, ltb-true, ltb-false, lt-ltb, le-leb, lt-leb, and_from, and_left, and_right}
use Rattle.std.proofs.lemmas.Bool.Decides.{leb_tells}
use Rattle.std.proofs.lemmas.List.{length-drop, drop-take, drop-drop, drop_min, take_all, take_min, take-append-drop}
use Rattle.std.proofs.Common.{append-nil}
use Rattle.std.proofs.Math.ListN.{drop_of_length-le}
use Rattle.std.specs.Prelude.{encode_utf8_all}
use Rattle.std.specs.Str.{chars, all_scalars}
use Rattle.std.proofs.lemmas.Str.{length-le-encodes}
use Rattle.gx_funcs.proofs.TextLemmas.{chars_from}
use Rattle.gx_num.specs.declared.Number.{Number}
use Rattle.gx_funcs.specs.Positions.{within_positions, nearest_whole, from_position, so_many_from, positions_before, is_position, all_but, with_before, without_position, inserted_before}

-- ---- a position stands from one number on exactly where so many stand before it

from_least : (least : ℤ) (p : ℕ) → (int_le least (pos (p + 1)) ≡ true → positions_before least ≤ p) × (int_le least (pos (p + 1)) ≡ false → p < positions_before least)
from_least (pos n) p = (
  λ e. let h : n ≤ p + 1 = leb-true n (p + 1) e in omega arith,
  λ e. let h : p + 1 < n = leb-false n (p + 1) e in omega arith,
)
from_least (negsuc n) p = (λ e. omega arith, λ e. absurd (cc))

below_limit : (limit : ℤ) (p : ℕ) → (int_lt (pos (p + 1)) limit ≡ true → p < positions_before limit) × (int_lt (pos (p + 1)) limit ≡ false → positions_before limit ≤ p)
below_limit (pos n) p = (
  λ e. let h : p + 1 < n = ltb-true (p + 1) n e in omega arith,
  λ e. let h : n ≤ p + 1 = ltb-false (p + 1) n e in omega arith,
)
below_limit (negsuc n) p = (λ e. absurd (cc), λ e. omega arith)

pub drop_nothing : {A : Type 0} (n : ℕ) → drop n (let e : List A = [] in e) ≡ []
drop_nothing zero = refl
drop_nothing (suc n) = refl

take_nothing : {A : Type 0} (n : ℕ) → take n (let e : List A = [] in e) ≡ []
take_nothing zero = refl
take_nothing (suc n) = refl

from : {A : Type 0} (least : ℤ) (p : ℕ) (xs : List A) → within_positions least None (pos (p + 1)) xs ≡ drop (positions_before least - p) xs
from least p [] = sym (drop_nothing (positions_before least - p))
from {A} least p (x ∷ xs) = by (int_le least (pos (p + 1))) refl (from least (p + 1) xs)
  where
    by : (b : Bool) → int_le least (pos (p + 1)) ≡ b → within_positions least None (pos (p + 1 + 1)) xs ≡ drop (positions_before least - (p + 1)) xs
        → (if b then x ∷ within_positions least None (pos (p + 1 + 1)) xs else within_positions least None (pos (p + 1 + 1)) xs) ≡ drop (positions_before least - p) (x ∷ xs)
    by true e rest =
        let h : positions_before least ≤ p = (from_least least p).0 e in
        let now : positions_before least - p ≡ 0 = omega arith in
        let later : positions_before least - (p + 1) ≡ 0 = omega arith in
        ap (λ (l : List A). x ∷ l) (rest ∙ ap (λ n. drop n xs) later) ∙ ap (λ n. drop n (x ∷ xs)) (sym now)
    by false e rest =
        let h : p < positions_before least = (from_least least p).1 e in
        let now : positions_before least - p ≡ suc (positions_before least - (p + 1)) = omega arith in
        rest ∙ ap (λ n. drop n (x ∷ xs)) (sym now)

between : {A : Type 0} (least limit : ℤ) (p : ℕ) (xs : List A) → within_positions least (Some limit) (pos (p + 1)) xs ≡ drop (positions_before least - p) (take (positions_before limit - p) xs)
between least limit p [] = sym (ap (drop (positions_before least - p)) (take_nothing (positions_before limit - p)) ∙ drop_nothing (positions_before least - p))
between {A} least limit p (x ∷ xs) = by (int_le least (pos (p + 1))) (int_lt (pos (p + 1)) limit) refl refl (between least limit (p + 1) xs)
  where
    ended : int_lt (pos (p + 1)) limit ≡ false
        → within_positions least (Some limit) (pos (p + 1 + 1)) xs ≡ drop (positions_before least - (p + 1)) (take (positions_before limit - (p + 1)) xs)
        → within_positions least (Some limit) (pos (p + 1 + 1)) xs ≡ drop (positions_before least - p) (take (positions_before limit - p) (x ∷ xs))
    ended f same =
        let h : positions_before limit ≤ p = (below_limit limit p).1 f in
        let now : positions_before limit - p ≡ 0 = omega arith in
        let later : positions_before limit - (p + 1) ≡ 0 = omega arith in
        same ∙ ap (λ n. drop (positions_before least - (p + 1)) (take n xs)) later ∙ drop_nothing (positions_before least - (p + 1))
        ∙ sym (ap (λ n. drop (positions_before least - p) (take n (x ∷ xs))) now ∙ drop_nothing (positions_before least - p))

    by : (b d : Bool) → int_le least (pos (p + 1)) ≡ b → int_lt (pos (p + 1)) limit ≡ d
        → within_positions least (Some limit) (pos (p + 1 + 1)) xs ≡ drop (positions_before least - (p + 1)) (take (positions_before limit - (p + 1)) xs)
        → (if b && d then x ∷ within_positions least (Some limit) (pos (p + 1 + 1)) xs else within_positions least (Some limit) (pos (p + 1 + 1)) xs)
        ≡ drop (positions_before least - p) (take (positions_before limit - p) (x ∷ xs))
    by true true e f same =
        let h : positions_before least ≤ p = (from_least least p).0 e in
        let k : p < positions_before limit = (below_limit limit p).0 f in
        let now : positions_before least - p ≡ 0 = omega arith in
        let later : positions_before least - (p + 1) ≡ 0 = omega arith in
        let more : positions_before limit - p ≡ suc (positions_before limit - (p + 1)) = omega arith in
        ap (λ (l : List A). x ∷ l) (same ∙ ap (λ n. drop n (take (positions_before limit - (p + 1)) xs)) later)
        ∙ sym (ap (λ n. drop n (take (positions_before limit - p) (x ∷ xs))) now ∙ ap (λ n. take n (x ∷ xs)) more)
    by false true e f same =
        let h : p < positions_before least = (from_least least p).1 e in
        let k : p < positions_before limit = (below_limit limit p).0 f in
        let now : positions_before least - p ≡ suc (positions_before least - (p + 1)) = omega arith in
        let more : positions_before limit - p ≡ suc (positions_before limit - (p + 1)) = omega arith in
        same ∙ sym (ap (λ n. drop n (take (positions_before limit - p) (x ∷ xs))) now ∙ ap (λ n. drop (suc (positions_before least - (p + 1))) (take n (x ∷ xs))) more)
    by true false e f same = ended f same
    by false false e f same = ended f same

-- ---- where no more than so many elements are there

length_taken : {A : Type 0} (n : ℕ) (xs : List A) → length (take n xs) ≤ n
length_taken zero xs = omega arith
length_taken (suc n) [] = omega arith
length_taken (suc n) (x ∷ xs) = let h = length_taken n xs in omega arith

drop_past : {A : Type 0} (n m : ℕ) (xs : List A) → length xs ≤ m → drop (min n m) xs ≡ drop n xs
drop_past n m xs h = by (leb_tells n m)
  where
    by : ((nat_le n m ≡ true) × (n ≤ m)) ⊎ ((nat_le n m ≡ false) × (m < n)) → drop (min n m) xs ≡ drop n xs
    by (inl k) = let g = k.1 in let e : min n m ≡ n = omega arith in ap (λ i. drop i xs) e
    by (inr k) =
        let g = k.1 in
        let e : min n m ≡ m = omega arith in
        ap (λ i. drop i xs) e ∙ drop_of_length-le xs h ∙ sym (drop_of_length-le xs (omega arith))

same_take : {A : Type 0} (n m : ℕ) (xs : List A) → length xs ≤ n → length xs ≤ m → take n xs ≡ take m xs
same_take n m xs h k = take_all n xs h ∙ sym (take_all m xs k)

middle : {A : Type 0} (l e m : ℕ) (xs : List A) → length xs ≤ m → take (min e m - min l m) (drop (min l m) xs) ≡ drop l (take e xs)
middle {A} l e m xs h = ap (take (min e m - min l m)) (drop_past l m xs h) ∙ by (leb_tells l e) (leb_tells e m)
  where
    short : length (drop l xs) ≡ length xs - l
    short = length-drop l xs

    few : length (take e xs) ≤ e
    few = length_taken e xs

    by : ((nat_le l e ≡ true) × (l ≤ e)) ⊎ ((nat_le l e ≡ false) × (e < l)) → ((nat_le e m ≡ true) × (e ≤ m)) ⊎ ((nat_le e m ≡ false) × (m < e))
        → take (min e m - min l m) (drop l xs) ≡ drop l (take e xs)
    by (inl j) (inl k) =
        let f = j.1 in
        let g = k.1 in
        let q : min e m - min l m ≡ e - l = omega arith in
        let r : l + (e - l) ≡ e = omega arith in
        ap (λ i. take i (drop l xs)) q ∙ sym (drop-take l (e - l) xs) ∙ ap (λ i. drop l (take i xs)) r
    by (inl j) (inr k) =
        let f = j.1 in
        let g = k.1 in
        let r : l + (e - l) ≡ e = omega arith in
        same_take (min e m - min l m) (e - l) (drop l xs) (omega (arith, short)) (omega (arith, short)) ∙ sym (drop-take l (e - l) xs) ∙ ap (λ i. drop l (take i xs)) r
    by (inr j) k =
        let f = j.1 in
        let q : min e m - min l m ≡ 0 = omega arith in
        ap (λ i. take i (drop l xs)) q ∙ sym (drop_of_length-le (take e xs) (omega (arith, few)))

saturated : (z : ℤ) (m : ℕ) → m < 2 ^ 64 → min (positions_before (saturate_signed w128 z)) m ≡ min (positions_before z) m
saturated (pos n) m h = omega arith
saturated (negsuc n) m h = omega arith

-- ---- the parts of a list

pub part_from : {A : Type 0} (start : Number) (most : ℕ) (xs : List A) → length xs ≤ most → drop (min (positions_before (nearest_whole start)) most) xs ≡ from_position start xs
part_from start most xs h =
    let l : ℕ = positions_before (nearest_whole start) in
    let e : l - 0 ≡ l = omega arith in
    drop_past l most xs h ∙ sym (ap (λ n. drop n xs) e) ∙ sym (from (nearest_whole start) 0 xs)

pub part_between : {A : Type 0} (start many : Number) (most : ℕ) (xs : List A) → length xs ≤ most → most < 2 ^ 64
    → take (min (positions_before (saturate_signed w128 (nearest_whole start +ℤ nearest_whole many))) most - min (positions_before (nearest_whole start)) most)
    (drop (min (positions_before (nearest_whole start)) most) xs) ≡ so_many_from start many xs
part_between {A} start many most xs h k =
    let l : ℕ = positions_before (nearest_whole start) in
    let z : ℤ = nearest_whole start +ℤ nearest_whole many in
    let e : ℕ = positions_before z in
    let f : l - 0 ≡ l = omega arith in
    let g : e - 0 ≡ e = omega arith in
    ap (λ n. take (n - min l most) (drop (min l most) xs)) (saturated z most k)
    ∙ middle l e most xs h
    ∙ sym (ap (λ n. drop n (take e xs)) f) ∙ sym (ap (λ n. drop (l - 0) (take n xs)) g) ∙ sym (between (nearest_whole start) z 0 xs)

-- ---- with others before a position, and without that at a position

before : {A : Type 0} (next : ℤ) (p : ℕ) (others xs : List A)
    → with_before next (pos (p + 1)) others xs ≡ take (positions_before next - p) xs ++ (others ++ drop (positions_before next - p) xs)
before next p others [] =
    sym (ap (λ ys. ys ++ (others ++ drop (positions_before next - p) [])) (take_nothing (positions_before next - p))
    ∙ ap (λ ys. others ++ ys) (drop_nothing (positions_before next - p)) ∙ append-nil others)
before {A} next p others (x ∷ xs) = by (int_le next (pos (p + 1))) refl (before next (p + 1) others xs)
  where
    by : (b : Bool) → int_le next (pos (p + 1)) ≡ b
        → with_before next (pos (p + 1 + 1)) others xs ≡ take (positions_before next - (p + 1)) xs ++ (others ++ drop (positions_before next - (p + 1)) xs)
        → (if b then others ++ (x ∷ xs) else x ∷ with_before next (pos (p + 1 + 1)) others xs)
        ≡ take (positions_before next - p) (x ∷ xs) ++ (others ++ drop (positions_before next - p) (x ∷ xs))
    by true e rest =
        let h : positions_before next ≤ p = (from_least next p).0 e in
        let now : positions_before next - p ≡ 0 = omega arith in
        ap (λ n. take n (x ∷ xs) ++ (others ++ drop n (x ∷ xs))) (sym now)
    by false e rest =
        let h : p < positions_before next = (from_least next p).1 e in
        let now : positions_before next - p ≡ suc (positions_before next - (p + 1)) = omega arith in
        ap (λ (l : List A). x ∷ l) rest ∙ ap (λ n. take n (x ∷ xs) ++ (others ++ drop n (x ∷ xs))) (sym now)

pub split_before : {A : Type 0} (next : ℤ) (others xs : List A)
    → inserted_before next others xs ≡ take (min (positions_before next) (length xs)) xs ++ (others ++ drop (min (positions_before next) (length xs)) xs)
split_before next others xs =
    let n : ℕ = positions_before next in
    let e : n - 0 ≡ n = omega arith in
    before next 0 others xs ∙ ap (λ i. take i xs ++ (others ++ drop i xs)) e
    ∙ ap (λ ys. ys ++ (others ++ drop n xs)) (sym (take_min n xs)) ∙ ap (λ ys. take (min n (length xs)) xs ++ (others ++ ys)) (sym (drop_past n (length xs) xs (omega arith)))

-- a position that is passed is none of those that follow
passed : (removed : ℤ) (p : ℕ) → int_lt removed (pos (p + 1)) ≡ true → (is_position removed (pos (p + 1)) ≡ false) × (int_lt removed (pos (p + 1 + 1)) ≡ true)
passed (pos n) p e =
    let h : n < p + 1 = ltb-true n (p + 1) e in
    (and_right (nat_le n (p + 1)) (nat_le (p + 1) n) (lt-leb (p + 1) n h), lt-ltb n (p + 1 + 1) (omega arith))
passed (negsuc n) p e = (refl, refl)

none_there : {A : Type 0} (removed : ℤ) (p : ℕ) (xs : List A) → int_lt removed (pos (p + 1)) ≡ true → all_but removed (pos (p + 1)) xs ≡ xs
none_there removed p [] e = refl
none_there {A} removed p (x ∷ xs) e = by (is_position removed (pos (p + 1))) ((passed removed p e).0) (none_there removed (p + 1) xs ((passed removed p e).1))
  where
    by : (b : Bool) → b ≡ false → all_but removed (pos (p + 1 + 1)) xs ≡ xs → (if b then xs else x ∷ all_but removed (pos (p + 1 + 1)) xs) ≡ x ∷ xs
    by true same rest = absurd (cc)
    by false same rest = ap (λ (l : List A). x ∷ l) rest

here : (p : ℕ) → is_position (pos (p + 1)) (pos (p + 1)) ≡ true
here p = and_from (nat_le (p + 1) (p + 1)) (nat_le (p + 1) (p + 1)) (le-leb (p + 1) (p + 1) (omega arith)) (le-leb (p + 1) (p + 1) (omega arith))

later : (p d : ℕ) → is_position (pos (p + 1 + suc d)) (pos (p + 1)) ≡ false
later p d = and_left (nat_le (p + 1 + suc d) (p + 1)) (nat_le (p + 1) (p + 1 + suc d)) (lt-leb (p + 1 + suc d) (p + 1) (omega arith))

removed_there : {A : Type 0} (n p d : ℕ) (xs : List A) → n ≡ p + 1 + d → all_but (pos n) (pos (p + 1)) xs ≡ take d xs ++ drop (suc d) xs
removed_there n p d [] e = sym (ap (λ ys. ys ++ drop (suc d) []) (take_nothing d))
removed_there {A} n p zero (x ∷ xs) e = by (is_position (pos n) (pos (p + 1))) (subst (λ (k : ℕ). is_position (pos k) (pos (p + 1)) ≡ true) (omega arith) (here p))
  where
    by : (b : Bool) → b ≡ true → (if b then xs else x ∷ all_but (pos n) (pos (p + 1 + 1)) xs) ≡ xs
    by true same = refl
    by false same = absurd (cc)
removed_there {A} n p (suc d) (x ∷ xs) e =
    by (is_position (pos n) (pos (p + 1))) (subst (λ (k : ℕ). is_position (pos k) (pos (p + 1)) ≡ false) (sym e) (later p d)) (removed_there n (p + 1) d xs (omega arith))
  where
    by : (b : Bool) → b ≡ false → all_but (pos n) (pos (p + 1 + 1)) xs ≡ take d xs ++ drop (suc d) xs
        → (if b then xs else x ∷ all_but (pos n) (pos (p + 1 + 1)) xs) ≡ x ∷ (take d xs ++ drop (suc d) xs)
    by true same rest = absurd (cc)
    by false same rest = ap (λ (l : List A). x ∷ l) rest

-- the elements before a position, and those behind it, of which the first is left out where the position is there
pub nothing_removed : {A : Type 0} (removed : ℤ) (xs : List A) → int_lt removed (pos 1) ≡ true
    → without_position removed xs ≡ take (min (positions_before removed) (length xs)) xs ++ drop 0 (drop (min (positions_before removed) (length xs)) xs)
nothing_removed removed xs e = none_there removed 0 xs e ∙ sym (take-append-drop (min (positions_before removed) (length xs)) xs)

pub one_removed : {A : Type 0} (removed : ℤ) (xs : List A) → int_lt removed (pos 1) ≡ false
    → without_position removed xs ≡ take (min (positions_before removed) (length xs)) xs ++ drop 1 (drop (min (positions_before removed) (length xs)) xs)
one_removed (pos n) xs e =
    let h : 1 ≤ n = ltb-false n 1 e in
    let many : n - 1 + 1 ≡ suc (n - 1) = omega arith in
    removed_there n 0 (n - 1) xs (omega arith)
    ∙ sym (ap (λ ys. ys ++ drop 1 (drop (min (n - 1) (length xs)) xs)) (take_min (n - 1) xs)
    ∙ ap (λ ys. take (n - 1) xs ++ ys) (ap (drop 1) (drop_min (n - 1) xs) ∙ drop-drop 1 (n - 1) xs ∙ ap (λ m. drop m xs) many))
one_removed (negsuc n) xs e = absurd (cc)

-- ---- the parts of a text

-- of a text in UTF-8, which has no more characters than bytes
pub text_from : (start : Number) (t bytes : List ℕ) → all_scalars t ≡ true → bytes ≡ encode_utf8_all t → drop (min (positions_before (nearest_whole start)) (length bytes)) (chars bytes) ≡ from_position start t
text_from start t bytes h e =
    let few : length t ≤ length bytes = omega (arith, length-le-encodes t, ap length e) in
    ap (drop (min (positions_before (nearest_whole start)) (length bytes))) (chars_from t bytes h e) ∙ part_from start (length bytes) t few

pub text_between : (start many : Number) (t bytes : List ℕ) → all_scalars t ≡ true → bytes ≡ encode_utf8_all t → length bytes < 2 ^ 64
    → take (min (positions_before (saturate_signed w128 (nearest_whole start +ℤ nearest_whole many))) (length bytes) - min (positions_before (nearest_whole start)) (length bytes))
    (drop (min (positions_before (nearest_whole start)) (length bytes)) (chars bytes)) ≡ so_many_from start many t
text_between start many t bytes h e size =
    let few : length t ≤ length bytes = omega (arith, length-le-encodes t, ap length e) in
    let from : ℕ = min (positions_before (nearest_whole start)) (length bytes) in
    let to : ℕ = min (positions_before (saturate_signed w128 (nearest_whole start +ℤ nearest_whole many))) (length bytes) in
    ap (λ (u : List ℕ). take (to - from) (drop from u)) (chars_from t bytes h e) ∙ part_between start many (length bytes) t few size

-- Which parts of a list stand where.
use Rattle.std.proofs.Common.{◌≡◌, ℕ, zero, suc, ◌+◌, ◌<◌, ◌≤◌, List, [], ◌∷◌, ◌++◌, map, length, drop, get_or, Some, refl, sym, ap, ◌∙◌, arith, subst, append_assoc}
use Rattle.std.specs.List.{slice_get}
use Rattle.std.proofs.lemmas.List.{drop-drop, drop_at, drop-append-le}

-- a part of a list stands from a number on
pub record Stands {A : Type 0} (all : List A) (c : ℕ) (part : List A) : Type 0 where
  pub more : List A
  pub is : drop c all ≡ part ++ more

pub stands_front : {A : Type 0} (all : List A) (c : ℕ) (xs ys : List A) → Stands all c (xs ++ ys) → Stands all c xs
stands_front all c xs ys s = record { more = ys ++ s.more; is = s.is ∙ append_assoc xs ys s.more }

pub stands_behind : {A : Type 0} (all : List A) (c d : ℕ) (xs ys : List A) → d ≡ c + length xs → Stands all c (xs ++ ys) → Stands all d ys
stands_behind all c d xs ys e s = record {
  more = s.more;
  is = ap (λ (n : ℕ). drop n all) e ∙ sym (drop-drop (length xs) c all) ∙ ap (drop (length xs)) (s.is ∙ append_assoc xs ys s.more) ∙ drop_at xs (ys ++ s.more) (length xs) refl;
}

get_at_drop : {A : Type 0} (all : List A) (c : ℕ) → slice_get all c ≡ slice_get (drop c all) 0
get_at_drop [] zero = refl
get_at_drop [] (suc c) = refl
get_at_drop (x ∷ all) zero = refl
get_at_drop (x ∷ all) (suc c) = get_at_drop all c

pub stands_first : {A : Type 0} (all : List A) (c : ℕ) (x : A) (xs : List A) → Stands all c (x ∷ xs) → slice_get all c ≡ Some x
stands_first all c x xs s = get_at_drop all c ∙ ap (λ l. slice_get l 0) s.is

pub stands_next : {A : Type 0} (all : List A) (c : ℕ) (x : A) (xs : List A) → Stands all c (x ∷ xs) → Stands all (suc c) xs
stands_next all c x xs s = stands_behind all c (suc c) (x ∷ []) xs (omega arith) s

pub stands_later : {A : Type 0} (all others : List A) (c : ℕ) (xs : List A) → c ≤ length all → Stands all c xs → Stands (all ++ others) c xs
stands_later all others c xs h s = record {
  more = s.more ++ others;
  is = drop-append-le c all others h ∙ ap (λ l. l ++ others) s.is ∙ append_assoc xs s.more others;
}

pub got_within : {A : Type 0} (xs : List A) (n : ℕ) (d : A) → n < length xs → slice_get xs n ≡ Some (get_or xs n d)
got_within [] n d h = absurd (omega (arith, h))
got_within (x ∷ xs) zero d h = refl
got_within (x ∷ xs) (suc n) d h = got_within xs n d (omega (arith, h))

pub got_past : {A : Type 0} (xs : List A) (n : ℕ) (d : A) → length xs ≤ n → get_or xs n d ≡ d
got_past [] n d h = refl
got_past (x ∷ xs) zero d h = absurd (omega (arith, h))
got_past (x ∷ xs) (suc n) d h = got_past xs n d (omega (arith, h))

pub got_from : {A : Type 0} (xs : List A) (n : ℕ) (x d : A) → slice_get xs n ≡ Some x → get_or xs n d ≡ x
got_from [] n x d e = absurd (cc)
got_from (y ∷ xs) zero x d e = cc
got_from (y ∷ xs) (suc n) x d e = got_from xs n x d e

pub within_from : {A : Type 0} (xs : List A) (n : ℕ) (x : A) → slice_get xs n ≡ Some x → n < length xs
within_from [] n x e = absurd (cc)
within_from (y ∷ xs) zero x e = omega arith
within_from (y ∷ xs) (suc n) x e = omega (arith, within_from xs n x e)

pub got_before : {A : Type 0} (xs ys : List A) (n : ℕ) (x : A) → slice_get xs n ≡ Some x → slice_get (xs ++ ys) n ≡ Some x
got_before [] ys n x e = absurd (cc)
got_before (y ∷ xs) ys zero x e = e
got_before (y ∷ xs) ys (suc n) x e = got_before xs ys n x e

pub got_mapped : {A B : Type 0} (f : A → B) (xs : List A) (n : ℕ) (x : A) → slice_get xs n ≡ Some x → slice_get (map f xs) n ≡ Some (f x)
got_mapped f [] n x e = absurd (cc)
got_mapped f (y ∷ xs) zero x e = let same : y ≡ x = cc in ap (λ z. Some (f z)) same
got_mapped f (y ∷ xs) (suc n) x e = got_mapped f xs n x e

-- what holds of each of a list, with its number

abbrev pub EachFrom : {A : Type 0} → (ℕ → A → Type 0) → ℕ → List A → Type 0
EachFrom P c [] = Unit {0}
EachFrom P c (x ∷ xs) = P c x × EachFrom P (suc c) xs

pub each_append : {A : Type 0} (P : ℕ → A → Type 0) (c d : ℕ) (xs ys : List A) → d ≡ c + length xs → EachFrom P c xs → EachFrom P d ys → EachFrom P c (xs ++ ys)
each_append P c d [] ys e h g = let same : d ≡ c = omega (arith, e) in subst (λ (n : ℕ). EachFrom P n ys) same g
each_append P c d (x ∷ xs) ys e h g = (h.0, each_append P (suc c) d xs ys (omega (arith, e)) h.1 g)

pub each_at : {A : Type 0} (P : ℕ → A → Type 0) (c : ℕ) (xs : List A) → EachFrom P c xs → (n : ℕ) (x : A) → slice_get xs n ≡ Some x → P (c + n) x
each_at P c [] h n x e = absurd (cc)
each_at P c (y ∷ xs) h zero x e =
    let same : y ≡ x = cc in
    let first : P c x = subst (P c) same h.0 in
    let here : c ≡ c + 0 = omega arith in
    subst (λ (m : ℕ). P m x) here first
each_at P c (y ∷ xs) h (suc n) x e =
    let here : suc c + n ≡ c + suc n = omega arith in
    subst (λ (m : ℕ). P m x) here (each_at P (suc c) xs h.1 n x e)

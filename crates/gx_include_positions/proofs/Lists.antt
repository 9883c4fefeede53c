-- Lists: what is made of the first members, and membership.
use Rattle.std.proofs.Common.{◌≡◌, ℕ, zero, suc, ◌+◌, ◌<◌, Bool, true, false, List, [], ◌∷◌, ◌++◌, ◌⊎◌, inl, inr, Some, refl, sym, ◌∙◌, ap, subst, get_or, length, take, map, slice_get, append_assoc, arith}
use Rattle.std.specs.List.{flat_map}
use Rattle.std.proofs.lemmas.Grind.{flat_map-append}
use Rattle.std.proofs.lemmas.List.{append-nil, take_more}
use Rattle.std.proofs.lemmas.Option.{slice_get_within, get_or_from_slice_get, slice_get-get_or}

pub flat_step : {X A : Type 0} (f : X → List A) (xs : List X) (i : ℕ) (x : X) → i < length xs → x ≡ get_or xs i x
    → (start before after : List A) → before ≡ start ++ flat_map f (take i xs) → after ≡ before ++ f x → after ≡ start ++ flat_map f (take (i + 1) xs)
flat_step f xs i x h is start before after e g =
    g ∙ ap (λ ys. ys ++ f x) e ∙ append_assoc start (flat_map f (take i xs)) (f x)
    ∙ ap (λ ys. start ++ ys)
    (ap (λ zs. flat_map f (take i xs) ++ zs) (sym (append-nil (f x))) ∙ sym (flat_map-append f (take i xs) (x ∷ []))
    ∙ ap (λ y. flat_map f (take i xs ++ y ∷ [])) is ∙ ap (λ ys. flat_map f ys) (sym (take_more xs i x h)))

-- a member of a list
abbrev pub In : {X : Type 0} → X → List X → Type 0
In x [] = ⊥
In x (y ∷ ys) = (y ≡ x) ⊎ In x ys

pub in_left : {X : Type 0} (x : X) (xs ys : List X) → In x xs → In x (xs ++ ys)
in_left x [] ys h = absurd h
in_left x (z ∷ xs) ys (inl e) = inl e
in_left x (z ∷ xs) ys (inr h) = inr (in_left x xs ys h)

pub in_right : {X : Type 0} (x : X) (xs ys : List X) → In x ys → In x (xs ++ ys)
in_right x [] ys h = h
in_right x (z ∷ xs) ys h = inr (in_right x xs ys h)

pub in_either : {X : Type 0} (x : X) (xs ys : List X) → In x (xs ++ ys) → In x xs ⊎ In x ys
in_either x [] ys h = inr h
in_either x (z ∷ xs) ys (inl e) = inl (inl e)
in_either x (z ∷ xs) ys (inr h) = elim (in_either x xs ys h) [ inl k ↦ inl (inr k) | inr k ↦ inr k ]

pub in_map : {X Y : Type 0} (f : X → Y) (x : X) (xs : List X) → In x xs → In (f x) (map f xs)
in_map f x [] h = absurd h
in_map f x (z ∷ xs) (inl e) = inl (ap f e)
in_map f x (z ∷ xs) (inr h) = inr (in_map f x xs h)

pub of_map : {X Y : Type 0} (f : X → Y) (y : Y) (xs : List X) → In y (map f xs) → (x : X) × In x xs × (f x ≡ y)
of_map f y [] h = absurd h
of_map f y (z ∷ xs) (inl e) = (z, inl refl, e)
of_map f y (z ∷ xs) (inr h) = let q = of_map f y xs h in (q.0, inr q.1, q.2)

pub in_flat : {X Y : Type 0} (f : X → List Y) (x : X) (y : Y) (xs : List X) → In x xs → In y (f x) → In y (flat_map f xs)
in_flat f x y [] h k = absurd h
in_flat f x y (z ∷ xs) (inl e) k = in_left y (f z) (flat_map f xs) (subst (λ w. In y (f w)) (sym e) k)
in_flat f x y (z ∷ xs) (inr h) k = in_right y (f z) (flat_map f xs) (in_flat f x y xs h k)

pub of_flat : {X Y : Type 0} (f : X → List Y) (y : Y) (xs : List X) → In y (flat_map f xs) → (x : X) × In x xs × In y (f x)
of_flat f y [] h = absurd h
of_flat f y (z ∷ xs) h =
    elim (in_either y (f z) (flat_map f xs) h) [
      | inl k ↦ (z, inl refl, k)
      | inr k ↦ let q = of_flat f y xs k in (q.0, inr q.1, q.2)
    ]

at_in : {X : Type 0} (xs : List X) (m : ℕ) (x : X) → m < length xs → get_or xs m x ≡ x → In x xs
at_in [] m x h e = absurd (omega arith)
at_in (z ∷ xs) zero x h e = inl e
at_in (z ∷ xs) (suc m) x h e = inr (at_in xs m x (omega arith) e)

pub got_in : {X : Type 0} (xs : List X) (m : ℕ) (x : X) → slice_get xs m ≡ Some x → In x xs
got_in xs m x e = at_in xs m x (slice_get_within xs m x e) (get_or_from_slice_get xs m x x e)

in_at : {X : Type 0} (xs : List X) (x : X) → In x xs → (m : ℕ) × (m < length xs) × (get_or xs m x ≡ x)
in_at [] x h = absurd h
in_at (z ∷ xs) x (inl e) = (0, omega arith, e)
in_at (z ∷ xs) x (inr h) = let q = in_at xs x h in (suc q.0, omega (arith, q.1), q.2)

pub in_got : {X : Type 0} (xs : List X) (x : X) → In x xs → (m : ℕ) × (slice_get xs m ≡ Some x)
in_got xs x h = let q = in_at xs x h in (q.0, slice_get-get_or xs q.0 x q.1 ∙ ap (λ y. Some y) q.2)

-- a flag that is set lies within its list
pub set_within : (xs : List Bool) (i : ℕ) → get_or xs i false ≡ true → i < length xs
set_within [] i h = absurd (cc)
set_within (x ∷ xs) zero h = omega arith
set_within (x ∷ xs) (suc i) h = let k = set_within xs i h in omega (arith, k)

-- What holds of all of a list holds of all of what is made of it.
use Rattle.std.proofs.Common.{ℕ, zero, suc, ℤ, Bool, true, false, cond, List, [], ◌∷◌, ◌++◌, map, filter, take, drop, Option, refl, ◌≡◌, if◌then◌else◌}
use Rattle.std.specs.Prelude.{pos, ◌+ℤ◌, int_le, reverse}
use mathlib.Core.List.{reverse_aux}
use Rattle.gx_sorting.specs.Sorting.{put_in, sorted}
use Rattle.gx_funcs.specs.Positions.{stands_within, within_positions, is_position, all_but, with_before}
use Rattle.gx_model.specs.OrderLaws.{Every}

module _ {A : Type 0} (P : A → Type 0) where
  pub every_joined : (xs ys : List A) → Every P xs → Every P ys → Every P (xs ++ ys)
  every_joined [] ys h k = k
  every_joined (x ∷ xs) ys h k = (h.0, every_joined xs ys h.1 k)

  every_turned : (xs ys : List A) → Every P xs → Every P ys → Every P (reverse_aux xs ys)
  every_turned [] ys h k = k
  every_turned (x ∷ xs) ys h k = every_turned xs (x ∷ ys) h.1 (h.0, k)

  pub every_reversed : (xs : List A) → Every P xs → Every P (reverse xs)
  every_reversed xs h = every_turned xs [] h tt

  pub every_taken : (n : ℕ) (xs : List A) → Every P xs → Every P (take n xs)
  every_taken zero xs h = tt
  every_taken (suc n) [] h = tt
  every_taken (suc n) (x ∷ xs) h = (h.0, every_taken n xs h.1)

  pub every_behind : (n : ℕ) (xs : List A) → Every P xs → Every P (drop n xs)
  every_behind zero xs h = h
  every_behind (suc n) [] h = tt
  every_behind (suc n) (x ∷ xs) h = every_behind n xs h.1

  pub every_of : (xs : List A) → ((x : A) → P x) → Every P xs
  every_of [] h = tt
  every_of (x ∷ xs) h = (h x, every_of xs h)

  kept_if : (b : Bool) (x : A) (xs : List A) → (b ≡ true → P x) → Every P xs → Every P (cond b (x ∷ xs) xs)
  kept_if true x xs h k = (h refl, k)
  kept_if false x xs h k = k

  -- those that pass a test, where all that pass it are so
  pub every_passing : (test : A → Bool) (xs : List A) → ((x : A) → test x ≡ true → P x) → Every P (filter test xs)
  every_passing test [] h = tt
  every_passing test (x ∷ xs) h = kept_if (test x) x (filter test xs) (h x) (every_passing test xs h)

  pub every_kept : (test : A → Bool) (xs : List A) → Every P xs → Every P (filter test xs)
  every_kept test [] h = tt
  every_kept test (x ∷ xs) h = kept_if (test x) x (filter test xs) (λ _. h.0) (every_kept test xs h.1)

  -- ---- positions

  pub every_within : (least : ℤ) (limit : Option ℤ) (position : ℤ) (xs : List A) → Every P xs → Every P (within_positions least limit position xs)
  every_within least limit position [] h = tt
  every_within least limit position (x ∷ xs) h =
      kept_if (stands_within least limit position) x (within_positions least limit (position +ℤ pos 1) xs) (λ _. h.0)
      (every_within least limit (position +ℤ pos 1) xs h.1)

  either : (b : Bool) (xs ys : List A) → Every P xs → Every P ys → Every P (if b then xs else ys)
  either true xs ys h k = h
  either false xs ys h k = k

  pub every_but : (removed position : ℤ) (xs : List A) → Every P xs → Every P (all_but removed position xs)
  every_but removed position [] h = tt
  every_but removed position (x ∷ xs) h =
      either (is_position removed position) xs (x ∷ all_but removed (position +ℤ pos 1) xs) h.1
      (h.0, every_but removed (position +ℤ pos 1) xs h.1)

  pub every_before : (next position : ℤ) (others xs : List A) → Every P others → Every P xs → Every P (with_before next position others xs)
  every_before next position others [] h k = h
  every_before next position others (x ∷ xs) h k =
      either (int_le next position) (others ++ x ∷ xs) (x ∷ with_before next (position +ℤ pos 1) others xs)
      (every_joined others (x ∷ xs) h k) (k.0, every_before next (position +ℤ pos 1) others xs h k.1)

  -- ---- sorting

  every_put : (precedes : A → A → Bool) (x : A) (ys : List A) → P x → Every P ys → Every P (put_in precedes x ys)
  every_put precedes x [] p h = (p, tt)
  every_put precedes x (y ∷ ys) p h =
      either (precedes y x) (y ∷ put_in precedes x ys) (x ∷ y ∷ ys) (h.0, every_put precedes x ys p h.1) (p, h)

  pub every_sorted : (precedes : A → A → Bool) (xs : List A) → Every P xs → Every P (sorted precedes xs)
  every_sorted precedes [] h = tt
  every_sorted precedes (x ∷ xs) h = every_put precedes x (sorted precedes xs) h.0 (every_sorted precedes xs h.1)

pub every_made : {A B : Type 0} (P : B → Type 0) (make : A → B) (xs : List A) → Every (λ x. P (make x)) xs → Every P (map make xs)
every_made P make [] h = tt
every_made P make (x ∷ xs) h = (h.0, every_made P make xs h.1)

pub every_so : {A : Type 0} (P Q : A → Type 0) (xs : List A) → ((x : A) → P x → Q x) → Every P xs → Every Q xs
every_so P Q [] k h = tt
every_so P Q (x ∷ xs) k h = (k x h.0, every_so P Q xs k h.1)

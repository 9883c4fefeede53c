-- What sorting keeps of its elements, and sorting what stands for other elements.
use Rattle.std.proofs.Common.{◌≡◌, Bool, true, false, if◌then◌else◌, List, [], ◌∷◌, map, length, refl, ap, ◌∙◌, IsPermutation}
use Rattle.std.specs.List.{AllByRecursion}
use Rattle.std.proofs.lemmas.List.Sorted.{IsPermutation-refl, IsPermutation-cons, IsPermutation-middle, IsPermutation-trans, length_permutation}
use Rattle.gx_sorting.specs.Sorting.{put_in, sorted}

module _ {X : Type 0} (lt : X → X → Bool) where
  put_permutes : (x : X) (ys : List X) → IsPermutation (x ∷ ys) (put_in lt x ys)
  put_permutes x [] = IsPermutation-refl (x ∷ [])
  put_permutes x (y ∷ ys) = by (lt y x) (put_permutes x ys)
    where
      by : (b : Bool) → IsPermutation (x ∷ ys) (put_in lt x ys) → IsPermutation (x ∷ y ∷ ys) (if b then y ∷ put_in lt x ys else x ∷ y ∷ ys)
      by true rest = IsPermutation-trans (x ∷ y ∷ ys) (y ∷ x ∷ ys) (y ∷ put_in lt x ys) (IsPermutation-middle (x ∷ []) y ys) (IsPermutation-cons y (x ∷ ys) (put_in lt x ys) rest)
      by false rest = IsPermutation-refl (x ∷ y ∷ ys)

  pub sorted_permutes : (xs : List X) → IsPermutation xs (sorted lt xs)
  sorted_permutes [] = IsPermutation-refl []
  sorted_permutes (x ∷ xs) = IsPermutation-trans (x ∷ xs) (x ∷ sorted lt xs) (sorted lt (x ∷ xs)) (IsPermutation-cons x xs (sorted lt xs) (sorted_permutes xs)) (put_permutes x (sorted lt xs))

  pub length-sorted : (xs : List X) → length (sorted lt xs) ≡ length xs
  length-sorted xs = length_permutation xs (sorted lt xs) (sorted_permutes xs)

  -- ---- what holds of each element

  each_put : (P : X → Type 0) (x : X) (ys : List X) → P x → AllByRecursion P ys → AllByRecursion P (put_in lt x ys)
  each_put P x [] p h = (p, tt)
  each_put P x (y ∷ ys) p h = by (lt y x) (each_put P x ys p h.1)
    where
      by : (b : Bool) → AllByRecursion P (put_in lt x ys) → AllByRecursion P (if b then y ∷ put_in lt x ys else x ∷ y ∷ ys)
      by true rest = (h.0, rest)
      by false rest = (p, h)

  pub each_sorted : (P : X → Type 0) (xs : List X) → AllByRecursion P xs → AllByRecursion P (sorted lt xs)
  each_sorted P [] h = tt
  each_sorted P (x ∷ xs) h = each_put P x (sorted lt xs) h.0 (each_sorted P xs h.1)

-- ---- sorting what stands for other elements sorts these

module _ {X Y : Type 0} (f : X → Y) (lt : Y → Y → Bool) where
  put_stands : (x : X) (ys : List X) → map f (put_in (λ a b. lt (f a) (f b)) x ys) ≡ put_in lt (f x) (map f ys)
  put_stands x [] = refl
  put_stands x (y ∷ ys) = by (lt (f y) (f x)) (put_stands x ys)
    where
      by : (b : Bool) → map f (put_in (λ a b. lt (f a) (f b)) x ys) ≡ put_in lt (f x) (map f ys)
          → map f (if b then y ∷ put_in (λ a b. lt (f a) (f b)) x ys else x ∷ y ∷ ys) ≡ (if b then f y ∷ put_in lt (f x) (map f ys) else f x ∷ f y ∷ map f ys)
      by true rest = ap (λ l. f y ∷ l) rest
      by false rest = refl

  pub sorted_stands : (xs : List X) → map f (sorted (λ a b. lt (f a) (f b)) xs) ≡ sorted lt (map f xs)
  sorted_stands [] = refl
  sorted_stands (x ∷ xs) = put_stands x (sorted (λ a b. lt (f a) (f b)) xs) ∙ ap (put_in lt (f x)) (sorted_stands xs)

-- ---- two tests that agree on the elements sort alike

module _ {X : Type 0} (lt mt : X → X → Bool) (P : X → Type 0) (agree : (x y : X) → P x → P y → lt x y ≡ mt x y) where
  put_alike : (x : X) (ys : List X) → P x → AllByRecursion P ys → put_in lt x ys ≡ put_in mt x ys
  put_alike x [] p h = refl
  put_alike x (y ∷ ys) p h = let rest = put_alike x ys p h.1 in λ i. if agree y x h.0 p i then y ∷ rest i else x ∷ y ∷ ys

  pub sorted_alike : (xs : List X) → AllByRecursion P xs → sorted lt xs ≡ sorted mt xs
  sorted_alike [] h = refl
  sorted_alike (x ∷ xs) h = ap (put_in lt x) (sorted_alike xs h.1) ∙ put_alike x (sorted mt xs) h.0 (each_sorted mt P xs h.1)

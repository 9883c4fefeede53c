-- Filters of lists.
use Rattle.std.proofs.Common.{◌≡◌, Bool, true, false, cond, List, [], ◌∷◌, ◌++◌, map, filter, refl, ap, ◌∙◌}

-- where nothing passes
pub nothing_passes : {A : Type 0} → (f : A → Bool) → ((x : A) → f x ≡ false) → (xs : List A) → filter f xs ≡ []
nothing_passes f h [] = refl
nothing_passes f h (x ∷ xs) = rw (h x) (nothing_passes f h xs)

kept_mapped : {A B : Type 0} (g : A → B) (b : Bool) (x : A) (ys : List A) → cond b (g x ∷ map g ys) (map g ys) ≡ map g (cond b (x ∷ ys) ys)
kept_mapped g true x ys = refl
kept_mapped g false x ys = refl

pub filter_mapped : {A B : Type 0} → (f : B → Bool) (g : A → B) → (xs : List A) → filter f (map g xs) ≡ map g (filter (λ x. f (g x)) xs)
filter_mapped f g [] = refl
filter_mapped f g (x ∷ xs) = ap (λ ys. cond (f (g x)) (g x ∷ ys) ys) (filter_mapped f g xs) ∙ kept_mapped g (f (g x)) x (filter (λ y. f (g y)) xs)

pub append_none : {A : Type 0} → (xs : List A) → xs ++ [] ≡ xs
append_none [] = refl
append_none (x ∷ xs) = ap (λ ys. x ∷ ys) (append_none xs)

pub map_after : {A B C : Type 0} → (g : B → C) (h : A → B) (xs : List A) → map g (map h xs) ≡ map (λ x. g (h x)) xs
map_after g h [] = refl
map_after g h (x ∷ xs) = ap (λ ys. g (h x) ∷ ys) (map_after g h xs)

pub map_appended : {A B : Type 0} → (g : A → B) (xs ys : List A) → map g (xs ++ ys) ≡ map g xs ++ map g ys
map_appended g [] ys = refl
map_appended g (x ∷ xs) ys = ap (λ zs. g x ∷ zs) (map_appended g xs ys)

pub map_agrees : {A B : Type 0} → (g h : A → B) → ((x : A) → g x ≡ h x) → (xs : List A) → map g xs ≡ map h xs
map_agrees g h e [] = refl
map_agrees g h e (x ∷ xs) = ap (λ y. y ∷ map g xs) (e x) ∙ ap (λ ys. h x ∷ ys) (map_agrees g h e xs)

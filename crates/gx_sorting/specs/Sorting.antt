-- Stable sorting, by inserting one element after the other, the last one first.
use Rattle.std.specs.Prelude.{Bool, if◌then◌else◌, List, [], ◌∷◌}

-- x is put behind all that stand before it by the test, and no further
abbrev pub put_in : {X : Type 0} → (X → X → Bool) → X → List X → List X
put_in precedes x [] = x ∷ []
put_in precedes x (y ∷ ys) = if precedes y x then y ∷ put_in precedes x ys else x ∷ y ∷ ys

abbrev pub sorted : {X : Type 0} → (X → X → Bool) → List X → List X
sorted precedes [] = []
sorted precedes (x ∷ xs) = put_in precedes x (sorted precedes xs)

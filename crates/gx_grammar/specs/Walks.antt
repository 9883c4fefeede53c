-- Runs of characters that make a number as they go, and end before one that the number does not allow.
use Rattle.std.specs.Prelude.{ℕ, List, [], ◌∷◌, ◌++◌, ◌≡◌, ◌≢◌, ◌&&◌, Bool, true, false, if◌then◌else◌, length, Option, Some, None}

-- whether the character may stand behind those that made a number, and the number that it makes with them
pub record Walk : Type 0 where
  pub goes : ℕ → ℕ → Bool
  pub next : ℕ → ℕ → ℕ

-- each of the characters may stand behind those before it, of which the first ones made the number n
abbrev pub all_walk : Walk → ℕ → List ℕ → Bool
all_walk w n [] = true
all_walk w n (c ∷ x) = w.goes n c && all_walk w (w.next n c) x

-- the number that they make
abbrev pub reached : Walk → ℕ → List ℕ → ℕ
reached w n [] = n
reached w n (c ∷ x) = reached w (w.next n c) x

-- the longest front of which each character may stand, and what is behind it
abbrev pub walk_of : Walk → ℕ → List ℕ → List ℕ
walk_of w n [] = []
walk_of w n (c ∷ x) = if w.goes n c then (c ∷ walk_of w (w.next n c) x) else []

abbrev pub behind_walk : Walk → ℕ → List ℕ → List ℕ
behind_walk w n [] = []
behind_walk w n (c ∷ x) = if w.goes n c then (behind_walk w (w.next n c) x) else (c ∷ x)

-- the first character may stand behind those that made the number
abbrev pub head_goes : Walk → ℕ → List ℕ → Bool
head_goes w n [] = false
head_goes w n (c ∷ x) = w.goes n c

-- The longest front of at least one character. Its value is made of its characters.
pub record IsWalk {V : Type 0} (value : List ℕ → V) (w : Walk) (start : ℕ) (v : V) (x y : List ℕ) : Type 0 where
  pub run : List ℕ
  pub same : v ≡ value run
  pub full : run ≢ []
  pub spelled : x ≡ run ++ y
  pub walks : all_walk w start run ≡ true
  pub longest : head_goes w (reached w start run) y ≡ false

abbrev pub scan_walk : {V : Type 0} → (List ℕ → V) → Walk → ℕ → List ℕ → Option (V × List ℕ)
scan_walk value w start x = if head_goes w start x then (Some (value (walk_of w start x), behind_walk w start x)) else None

abbrev pub opens_walk : Walk → ℕ → List ℕ → Type 0
opens_walk w start x = all_walk w start x ≡ true

abbrev pub seen_walk : Walk → ℕ → List ℕ → ℕ
seen_walk w start x = length (behind_walk w start x)

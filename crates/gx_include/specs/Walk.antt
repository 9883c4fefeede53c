-- Walks from a state by numbered letters, and which of two walks comes first.
use Rattle.std.specs.Prelude.{◌≡◌, ℕ, ◌<◌, List, [], ◌∷◌, ◌⊎◌, Option, None, Some, length, slice_index_or}

module _ {S : Type 0} where
  -- one more letter
  abbrev pub go_by : (S → ℕ → Option S) → ℕ → Option S → Option S
  go_by step letter None = None
  go_by step letter (Some state) = step state letter

  -- where a run leads; a run is the list of its letters, the newest first
  abbrev pub leads_to : (S → ℕ → Option S) → S → List ℕ → Option S
  leads_to step start [] = Some start
  leads_to step start (letter ∷ run) = go_by step letter (leads_to step start run)

-- a run comes before another one: it is shorter, or as long and smaller at the first letter in which they differ
abbrev pub ComesBefore : List ℕ → List ℕ → Type 0
ComesBefore [] [] = ⊥
ComesBefore [] (b ∷ v) = Unit {0}
ComesBefore (a ∷ u) [] = ⊥
ComesBefore (a ∷ u) (b ∷ v) = ComesBefore u v ⊎ ((u ≡ v) × (a < b))

-- a run is another one, or comes before it
abbrev pub NotAfter : List ℕ → List ℕ → Type 0
NotAfter u v = (u ≡ v) ⊎ ComesBefore u v

-- the state at a place
abbrev pub StateAt : {X : Type 0} → List X → ℕ → X → Type 0
StateAt xs i x = (i < length xs) × (slice_index_or xs i x ≡ x)

-- the states of a list stand where they stood
abbrev pub StayInPlace : {X : Type 0} → List X → List X → Type 0
StayInPlace {X} xs ys = (i : ℕ) (x : X) → StateAt xs i x → StateAt ys i x

-- the run by which the state at a place was found
abbrev pub run_at : List (List ℕ) → ℕ → List ℕ
run_at runs i = slice_index_or runs i []

module _ {S : Type 0} (step : S → ℕ → Option S) (start : S) where
  -- a state was found by a run that comes no later
  abbrev pub Found : List S → List (List ℕ) → S → List ℕ → Type 0
  Found states runs state run = (i : ℕ) × StateAt states i state × NotAfter (run_at runs i) run

  -- where one letter leads was found
  abbrev pub IsClosedBelow : List S → List (List ℕ) → (at bound : ℕ) → Type 0
  IsClosedBelow states runs at bound =
      (s : S) → StateAt states at s → (letter : ℕ) → letter < bound → (next : S) → step s letter ≡ Some next → Found states runs next (letter ∷ run_at runs at)

  -- all letters of the first states were looked at, and of the state behind them the letters below a bound
  pub record Walked (states : List S) (runs : List (List ℕ)) (count at bound : ℕ) : Type 0 where
    pub same : length states ≡ length runs
    pub first : StateAt states 0 start
    pub empty : run_at runs 0 ≡ []
    pub lead : (i : ℕ) (s : S) → StateAt states i s → leads_to step start (run_at runs i) ≡ Some s
    pub ascend : (i j : ℕ) → i < j → j < length runs → ComesBefore (run_at runs i) (run_at runs j)
    pub bounded : at < length runs → (i : ℕ) → i < length runs → ComesBefore (run_at runs i) (bound ∷ run_at runs at)
    pub closed : (j : ℕ) → j < at → IsClosedBelow states runs j count
    pub closing : IsClosedBelow states runs at bound

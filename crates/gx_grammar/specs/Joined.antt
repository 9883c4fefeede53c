-- Two tokens as one.
use Rattle.std.specs.Prelude.{ℕ, List, [], ◌++◌, ◌≡◌, ◌⊎◌, Bool, true, false, if◌then◌else◌, min, Option, Some, None}

-- Two tokens as one, the second right behind the first, whose value is made of both.
pub record AreJoined {V : Type 0} (first second : V → List ℕ → List ℕ → Type 0) (value : V → V → V) (v : V) (x y : List ℕ) : Type 0 where
  pub front : V
  pub back : V
  pub between : List ℕ
  pub begins : first front x between
  pub ends : second back between y
  pub same : v ≡ value front back

abbrev pub OpensJoined : {V : Type 0} → (V → List ℕ → List ℕ → Type 0) → (List ℕ → Type 0) → (List ℕ → Type 0) → List ℕ → Type 0
OpensJoined {V = V} first opens_first opens_second x = opens_first x ⊎ ((v : V) × (y : List ℕ) × first v x y × opens_second y)

abbrev pub with_front : {V : Type 0} → (V → V → V) → V → Option (V × List ℕ) → Option (V × List ℕ)
with_front value front (Some r) = Some (value front r.0, r.1)
with_front value front None = None

abbrev pub scan_behind : {V : Type 0} → (List ℕ → Option (V × List ℕ)) → (V → V → V) → Option (V × List ℕ) → Option (V × List ℕ)
scan_behind second value (Some r) = with_front value r.0 (second r.1)
scan_behind second value None = None

abbrev pub scan_joined : {V : Type 0} → (first second : List ℕ → Option (V × List ℕ)) → (V → V → V) → List ℕ → Option (V × List ℕ)
scan_joined first second value x = scan_behind second value (first x)

abbrev pub seen_behind : {V : Type 0} → (List ℕ → ℕ) → ℕ → Option (V × List ℕ) → ℕ
seen_behind second seen (Some r) = min seen (second r.1)
seen_behind second seen None = seen

abbrev pub seen_joined : {V : Type 0} → (List ℕ → Option (V × List ℕ)) → (first second : List ℕ → ℕ) → List ℕ → ℕ
seen_joined scan first second x = seen_behind second (first x) (scan x)

-- A token where a test says that it starts, and else no characters, with that value.
abbrev pub IsOptional : {V : Type 0} → (V → List ℕ → List ℕ → Type 0) → (List ℕ → Bool) → V → V → List ℕ → List ℕ → Type 0
IsOptional derives starts value v x y = derives v x y ⊎ ((starts x ≡ false) × (v ≡ value) × (y ≡ x))

abbrev pub scan_optional : {V : Type 0} → (List ℕ → Option (V × List ℕ)) → (List ℕ → Bool) → V → List ℕ → Option (V × List ℕ)
scan_optional scan starts value x = if starts x then (scan x) else (Some (value, x))

-- The test says whether the token starts, and what is cut off its text changes that only where it opens the token.
pub record Tells {V : Type 0} (derives : V → List ℕ → List ℕ → Type 0) (opens : List ℕ → Type 0) (starts : List ℕ → Bool) : Type 0 where
  pub begins : (v : V) (x y : List ℕ) → derives v x y → starts x ≡ true
  pub stays : (x z : List ℕ) → starts (x ++ z) ≡ false → starts x ≡ false
  pub grows : (x z : List ℕ) → starts x ≡ false → (starts (x ++ z) ≡ false) ⊎ opens x
  pub empty : opens []

-- Tokens made of others: one of two, and one with a value of its own.
use Rattle.std.specs.Prelude.{ℕ, List, ◌≡◌, ◌⊎◌, min, Option, Some, None}
use Rattle.gx_grammar.specs.Words.{or_else}

-- one of two tokens
abbrev pub IsEither : {V : Type 0} → (first second : V → List ℕ → List ℕ → Type 0) → V → List ℕ → List ℕ → Type 0
IsEither first second v x y = first v x y ⊎ second v x y

abbrev pub OpensEither : (first second : List ℕ → Type 0) → List ℕ → Type 0
OpensEither first second x = first x ⊎ second x

abbrev pub scan_either : {V : Type 0} → (first second : List ℕ → Option (V × List ℕ)) → List ℕ → Option (V × List ℕ)
scan_either first second x = or_else (first x) (second x)

abbrev pub seen_either : (first second : List ℕ → ℕ) → List ℕ → ℕ
seen_either first second x = min (first x) (second x)

-- a token whose value is made of that of another
pub record IsMapped {V : Type 0} (derives : V → List ℕ → List ℕ → Type 0) (value : V → V) (v : V) (x y : List ℕ) : Type 0 where
  pub inner : V
  pub stands : derives inner x y
  pub same : v ≡ value inner

abbrev pub map_value : {V : Type 0} → (V → V) → Option (V × List ℕ) → Option (V × List ℕ)
map_value value (Some r) = Some (value r.0, r.1)
map_value value None = None

abbrev pub scan_mapped : {V : Type 0} → (List ℕ → Option (V × List ℕ)) → (V → V) → List ℕ → Option (V × List ℕ)
scan_mapped scan value x = map_value value (scan x)

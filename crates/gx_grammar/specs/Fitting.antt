-- Tokens whose value passes a test.
use Rattle.std.specs.Prelude.{ℕ, List, [], ◌≡◌, Bool, true, if◌then◌else◌, Option, Some, None}

-- A token whose value passes a test, as a number that is not too large.
pub record IsFitting {V : Type 0} (derives : V → List ℕ → List ℕ → Type 0) (test : V → Bool) (v : V) (x y : List ℕ) : Type 0 where
  pub stands : derives v x y
  pub fits : test v ≡ true

abbrev pub keep_fitting : {V : Type 0} → (V → Bool) → Option (V × List ℕ) → Option (V × List ℕ)
keep_fitting test (Some r) = if test r.0 then (Some r) else None
keep_fitting test None = None

abbrev pub scan_fitting : {V : Type 0} → (List ℕ → Option (V × List ℕ)) → (V → Bool) → List ℕ → Option (V × List ℕ)
scan_fitting scan test x = keep_fitting test (scan x)

-- the fault with that code, where the token stands and its value fails the test
abbrev pub fault_of : {V : Type 0} → ℕ → (V → Bool) → Option (V × List ℕ) → Option ℕ
fault_of code test (Some r) = if test r.0 then None else (Some code)
fault_of code test None = None

-- the fault of a token that may not stand, where one stands
abbrev pub fault_where : {V : Type 0} → ℕ → Option (V × List ℕ) → Option ℕ
fault_where code (Some r) = Some code
fault_where code None = None

-- a token that never stands
abbrev pub Never : {V : Type 0} → V → List ℕ → List ℕ → Type 0
Never v x y = ⊥

abbrev pub scan_never : {V : Type 0} → List ℕ → Option (V × List ℕ)
scan_never x = None

-- what opens a token that may not stand, and is known by its first character: the empty text alone
abbrev pub IsEmpty : List ℕ → Type 0
IsEmpty x = x ≡ []

-- The least number that passes a test.
use Rattle.std.specs.Prelude.{ℕ, zero, suc, Bool, Option, None, Some, if◌then◌else◌}

-- of so many numbers, from one on
abbrev pub first_number : (passes : ℕ → Bool) → (number left : ℕ) → Option ℕ
first_number passes number zero = None
first_number passes number (suc left) = if passes number then Some number else first_number passes (suc number) left

-- The least number that passes a test, number by number.
use Rattle.std.proofs.Common.{◌≡◌, ◌∙◌, ℕ, suc, Bool, true, false, Some, sym, ap, if◌then◌else◌}
use Rattle.gx_schema.specs.FirstNumber.{first_number}

step : (passes : ℕ → Bool) (number less : ℕ) → passes number ≡ false → first_number passes number (suc less) ≡ first_number passes (suc number) less
step passes number less fails = ap (λ (b : Bool). if b then Some number else first_number passes (suc number) less) fails

-- a number that fails is passed over
pub passed_over : (passes : ℕ → Bool) (number count less : ℕ) → count ≡ suc less → passes number ≡ false → first_number passes (suc number) less ≡ first_number passes number count
passed_over passes number count less e fails = sym (step passes number less fails) ∙ ap (first_number passes number) (sym e)

found_here : (passes : ℕ → Bool) (number less : ℕ) → passes number ≡ true → first_number passes number (suc less) ≡ Some number
found_here passes number less holds = ap (λ (b : Bool). if b then Some number else first_number passes (suc number) less) holds

-- and one that passes is the least
pub is_the_least : (passes : ℕ → Bool) (number count less : ℕ) → count ≡ suc less → passes number ≡ true → first_number passes number count ≡ Some number
is_the_least passes number count less e holds = ap (first_number passes number) e ∙ found_here passes number less holds

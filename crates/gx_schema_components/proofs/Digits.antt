-- Numbers by their digits: saturation digit by digit, and comparison by length and by the first digits that differ.
use Rattle.std.proofs.Common.{◌≡◌, ◌∙◌, ℕ, ◌+◌, ◌*◌, ◌<◌, ◌≤◌, Bool, true, false, nat_lt, nat_le, ◌==◌, List, [], ◌∷◌, length, refl, sym, ap, arith, if◌then◌else◌}
use Rattle.std.proofs.lemmas.Bool.Decides.{nat_tests}
use Rattle.gx_schema_components.specs.Bounds.{BeginsWithDigit, digit_at, number_behind, number_written, saturated}

-- ---- saturation

saturated_digit : (number digit : ℕ) → saturated (10 * saturated number + digit) ≡ saturated (10 * number + digit)
saturated_digit number digit = omega arith

pub saturated_behind : (number : ℕ) (bytes : List ℕ) → saturated (number_behind (saturated number) bytes) ≡ saturated (number_behind number bytes)
saturated_behind number [] = omega arith
saturated_behind number (byte ∷ bytes) =
    sym (saturated_behind (10 * saturated number + digit_at byte) bytes)
    ∙ ap (λ (n : ℕ). saturated (number_behind n bytes)) (saturated_digit number (digit_at byte))
    ∙ saturated_behind (10 * number + digit_at byte) bytes

-- ---- comparison

grows : (number : ℕ) (bytes : List ℕ) → number ≤ number_behind number bytes
grows number [] = omega arith
grows number (byte ∷ bytes) = omega (arith, grows (10 * number + digit_at byte) bytes)

less_behind : (m n : ℕ) (xs ys : List ℕ) → m < n → length xs ≤ length ys → number_behind m xs < number_behind n ys
less_behind m n [] ys less shorter = omega (arith, grows n ys)
less_behind m n (x ∷ xs) [] less shorter = absurd (omega arith)
less_behind m n (x ∷ xs) (y ∷ ys) less shorter = less_behind (10 * m + digit_at x) (10 * n + digit_at y) xs ys (omega arith) (omega arith)

shorter_is_less : (xs ys : List ℕ) → BeginsWithDigit ys → length xs < length ys → number_written xs < number_written ys
shorter_is_less xs [] begins shorter = absurd (omega arith)
shorter_is_less xs (y ∷ ys) begins shorter = less_behind 0 (10 * 0 + digit_at y) xs ys (omega arith) (omega arith)

-- the number of more digits is greater
pub at_most_by_length : (xs ys : List ℕ) → BeginsWithDigit xs → BeginsWithDigit ys → (length xs ≡ length ys → ⊥) → nat_lt (length xs) (length ys) ≡ nat_le (number_written xs) (number_written ys)
at_most_by_length xs ys begins_xs begins_ys differ =
    let less : length xs < length ys → number_written xs < number_written ys = shorter_is_less xs ys begins_ys in
    let greater : length ys < length xs → number_written ys < number_written xs = shorter_is_less ys xs begins_xs in
    grind (arith, nat_tests, less, greater, differ)

-- by the first two digits that differ
abbrev pub is_at_most_by_digits : List ℕ → List ℕ → Bool
is_at_most_by_digits [] ys = true
is_at_most_by_digits (x ∷ xs) [] = false
is_at_most_by_digits (x ∷ xs) (y ∷ ys) = if digit_at x == digit_at y then is_at_most_by_digits xs ys else nat_lt (digit_at x) (digit_at y)

at_most_same_digit : (number : ℕ) (x y : ℕ) (xs ys : List ℕ) (rest : Bool) → digit_at x ≡ digit_at y → rest ≡ nat_le (number_behind (10 * number + digit_at x) xs) (number_behind (10 * number + digit_at x) ys)
    → rest ≡ nat_le (number_behind (10 * number + digit_at x) xs) (number_behind (10 * number + digit_at y) ys)
at_most_same_digit number x y xs ys rest same e = e ∙ ap (λ (d : ℕ). nat_le (number_behind (10 * number + digit_at x) xs) (number_behind (10 * number + d) ys)) same

at_most_other_digit : (number : ℕ) (x y : ℕ) (xs ys : List ℕ) → (digit_at x ≡ digit_at y → ⊥) → length xs ≡ length ys
    → nat_lt (digit_at x) (digit_at y) ≡ nat_le (number_behind (10 * number + digit_at x) xs) (number_behind (10 * number + digit_at y) ys)
at_most_other_digit number x y xs ys differ same =
    let less : digit_at x < digit_at y → number_behind (10 * number + digit_at x) xs < number_behind (10 * number + digit_at y) ys =
    λ (h : digit_at x < digit_at y). less_behind (10 * number + digit_at x) (10 * number + digit_at y) xs ys (omega arith) (omega arith) in
    let greater : digit_at y < digit_at x → number_behind (10 * number + digit_at y) ys < number_behind (10 * number + digit_at x) xs =
    λ (h : digit_at y < digit_at x). less_behind (10 * number + digit_at y) (10 * number + digit_at x) ys xs (omega arith) (omega arith) in
    grind (arith, nat_tests, less, greater, differ)

at_most_by_case : (number : ℕ) (x y : ℕ) (xs ys : List ℕ) (test : Bool) → (digit_at x == digit_at y) ≡ test → length xs ≡ length ys
    → is_at_most_by_digits xs ys ≡ nat_le (number_behind (10 * number + digit_at x) xs) (number_behind (10 * number + digit_at x) ys)
    → (if test then is_at_most_by_digits xs ys else nat_lt (digit_at x) (digit_at y)) ≡ nat_le (number_behind (10 * number + digit_at x) xs) (number_behind (10 * number + digit_at y) ys)
at_most_by_case number x y xs ys true e same rest = at_most_same_digit number x y xs ys (is_at_most_by_digits xs ys) (grind (arith, nat_tests, e)) rest
at_most_by_case number x y xs ys false e same rest = at_most_other_digit number x y xs ys (grind (arith, nat_tests, e)) same

at_most_behind : (number : ℕ) (xs ys : List ℕ) → length xs ≡ length ys → is_at_most_by_digits xs ys ≡ nat_le (number_behind number xs) (number_behind number ys)
at_most_behind number [] [] same = grind (arith, nat_tests)
at_most_behind number [] (y ∷ ys) same = absurd (omega arith)
at_most_behind number (x ∷ xs) [] same = absurd (omega arith)
at_most_behind number (x ∷ xs) (y ∷ ys) same =
    let shorter : length xs ≡ length ys = omega arith in
    at_most_by_case number x y xs ys (digit_at x == digit_at y) refl shorter (at_most_behind (10 * number + digit_at x) xs ys shorter)

pub at_most_by_digits : (xs ys : List ℕ) → length xs ≡ length ys → is_at_most_by_digits xs ys ≡ nat_le (number_written xs) (number_written ys)
at_most_by_digits xs ys same = at_most_behind 0 xs ys same

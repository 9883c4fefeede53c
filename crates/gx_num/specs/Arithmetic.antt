-- The operations of XQuery 1.0 and XPath 2.0 Functions and Operators, section 6.2 and 6.4, on integers and decimals:
-- what each yields before its range is judged, and then what it answers.
use Rattle.std.specs.Prelude.{◌+ℤ◌, ◌-ℤ◌, ◌*ℤ◌, neg_ℤ, ℤ, pos, unsigned_abs, int_div, int_rem, Bool, ◌&&◌, if◌then◌else◌, ◌≡◌, Result, Ok, Err, true}
use Rattle.std.specs.Int.{int_div_euclid}
use Rattle.gx_num.specs.declared.Number.{Number}
use Rattle.gx_num.specs.declared.Number.TheVariants.{Int, Dec}
use Rattle.gx_num.specs.declared.NumFault.{NumFault}
use Rattle.gx_num.specs.declared.NumFault.TheVariants.{Overflow, DivZero}
use Rattle.gx_num.specs.Number.{units_of, FitsDecimal, fits_integer, fits_decimal, in_range, is_zero}

-- two operands at one type: as they are where both are integers, and else both in units of 10^-6
pub data Operands : Type 0 where
  integers : ℤ → ℤ → Operands
  decimals : ℤ → ℤ → Operands

abbrev pub operands_of : Number → Number → Operands
operands_of (Int a) (Int b) = integers a b
operands_of (Int a) (Dec b) = decimals (units_of (Int a)) b
operands_of (Dec a) (Int b) = decimals a (units_of (Int b))
operands_of (Dec a) (Dec b) = decimals a b

-- an operand that is converted has to fit a decimal
abbrev pub OperandsFit : Operands → Type 0
OperandsFit (integers a b) = Unit {0}
OperandsFit (decimals a b) = FitsDecimal a × FitsDecimal b

abbrev pub operands_fit : Operands → Bool
operands_fit (integers a b) = true
operands_fit (decimals a b) = fits_decimal a && fits_decimal b

-- ---- what each operation yields

abbrev pub exact_sum : Operands → Number
exact_sum (integers a b) = Int (a +ℤ b)
exact_sum (decimals a b) = Dec (a +ℤ b)

abbrev pub exact_difference : Operands → Number
exact_difference (integers a b) = Int (a -ℤ b)
exact_difference (decimals a b) = Dec (a -ℤ b)

-- a product of units counts units of 10^-12, and is truncated toward zero to units of 10^-6
abbrev pub exact_product : Operands → Number
exact_product (integers a b) = Int (a *ℤ b)
exact_product (decimals a b) = Dec (int_div (a *ℤ b) (pos 1000000))

-- in units, truncated toward zero
abbrev pub exact_quotient : Number → Number → ℤ
exact_quotient a b = int_div (units_of a *ℤ pos 1000000) (units_of b)

-- truncated toward zero
abbrev pub exact_integer_quotient : Operands → ℤ
exact_integer_quotient (integers a b) = int_div a b
exact_integer_quotient (decimals a b) = int_div a b

-- what truncated division leaves, with the dividend's sign
abbrev pub exact_remainder : Operands → Number
exact_remainder (integers a b) = Int (int_rem a b)
exact_remainder (decimals a b) = Dec (int_rem a b)

abbrev pub exact_negation : Number → Number
exact_negation (Int a) = Int (neg_ℤ a)
exact_negation (Dec a) = Dec (neg_ℤ a)

abbrev pub exact_magnitude : Number → Number
exact_magnitude (Int a) = Int (pos (unsigned_abs a))
exact_magnitude (Dec a) = Dec (pos (unsigned_abs a))

-- the greatest whole number of units that is not above a
abbrev pub whole_below : ℤ → ℤ
whole_below a = int_div_euclid a (pos 1000000) *ℤ pos 1000000

abbrev pub exact_floor : Number → Number
exact_floor (Int a) = Int a
exact_floor (Dec a) = Dec (whole_below a)

abbrev pub exact_ceiling : Number → Number
exact_ceiling (Int a) = Int a
exact_ceiling (Dec a) = Dec (neg_ℤ (whole_below (neg_ℤ a)))

-- halves go up
abbrev pub exact_round : Number → Number
exact_round (Int a) = Int a
exact_round (Dec a) = Dec (whole_below (a +ℤ pos 500000))

-- the integer, or the decimal truncated toward zero
abbrev pub truncated : Number → ℤ
truncated (Int a) = a
truncated (Dec a) = int_div a (pos 1000000)

-- ---- when each answer comes

-- The answer is x where P holds, and Overflow where it does not.
abbrev pub OverflowUnless : {T : Type 0} → Result T NumFault → Type 0 → T → Type 0
OverflowUnless (Ok y) P x = P × (y ≡ x)
OverflowUnless (Err Overflow) P x = ¬ P
OverflowUnless (Err DivZero) P x = ⊥

-- The answer is DivZero where Z holds; else it is x where P holds, and Overflow where it does not.
abbrev pub DivZeroOrOverflowUnless : {T : Type 0} → Result T NumFault → Type 0 → Type 0 → T → Type 0
DivZeroOrOverflowUnless (Ok y) Z P x = ¬ Z × P × (y ≡ x)
DivZeroOrOverflowUnless (Err Overflow) Z P x = ¬ Z × ¬ P
DivZeroOrOverflowUnless (Err DivZero) Z P x = Z

-- ---- what each operation answers

abbrev pub ranged : {T : Type 0} → Bool → T → Result T NumFault
ranged fits x = if fits then Ok x else Err Overflow

abbrev pub divided : {T : Type 0} → Bool → Bool → T → Result T NumFault
divided zero fits x = if zero then Err DivZero else ranged fits x

abbrev pub sum_of : Number → Number → Result Number NumFault
sum_of a b = let o = operands_of a b in ranged (operands_fit o && in_range (exact_sum o)) (exact_sum o)

abbrev pub difference_of : Number → Number → Result Number NumFault
difference_of a b = let o = operands_of a b in ranged (operands_fit o && in_range (exact_difference o)) (exact_difference o)

abbrev pub product_of : Number → Number → Result Number NumFault
product_of a b = let o = operands_of a b in ranged (operands_fit o && in_range (exact_product o)) (exact_product o)

abbrev pub quotient_of : Number → Number → Result Number NumFault
quotient_of a b =
    divided (is_zero b) (fits_decimal (units_of a) && fits_decimal (units_of b) && fits_decimal (exact_quotient a b)) (Dec (exact_quotient a b))

abbrev pub integer_quotient_of : Number → Number → Result ℤ NumFault
integer_quotient_of a b =
    let o = operands_of a b in divided (is_zero b) (operands_fit o && fits_integer (exact_integer_quotient o)) (exact_integer_quotient o)

abbrev pub remainder_of : Number → Number → Result Number NumFault
remainder_of a b = let o = operands_of a b in divided (is_zero b) (operands_fit o) (exact_remainder o)

abbrev pub in_range_or_overflow : Number → Result Number NumFault
in_range_or_overflow n = ranged (in_range n) n

abbrev pub decimal_of_integer : ℤ → Result ℤ NumFault
decimal_of_integer i = ranged (fits_decimal (units_of (Int i))) (units_of (Int i))

-- Functions over numbers (Functions and Operators, sections 6.4 and 15.4).
use Rattle.std.specs.Prelude.{ℤ, pos, Bool, false, List, [], ◌∷◌, length, Option, None, Some, unwrap_or, Result, Ok, Err, if◌then◌else◌}
use Rattle.gx_base.specs.declared.code.Code.{Code}
use Rattle.gx_base.specs.declared.code.Code.TheVariants.{FOAR0001, FOAR0002}
use Rattle.gx_base.specs.declared.type_name.Builtin.{Builtin}
use Rattle.gx_base.specs.declared.type_name.Builtin.TheVariants.{Integer, Decimal}
use Rattle.gx_base.specs.declared.type_name.TypeName.TheVariants as names
use Rattle.gx_num.specs.declared.Number.{Number}
use Rattle.gx_num.specs.declared.Number.TheVariants.{Int, Dec}
use Rattle.gx_num.specs.declared.NumFault.{NumFault}
use Rattle.gx_num.specs.declared.NumFault.TheVariants.{Overflow, DivZero}
use Rattle.gx_num.specs.Arithmetic.{sum_of, quotient_of, exact_magnitude, exact_floor, exact_ceiling, exact_round, in_range_or_overflow}
use Rattle.gx_facets.specs.declared.Atomic.{Atomic}
use Rattle.gx_facets.specs.declared.AtomValue.{AtomValue}
use Rattle.gx_facets.specs.declared.AtomValue.TheVariants.{Num}
use Rattle.gx_atomic.specs.declared.comparison.Op.{Op}
use Rattle.gx_atomic.specs.Comparison.{value_comparison}
use Rattle.gx_funcs.specs.declared.value_function.ValueFunction.{ValueFunction}
use Rattle.gx_funcs.specs.declared.value_function.ValueFunction.TheVariants as values

-- ---- numbers as atomic values

abbrev pub number_of_value : AtomValue → Option Number
number_of_value (Num n) = Some n
number_of_value _ = None

abbrev pub type_of_number : Number → Builtin
type_of_number (Int i) = Integer
type_of_number (Dec d) = Decimal

-- a number as an atomic value
abbrev pub number_atom : Number → Atomic
number_atom n = record { value = Num n; kind = names.Builtin (type_of_number n) }

-- the codes of faults of arithmetic
abbrev pub fault_code : NumFault → Code
fault_code Overflow = FOAR0002
fault_code DivZero = FOAR0001

abbrev pub number_first : Option Number → Option (List Number) → Option (List Number)
number_first None others = None
number_first (Some n) None = None
number_first (Some n) (Some others) = Some (n ∷ others)

-- the numbers that values are, if all are numbers
abbrev pub numbers_of_values : List Atomic → Option (List Number)
numbers_of_values [] = Some []
numbers_of_values (a ∷ values) = number_first (number_of_value a.value) (numbers_of_values values)

-- one number as an answer, or the code of its fault
abbrev pub number_answer : Result Number NumFault → Result (List Atomic) Code
number_answer (Ok n) = Ok (number_atom n ∷ [])
number_answer (Err fault) = Err (fault_code fault)

-- ---- sums and averages (15.4.4, 15.4.1)

-- a sum with a number more; a sum that is out of range stays the error
abbrev pub sum_with : Result Number NumFault → Number → Result Number NumFault
sum_with (Err fault) n = Err fault
sum_with (Ok sum) n = sum_of sum n

-- numbers summed from the left, behind what is there
abbrev pub summed : Result Number NumFault → List Number → Result Number NumFault
summed sum [] = sum
summed sum (n ∷ ns) = summed (sum_with sum n) ns

abbrev pub total : List Number → Result Number NumFault
total ns = summed (Ok (Int (pos 0))) ns

-- divided by a whole number
abbrev pub divided_by : Result Number NumFault → ℤ → Result Number NumFault
divided_by (Err fault) count = Err fault
divided_by (Ok sum) count = quotient_of sum (Int count)

-- there is no average of no number
abbrev pub average : List Number → Result (List Atomic) Code
average [] = Ok []
average (n ∷ ns) = number_answer (divided_by (total (n ∷ ns)) (pos (length (n ∷ ns))))

-- ---- the least and the greatest number (15.4.3, 15.4.2)

-- an operator holds of two values; of values that cannot be compared none does
abbrev pub compares : Op → Atomic → Atomic → Bool
compares op a b = unwrap_or (value_comparison op a.value b.value) false

-- the first value that stands in an order to those before it and is not behind those that follow
abbrev pub foremost : Op → Atomic → List Atomic → Atomic
foremost op a [] = a
foremost op a (b ∷ values) = foremost op (if compares op b a then b else a) values

abbrev pub foremost_of : Op → List Atomic → List Atomic
foremost_of op [] = []
foremost_of op (a ∷ values) = foremost op a values ∷ []

-- ---- functions of one number (6.4)

-- the number that a function makes of another, before its range is judged
abbrev pub exact_of : ValueFunction → Number → Number
exact_of values.Abs = exact_magnitude
exact_of values.Floor = exact_floor
exact_of values.Ceiling = exact_ceiling
exact_of _ = exact_round

-- at most one number, and what is made of it
abbrev pub of_one_number : (Number → Number) → List Number → Option (Result (List Atomic) Code)
of_one_number made [] = Some (Ok [])
of_one_number made (n ∷ []) = Some (number_answer (in_range_or_overflow (made n)))
of_one_number made (n ∷ m ∷ ns) = None

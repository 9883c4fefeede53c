-- Arithmetic on values (XQuery 1.0, section 3.4; Functions and Operators, section 6.2).
use Rattle.std.specs.Prelude.{[], ◌∷◌, ℤ, Option, None, Result, Ok, Err}
use Rattle.gx_num.specs.declared.Number.{Number}
use Rattle.gx_num.specs.declared.Number.TheVariants.{Int}
use Rattle.gx_num.specs.declared.NumFault.{NumFault}
use Rattle.gx_num.specs.Arithmetic.{sum_of, difference_of, product_of, quotient_of, integer_quotient_of}
use Rattle.gx_num.specs.Arithmetic.{remainder_of, exact_negation, in_range_or_overflow}
use Rattle.gx_funcs.specs.Numbers.{number_of_value, number_atom, fault_code}
use Rattle.gx_model.specs.Forest.{Forest}
use Rattle.gx_model.specs.Item.{Item, atom, node, Items}
use Rattle.gx_core.specs.declared.expression.ArithmeticOp.{ArithmeticOp}
use Rattle.gx_core.specs.declared.expression.ArithmeticOp.TheVariants.{Add, Sub, Mul, Div, IDiv, Mod}
use Rattle.gx_core.specs.Outcome.{Outcome, gives, raises, given}
use Rattle.gx_core.specs.Operands.{on_one, on_two}

-- the number that an item is
abbrev pub number_of_item : Item → Option Number
number_of_item (atom a) = number_of_value a.value
number_of_item (node place) = None

abbrev pub computed : Result Number NumFault → Forest → Outcome Items
computed (Ok n) forest = gives (atom (number_atom n) ∷ []) forest
computed (Err fault) forest = raises (fault_code fault)

abbrev pub integer_result : Result ℤ NumFault → Result Number NumFault
integer_result (Ok i) = Ok (Int i)
integer_result (Err fault) = Err fault

-- the operations
abbrev pub result_of : ArithmeticOp → Number → Number → Result Number NumFault
result_of Add m n = sum_of m n
result_of Sub m n = difference_of m n
result_of Mul m n = product_of m n
result_of Div m n = quotient_of m n
result_of IDiv m n = integer_result (integer_quotient_of m n)
result_of Mod m n = remainder_of m n

-- of two numbers; an operand that is none is a type error
abbrev pub computed_of_items : ArithmeticOp → Item → Item → Forest → Outcome Items
computed_of_items operator x y forest =
    given (number_of_item x) (λ m. given (number_of_item y) (λ n. computed (result_of operator m n) forest))

abbrev pub arithmetic : ArithmeticOp → Items → Items → Forest → Outcome Items
arithmetic operator xs ys forest = on_two xs ys forest (computed_of_items operator)

-- the negation of a number
abbrev pub negation_of_item : Item → Forest → Outcome Items
negation_of_item x forest = given (number_of_item x) (λ n. computed (in_range_or_overflow (exact_negation n)) forest)

abbrev pub negation : Items → Forest → Outcome Items
negation xs forest = on_one xs forest negation_of_item

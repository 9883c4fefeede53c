-- What the code's pair of operands stands for.
use Rattle.std.specs.Prelude.{◌≡◌}
use Rattle.gx_num.specs.declared.Number.{Number}
use Rattle.gx_num.specs.declared.arithmetic.Operands.{Operands}
use Rattle.gx_num.specs.declared.arithmetic.Operands.TheVariants.{Integers, Decimals}
use Rattle.gx_num.specs.Arithmetic as Arithmetic
use Rattle.gx_num.specs.Arithmetic.{operands_of, integers, decimals, OperandsFit}

abbrev pub shown : Operands → Arithmetic.Operands
shown (Integers x y) = integers x y
shown (Decimals x y) = decimals x y

pub record AreOperands (a b : Number) (o : Operands) : Type 0 where
  pub stand_for : operands_of a b ≡ shown o
  pub fit : OperandsFit (operands_of a b)

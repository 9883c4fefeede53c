-- What the operators of two operands do (XQuery 1.0, sections 3.3.1, 3.3.3, 3.4 and 3.5).
use Rattle.gx_atomic.specs.declared.comparison.Op.TheVariants as comparisons
use Rattle.gx_core.specs.declared.expression.BinaryOp.{BinaryOp}
use Rattle.gx_core.specs.declared.expression.BinaryOp.TheVariants as binary
use Rattle.gx_core.specs.declared.expression.ArithmeticOp.TheVariants as arithmetic
use Rattle.gx_core.specs.declared.expression.BinaryClass.{BinaryClass}
use Rattle.gx_core.specs.declared.expression.BinaryClass.TheVariants.{Arithmetic, Value, General, Nodes, Range, Combination}
use Rattle.gx_core.specs.declared.expression.NodeComparison.TheVariants as nodes
use Rattle.gx_core.specs.declared.expression.NodeCombination.TheVariants as combinations

abbrev pub class_of : BinaryOp → BinaryClass
class_of binary.Add = Arithmetic arithmetic.Add
class_of binary.Sub = Arithmetic arithmetic.Sub
class_of binary.Mul = Arithmetic arithmetic.Mul
class_of binary.Div = Arithmetic arithmetic.Div
class_of binary.IDiv = Arithmetic arithmetic.IDiv
class_of binary.Mod = Arithmetic arithmetic.Mod
class_of binary.Eq = Value comparisons.Eq
class_of binary.Ne = Value comparisons.Ne
class_of binary.Lt = Value comparisons.Lt
class_of binary.Le = Value comparisons.Le
class_of binary.Gt = Value comparisons.Gt
class_of binary.Ge = Value comparisons.Ge
class_of binary.AnyEq = General comparisons.Eq
class_of binary.AnyNe = General comparisons.Ne
class_of binary.AnyLt = General comparisons.Lt
class_of binary.AnyLe = General comparisons.Le
class_of binary.AnyGt = General comparisons.Gt
class_of binary.AnyGe = General comparisons.Ge
class_of binary.Is = Nodes nodes.Is
class_of binary.Before = Nodes nodes.Before
class_of binary.After = Nodes nodes.After
class_of binary.To = Range
class_of binary.Union = Combination combinations.Union
class_of binary.Intersect = Combination combinations.Intersect
class_of binary.Except = Combination combinations.Except

-- The names of operators, as plans are written.
use Rattle.std.specs.Prelude.{ℕ, List, codes}
use Rattle.gx_funcs.specs.Function.{function_name}
use Rattle.gx_core.specs.declared.constructor.Constructor.{Constructor}
use Rattle.gx_core.specs.declared.constructor.Constructor.TheVariants as constructors
use Rattle.gx_core.specs.declared.expression.BinaryOp.{BinaryOp}
use Rattle.gx_core.specs.declared.expression.BinaryOp.TheVariants.{Add, Sub, Mul, Div, IDiv, Mod, Eq, Ne, Lt, Le, Gt, Ge, AnyEq, AnyNe, AnyLt, AnyLe, AnyGt, AnyGe}
use Rattle.gx_core.specs.declared.expression.BinaryOp.TheVariants.{Is, Before, After, To, Union, Intersect, Except}
use Rattle.gx_core.specs.declared.operator.Operator.{Operator}
use Rattle.gx_core.specs.declared.operator.Operator.TheVariants as operators
use Rattle.gx_core.specs.declared.operator.ClauseKind.{ClauseKind}
use Rattle.gx_core.specs.declared.operator.ClauseKind.TheVariants as clauses

-- the operators of two operands
abbrev pub binary_name : BinaryOp → List ℕ
binary_name Add = codes "add"
binary_name Sub = codes "sub"
binary_name Mul = codes "mul"
binary_name Div = codes "div"
binary_name IDiv = codes "idiv"
binary_name Mod = codes "mod"
binary_name Eq = codes "eq"
binary_name Ne = codes "ne"
binary_name Lt = codes "lt"
binary_name Le = codes "le"
binary_name Gt = codes "gt"
binary_name Ge = codes "ge"
binary_name AnyEq = codes "any-eq"
binary_name AnyNe = codes "any-ne"
binary_name AnyLt = codes "any-lt"
binary_name AnyLe = codes "any-le"
binary_name AnyGt = codes "any-gt"
binary_name AnyGe = codes "any-ge"
binary_name Is = codes "is"
binary_name Before = codes "before"
binary_name After = codes "after"
binary_name To = codes "to"
binary_name Union = codes "union"
binary_name Intersect = codes "intersect"
binary_name Except = codes "except"

abbrev pub constructor_name : Constructor → List ℕ
constructor_name (constructors.Element name) = codes "elem"
constructor_name (constructors.Attribute name) = codes "attr"
constructor_name constructors.Text = codes "text"
constructor_name constructors.Document = codes "doc"

-- a call of a built-in function has the local name of the function
abbrev pub operator_name : Operator → List ℕ
operator_name (operators.Lit atomic) = codes "lit"
operator_name (operators.Var number) = codes "var"
operator_name operators.Empty = codes "empty"
operator_name operators.Seq = codes "seq"
operator_name (operators.For binder position) = codes "for"
operator_name (operators.Let binder) = codes "let"
operator_name operators.If = codes "if"
operator_name (operators.Cast kind optional) = codes "cast"
operator_name (operators.Castable kind optional) = codes "castable"
operator_name (operators.Step axis asks number) = codes "step"
operator_name operators.Nodes = codes "nodes"
operator_name operators.Order = codes "order"
operator_name (operators.SomeIn binder) = codes "some"
operator_name (operators.EveryIn binder) = codes "every"
operator_name (operators.Switch cases default) = codes "switch"
operator_name (operators.Nth number reverse) = codes "nth"
operator_name (operators.Final reverse) = codes "final"
operator_name (operators.Block kinds orders) = codes "block"
operator_name operators.DataOf = codes "data"
operator_name operators.NoContext = codes "nocontext"
operator_name (operators.Call function) = function_name function
operator_name operators.Neg = codes "neg"
operator_name (operators.Binary operator) = binary_name operator
operator_name (operators.Construct constructor count) = constructor_name constructor
operator_name (operators.Treat kind) = codes "treat"
operator_name (operators.User signature count) = codes "user"

-- the clauses of a block
abbrev pub clause_name : ClauseKind → List ℕ
clause_name (clauses.For binder position) = codes "for"
clause_name (clauses.Let binder) = codes "let"
clause_name clauses.Where = codes "where"

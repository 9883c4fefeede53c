-- What each construct of the language stands for in Core, over its parts (XQuery 1.0 and XPath 2.0 Formal Semantics, section 4).
use Rattle.std.specs.Prelude.{ℕ, Bool, true, false, pos, ◌==◌, if◌then◌else◌, List, [], ◌∷◌, length, Option, None, Some}
use Rattle.gx_base.specs.declared.place.Place.{Place}
use Rattle.gx_base.specs.declared.type_name.TypeName.{TypeName}
use Rattle.gx_num.specs.declared.Number.TheVariants.{Int}
use Rattle.gx_facets.specs.declared.Atomic.{Atomic}
use Rattle.gx_ast.specs.declared.expression.BinaryOperator.{BinaryOperator}
use Rattle.gx_ast.specs.declared.expression.BinaryOperator.TheVariants as written
use Rattle.gx_types.specs.declared.step.Axis.{Axis}
use Rattle.gx_types.specs.declared.step.Test.{Test}
use Rattle.gx_funcs.specs.declared.function.Function.{Function}
use Rattle.gx_funcs.specs.declared.function.Function.TheVariants as functions
use Rattle.gx_funcs.specs.Function.{arity_of}
use Rattle.gx_core.specs.declared.expression.BinaryOp.{BinaryOp}
use Rattle.gx_core.specs.declared.expression.BinaryOp.TheVariants as core
use Rattle.gx_core.specs.declared.expression.BinaryClass.{BinaryClass}
use Rattle.gx_core.specs.declared.expression.BinaryClass.TheVariants.{Nodes, Combination}
use Rattle.gx_core.specs.BinaryOperators.{class_of}
use Rattle.gx_core.specs.declared.expression.Binder.{Binder}
use Rattle.gx_core.specs.declared.constructor.Constructor.{Constructor}
use Rattle.gx_core.specs.declared.operator.Operator.{Operator}
use Rattle.gx_core.specs.declared.operator.Operator.TheVariants as operators
use Rattle.gx_funcs.specs.Numbers.{number_atom}
use Rattle.gx_core.specs.Expression.{CoreExpression, At, Parts, no_parts, one_part, two_parts, three_parts, all_parts, core_at, outer_of}

-- the expression in parentheses that stand there
abbrev pub within : Place → CoreExpression → CoreExpression
within parentheses (At place outer annotation operator parts) = core_at place parentheses operator parts

-- what is added around an expression has that expression's outer place
abbrev pub around : CoreExpression → Operator → Parts (Unit {0}) → CoreExpression
around e operator parts = core_at (outer_of e) (outer_of e) operator parts

-- the atomization of an operand
abbrev pub data_around : CoreExpression → CoreExpression
data_around e = around e operators.DataOf (one_part e)

-- its effective boolean value
abbrev pub boolean_around : CoreExpression → CoreExpression
boolean_around e = around e (operators.Call functions.Boolean) (one_part e)

abbrev pub literal_at : Place → Atomic → CoreExpression
literal_at place value = core_at place place (operators.Lit value) no_parts

abbrev pub core_sequence : CoreExpression → CoreExpression → CoreExpression
core_sequence a b = around a operators.Seq (two_parts a b)

-- an operand of an operator: comparisons and combinations of nodes take it as it is, and all others atomize it
abbrev pub operand_of : BinaryClass → CoreExpression → CoreExpression
operand_of (Nodes op) e = e
operand_of (Combination op) e = e
operand_of _ e = data_around e

abbrev pub operator_at : Place → BinaryOp → CoreExpression → CoreExpression → CoreExpression
operator_at place op a b = core_at place place (operators.Binary op) (two_parts (operand_of (class_of op) a) (operand_of (class_of op) b))

abbrev pub call_at : Place → Function → Parts (Unit {0}) → CoreExpression
call_at place function arguments = core_at place place (operators.Call function) arguments

abbrev pub empty_at : Place → CoreExpression
empty_at place = core_at place place operators.Empty no_parts

-- what is made of one part; another number of parts stands for nothing
abbrev pub of_one : Place → (CoreExpression → CoreExpression) → List CoreExpression → CoreExpression
of_one place make (a ∷ []) = make a
of_one place make _ = empty_at place

abbrev pub data_at : Place → CoreExpression → CoreExpression
data_at place e = core_at place place operators.DataOf (one_part e)

-- what looks at a context where there is none
abbrev pub no_context_at : Place → CoreExpression
no_context_at place = core_at place place operators.NoContext no_parts

-- a call of a function with its number of arguments; with another number it stands for nothing
abbrev pub counted_call : Place → Function → List CoreExpression → CoreExpression
counted_call place function arguments =
    if length arguments == arity_of function then call_at place function (all_parts arguments) else empty_at place

-- a call; `data` is an operator of its own, and `position` and `last` look at a context
abbrev pub call_of : Place → Function → List CoreExpression → CoreExpression
call_of place functions.Data arguments = of_one place (data_at place) arguments
call_of place functions.Position arguments = no_context_at place
call_of place functions.Last arguments = no_context_at place
call_of place function arguments = counted_call place function arguments

abbrev pub conditional_at : Place → CoreExpression → CoreExpression → CoreExpression → CoreExpression
conditional_at place test chosen otherwise = core_at place place operators.If (three_parts (boolean_around test) chosen otherwise)

-- the right operand is looked at where the left one does not decide
abbrev pub and_at : Place → CoreExpression → CoreExpression → CoreExpression
and_at place a b = conditional_at place a (boolean_around b) (call_at place functions.False no_parts)

abbrev pub or_at : Place → CoreExpression → CoreExpression → CoreExpression
or_at place a b = conditional_at place a (call_at place functions.True no_parts) (boolean_around b)

-- a sign: the negation of a number, or the number less zero
abbrev pub signed_at : Place → (minus : Bool) → CoreExpression → CoreExpression
signed_at place true e = core_at place place operators.Neg (one_part (data_around e))
signed_at place false e = core_at place place (operators.Binary core.Sub) (two_parts (data_around e) (literal_at place (number_atom (Int (pos 0)))))

abbrev pub cast_at : Place → TypeName → (optional : Bool) → CoreExpression → CoreExpression
cast_at place kind optional e = core_at place place (operators.Cast kind optional) (one_part (data_around e))

abbrev pub castable_at : Place → TypeName → (optional : Bool) → CoreExpression → CoreExpression
castable_at place kind optional e = core_at place place (operators.Castable kind optional) (one_part (data_around e))

abbrev pub let_at : Place → Binder → CoreExpression → CoreExpression → CoreExpression
let_at place binder value body = core_at place place (operators.Let binder) (two_parts value body)

abbrev pub for_at : Place → Binder → (position : ℕ) → CoreExpression → CoreExpression → CoreExpression
for_at place binder position source body = core_at place place (operators.For binder position) (two_parts source body)

abbrev pub quantifier_at : (every : Bool) → Place → Binder → CoreExpression → CoreExpression → CoreExpression
quantifier_at true place binder source test = core_at place place (operators.EveryIn binder) (two_parts source test)
quantifier_at false place binder source test = core_at place place (operators.SomeIn binder) (two_parts source test)

-- a constructor over the parts of its content
abbrev pub constructor_at : Place → Constructor → List CoreExpression → CoreExpression
constructor_at place constructor parts = core_at place place (operators.Construct constructor (length parts)) (all_parts parts)

-- ---- paths

-- the context item, which is the value of the variable with this number
abbrev pub context_item_at : Place → Option ℕ → CoreExpression
context_item_at place None = no_context_at place
context_item_at place (Some number) = core_at place place (operators.Var number) no_parts

-- a step from it
abbrev pub step_at : Place → Option ℕ → Axis → Test → CoreExpression
step_at place None axis asks = no_context_at place
step_at place (Some number) axis asks = core_at place place (operators.Step axis asks number) no_parts

abbrev pub nodes_at : Place → CoreExpression → CoreExpression
nodes_at place e = core_at place place operators.Nodes (one_part e)

-- a variable of Core alone
abbrev pub hidden_binder : Place → ℕ → Binder
hidden_binder place number = record { variable = number; place = place; kind = None }

-- the operator of Core for one that is written, if it is one
abbrev pub operator_in_core : BinaryOperator → Option BinaryOp
operator_in_core written.Add = Some core.Add
operator_in_core written.Subtract = Some core.Sub
operator_in_core written.Multiply = Some core.Mul
operator_in_core written.Divide = Some core.Div
operator_in_core written.DivideInteger = Some core.IDiv
operator_in_core written.Modulo = Some core.Mod
operator_in_core written.ValueEqual = Some core.Eq
operator_in_core written.ValueNotEqual = Some core.Ne
operator_in_core written.ValueLess = Some core.Lt
operator_in_core written.ValueLessOrEqual = Some core.Le
operator_in_core written.ValueGreater = Some core.Gt
operator_in_core written.ValueGreaterOrEqual = Some core.Ge
operator_in_core written.Equal = Some core.AnyEq
operator_in_core written.NotEqual = Some core.AnyNe
operator_in_core written.Less = Some core.AnyLt
operator_in_core written.LessOrEqual = Some core.AnyLe
operator_in_core written.Greater = Some core.AnyGt
operator_in_core written.GreaterOrEqual = Some core.AnyGe
operator_in_core written.Is = Some core.Is
operator_in_core written.Before = Some core.Before
operator_in_core written.After = Some core.After
operator_in_core written.To = Some core.To
operator_in_core written.Union = Some core.Union
operator_in_core written.Intersect = Some core.Intersect
operator_in_core written.Except = Some core.Except
operator_in_core _ = None

abbrev pub joined_by : Place → Option BinaryOp → Option (CoreExpression → CoreExpression → CoreExpression)
joined_by place None = None
joined_by place (Some op) = Some (operator_at place op)

-- how an operator joins its operands
abbrev pub joining : Place → BinaryOperator → Option (CoreExpression → CoreExpression → CoreExpression)
joining place written.And = Some (and_at place)
joining place written.Or = Some (or_at place)
joining place operator = joined_by place (operator_in_core operator)

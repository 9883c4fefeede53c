-- What a rule of rewriting may ask of an expression: that it cannot raise an error and makes no node, that it gives nodes in document order,
-- or that it does not name a variable.
use Rattle.std.specs.Prelude.{ℕ, zero, nat_eq, Bool, true, false, ◌&&◌, ◌||◌, List, [], ◌∷◌}
use Rattle.gx_base.specs.declared.type_name.Builtin.{Builtin}
use Rattle.gx_base.specs.declared.type_name.Builtin.TheVariants as builtins
use Rattle.gx_types.specs.SchemaSet.{SchemaSet}
use Rattle.gx_types.specs.declared.item_type.ItemType.{ItemType}
use Rattle.gx_types.specs.SequenceType.{SequenceType}
use Rattle.gx_types.specs.declared.step.Axis.{Axis}
use Rattle.gx_types.specs.declared.step.Axis.TheVariants as axes
use Rattle.gx_steptype.specs.DataType.{has_data, type_of_data}
use Rattle.gx_funcs.specs.declared.function.Function.{Function}
use Rattle.gx_funcs.specs.declared.function.Function.TheVariants as functions
use Rattle.gx_funcs.specs.declared.function.Parameter.{Parameter}
use Rattle.gx_funcs.specs.declared.function.Conversion.{Conversion}
use Rattle.gx_funcs.specs.declared.function.Conversion.TheVariants as conversions
use Rattle.gx_funcs.specs.declared.value_function.ValueFunction.{ValueFunction}
use Rattle.gx_funcs.specs.declared.value_function.ValueFunction.TheVariants as values
use Rattle.gx_funcs.specs.declared.item_function.ItemFunction.{ItemFunction}
use Rattle.gx_funcs.specs.declared.item_function.ItemFunction.TheVariants as of_items
use Rattle.gx_funcs.specs.Function.{parameters_of, conversion_of}
use Rattle.gx_core.specs.declared.expression.BinaryOp.TheVariants as binary
use Rattle.gx_core.specs.declared.expression.BinaryClass.{BinaryClass}
use Rattle.gx_core.specs.declared.expression.BinaryClass.TheVariants as classes
use Rattle.gx_core.specs.BinaryOperators.{class_of}
use Rattle.gx_core.specs.declared.operator.Operator.{Operator}
use Rattle.gx_core.specs.declared.operator.Operator.TheVariants as operators
use Rattle.gx_core.specs.Expression.{At, Parts, no_parts, a_part}
use Rattle.gx_core.specs.FreeVariables.{names_variable}
use Rattle.gx_static.specs.declared.comparison.Family.TheVariants as families
use Rattle.gx_static.specs.Rule.{all_items, is_atomic_in, is_of_family, are_of_family, is_at_most_one}
use Rattle.gx_plan.specs.declared.plan.Role.{Role}
use Rattle.gx_plan.specs.declared.plan.Role.TheVariants as roles
use Rattle.gx_plan.specs.declared.plan.Carried.{Carried}
use Rattle.gx_plan.specs.Plan.{PlanExpression, kinds_carried}

-- ---- how an operator stands in a plan

abbrev pub is_own_role : Role → Bool
is_own_role roles.Own = true
is_own_role _ = false

abbrev pub is_in_join : Role → Bool
is_in_join roles.InJoin = true
is_in_join _ = false

-- ---- what is quiet: nothing in it raises an error, and nothing makes a node

-- items of two item types are compared without a cast: they are of one family
abbrev pub compare_quietly : SchemaSet → (a b : ItemType) → Bool
compare_quietly schemas a b =
    (is_of_family schemas families.Number a && is_of_family schemas families.Number b)
    || (is_of_family schemas families.Text a && is_of_family schemas families.Text b)
    || (is_of_family schemas families.Truth a && is_of_family schemas families.Truth b)

-- and so is each pair of items of two types
abbrev pub are_compared_quietly : SchemaSet → (left right : SequenceType) → Bool
are_compared_quietly schemas left right = all_items (λ a. all_items (compare_quietly schemas a) right) left

-- arithmetic and ranges may overflow, and a general comparison may have to cast
abbrev pub is_quiet_class : SchemaSet → BinaryClass → (left right : SequenceType) → Bool
is_quiet_class schemas (classes.Arithmetic operation) left right = false
is_quiet_class schemas (classes.General op) left right = are_compared_quietly schemas left right
is_quiet_class schemas classes.Range left right = false
is_quiet_class schemas _ left right = true

abbrev pub is_quiet_binary : SchemaSet → BinaryClass → List SequenceType → Bool
is_quiet_binary schemas class (left ∷ right ∷ []) = is_quiet_class schemas class left right
is_quiet_binary schemas class _ = false

-- a function over atomic values that raises no error
abbrev pub is_quiet_value_function : ValueFunction → Bool
is_quiet_value_function values.Sum = false
is_quiet_value_function values.Average = false
is_quiet_value_function values.Abs = false
is_quiet_value_function values.Floor = false
is_quiet_value_function values.Ceiling = false
is_quiet_value_function values.Round = false
is_quiet_value_function values.NormalizeTo = false
is_quiet_value_function values.CodepointsToString = false
is_quiet_value_function _ = true

abbrev pub is_quiet_item_function : ItemFunction → Bool
is_quiet_item_function of_items.ZeroOrOne = false
is_quiet_item_function of_items.OneOrMore = false
is_quiet_item_function of_items.ExactlyOne = false
is_quiet_item_function of_items.Error = false
is_quiet_item_function _ = true

abbrev pub is_quiet_function : Function → Bool
is_quiet_function (functions.OfValues function) = is_quiet_value_function function
is_quiet_function (functions.OfItems function) = is_quiet_item_function function
is_quiet_function _ = true

-- a cast to a string always succeeds
abbrev pub is_string : Builtin → Bool
is_string builtins.Str = true
is_string _ = false

-- an argument is converted without a cast that may fail
abbrev pub is_converted_quietly : SchemaSet → Conversion → SequenceType → Bool
is_converted_quietly schemas (conversions.DataAndCast kind) argument =
    is_string kind || (has_data schemas argument && all_items (is_atomic_in schemas kind) (type_of_data schemas argument))
is_converted_quietly schemas _ argument = true

abbrev pub are_converted_quietly : SchemaSet → List Parameter → List SequenceType → Bool
are_converted_quietly schemas (parameter ∷ parameters) (argument ∷ arguments) =
    is_converted_quietly schemas (conversion_of parameter.takes) argument && are_converted_quietly schemas parameters arguments
are_converted_quietly schemas _ _ = true

-- an operator over parts of these types
abbrev pub is_quiet_operator : SchemaSet → Role → Operator → List SequenceType → Bool
is_quiet_operator schemas role (operators.Binary operator) parts = is_in_join role || is_quiet_binary schemas (class_of operator) parts
is_quiet_operator schemas role operators.Neg parts = false
is_quiet_operator schemas role (operators.Cast kind optional) parts = false
is_quiet_operator schemas role (operators.Treat kind) parts = false
is_quiet_operator schemas role (operators.Construct constructor count) parts = false
is_quiet_operator schemas role (operators.User signature count) parts = false
is_quiet_operator schemas role (operators.Call function) parts =
    is_quiet_function function && are_converted_quietly schemas (parameters_of function) parts
is_quiet_operator schemas role _ parts = true

-- the operator of an expression
abbrev pub is_quiet_at : SchemaSet → PlanExpression → Bool
is_quiet_at schemas (At place outer carried operator parts) = is_quiet_operator schemas carried.role operator (kinds_carried parts)

-- and all operators in it
abbrev mutual
  pub is_quiet : SchemaSet → PlanExpression → Bool
  is_quiet schemas (At place outer carried operator parts) =
      is_quiet_operator schemas carried.role operator (kinds_carried parts) && are_quiet schemas parts

  pub are_quiet : SchemaSet → Parts Carried → Bool
  are_quiet schemas no_parts = true
  are_quiet schemas (a_part first others) = is_quiet schemas first && are_quiet schemas others

-- ---- what is flat: its nodes stand in document order, each once

-- a step along this axis, from nodes that stand in order and beside one another, gives nodes that do
abbrev pub is_near : Axis → Bool
is_near axes.Child = true
is_near axes.Attribute = true
is_near axes.SelfAxis = true
is_near _ = false

-- a step from the node of a variable along such an axis
abbrev pub is_near_step_from : (variable : ℕ) → PlanExpression → Bool
is_near_step_from variable (At place outer carried (operators.Step axis asks number) no_parts) = is_near axis && nat_eq number variable
is_near_step_from variable _ = false

-- where the operator and the parts alone are asked: a step, a loop of such steps over what is flat, or what has a flat value
abbrev mutual
  pub is_flat : PlanExpression → Bool
  is_flat (At place outer carried operator parts) = is_at_most_one carried.kind || is_flat_over operator parts

  pub is_flat_over : Operator → Parts Carried → Bool
  is_flat_over (operators.Step axis asks number) no_parts = is_near axis
  is_flat_over (operators.For binder zero) (a_part source (a_part body no_parts)) = is_flat source && is_near_step_from binder.variable body
  is_flat_over (operators.Let binder) (a_part value (a_part body no_parts)) = is_flat body
  is_flat_over operators.Order (a_part operand no_parts) = is_flat operand
  is_flat_over _ _ = false

-- ---- what is in document order

abbrev pub gives_nodes_in_order : Operator → Bool
gives_nodes_in_order operators.Order = true
gives_nodes_in_order (operators.Step axis asks number) = true
gives_nodes_in_order (operators.Binary binary.Union) = true
gives_nodes_in_order (operators.Binary binary.Intersect) = true
gives_nodes_in_order (operators.Binary binary.Except) = true
gives_nodes_in_order _ = false

abbrev pub is_ordered : PlanExpression → Bool
is_ordered (At place outer carried operator parts) = gives_nodes_in_order operator

-- such an operator, or a `let` whose body is one
abbrev pub is_sorted : PlanExpression → Bool
is_sorted (At place outer carried (operators.Let binder) (a_part value (a_part body no_parts))) = is_ordered body
is_sorted (At place outer carried operator parts) = gives_nodes_in_order operator

-- ---- names

-- the operator of an expression names a variable
abbrev pub names_at : PlanExpression → ℕ → Bool
names_at (At place outer carried operator parts) number = names_variable operator number

-- and so does an operator in it
abbrev mutual
  pub is_named_in : PlanExpression → ℕ → Bool
  is_named_in (At place outer carried operator parts) number = names_variable operator number || is_named_in_parts parts number

  pub is_named_in_parts : Parts Carried → ℕ → Bool
  is_named_in_parts no_parts number = false
  is_named_in_parts (a_part first others) number = is_named_in first number || is_named_in_parts others number

-- ---- keys

-- all keys are numbers, or all are strings and untyped values
abbrev pub are_keys_of_one_family : SchemaSet → (left right : SequenceType) → Bool
are_keys_of_one_family schemas left right = are_of_family schemas left right families.Number || are_of_family schemas left right families.Text

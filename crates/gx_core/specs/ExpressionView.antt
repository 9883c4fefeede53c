-- The plain tree that an expression stands for.
use Rattle.std.specs.Prelude.{List, [], ◌∷◌, ◌++◌, map, length}
use Rattle.gx_sorting.specs.declared.keys.KeyOrder.{KeyOrder}
use Rattle.gx_core.specs.declared.operator.Operator.{Operator}
use Rattle.gx_core.specs.declared.operator.Operator.TheVariants as operators
use Rattle.gx_core.specs.declared.operator.ClauseKind.{ClauseKind}
use Rattle.gx_core.specs.declared.operator.ClauseKind.TheVariants as kinds
use Rattle.gx_core.specs.declared.expression.Clause.{Clause}
use Rattle.gx_core.specs.declared.expression.Clause.TheVariants as clauses
use Rattle.gx_core.specs.declared.expression.SortKey.{SortKey}
use Rattle.gx_core.specs.declared.expression.Form.{Form}
use Rattle.gx_core.specs.declared.expression.Form.TheVariants.{Lit, Var, Empty, Seq, For, Let, If, Cast, Castable, Treat}
use Rattle.gx_core.specs.declared.expression.Form.TheVariants.{Step, Nodes, Order, SomeIn, EveryIn, Switch, Nth}
use Rattle.gx_core.specs.declared.expression.Form.TheVariants.{Final, DataOf, NoContext, Call, Neg, Binary, Block, Construct, User}
use Rattle.gx_core.specs.declared.expression.Expr.TheInside.{Inside}
use Rattle.gx_core.specs.Expression.{Expression, At, Parts, no_parts, a_part, one_part, two_parts, three_parts, all_parts}

-- what a clause has beside its part, and its part
abbrev pub kind_of_clause : {A : Type 0} → Clause A → ClauseKind
kind_of_clause (clauses.For v p a) = kinds.For v p
kind_of_clause (clauses.Let v a) = kinds.Let v
kind_of_clause (clauses.Where a) = kinds.Where

abbrev pub part_of_clause : {A : Type 0} → Clause A → Expression A
part_of_clause (clauses.For v p a) = a
part_of_clause (clauses.Let v a) = a
part_of_clause (clauses.Where a) = a

abbrev pub part_of_key : {A : Type 0} → SortKey A → Expression A
part_of_key k = k.value

abbrev pub order_of_key : {A : Type 0} → SortKey A → KeyOrder
order_of_key k = k.order

-- the parts of a block: those of its clauses, its keys, and what is returned
abbrev pub parts_of_block : {A : Type 0} → List (Clause A) → List (SortKey A) → Expression A → List (Expression A)
parts_of_block cs ks a = map part_of_clause cs ++ (map part_of_key ks ++ a ∷ [])

abbrev pub operator_of : {A : Type 0} → Form A → Operator
operator_of (Lit a) = operators.Lit a
operator_of (Var n) = operators.Var n
operator_of Empty = operators.Empty
operator_of (Seq a b) = operators.Seq
operator_of (For v p a b) = operators.For v p
operator_of (Let v a b) = operators.Let v
operator_of (If a b c) = operators.If
operator_of (Cast a kind optional) = operators.Cast kind optional
operator_of (Castable a kind optional) = operators.Castable kind optional
operator_of (Treat a kind) = operators.Treat kind
operator_of (Step axis t n) = operators.Step axis t n
operator_of (Nodes a) = operators.Nodes
operator_of (Order a) = operators.Order
operator_of (SomeIn v a b) = operators.SomeIn v
operator_of (EveryIn v a b) = operators.EveryIn v
operator_of (Switch a cases default es) = operators.Switch cases default
operator_of (Nth a number reverse) = operators.Nth number reverse
operator_of (Final a reverse) = operators.Final reverse
operator_of (Block cs ks a) = operators.Block (map kind_of_clause cs.items) (map order_of_key ks.items)
operator_of (DataOf a) = operators.DataOf
operator_of NoContext = operators.NoContext
operator_of (Call function es) = operators.Call function
operator_of (Neg a) = operators.Neg
operator_of (Binary o a b) = operators.Binary o
operator_of (Construct c es) = operators.Construct c (length es.items)
operator_of (User signature es) = operators.User signature (length es.items)

abbrev pub parts_of : {A : Type 0} → Form A → Parts A
parts_of (Lit a) = no_parts
parts_of (Var n) = no_parts
parts_of Empty = no_parts
parts_of (Seq a b) = two_parts a.value b.value
parts_of (For v p a b) = two_parts a.value b.value
parts_of (Let v a b) = two_parts a.value b.value
parts_of (If a b c) = three_parts a.value b.value c.value
parts_of (Cast a kind optional) = one_part a.value
parts_of (Castable a kind optional) = one_part a.value
parts_of (Treat a kind) = one_part a.value
parts_of (Step axis t n) = no_parts
parts_of (Nodes a) = one_part a.value
parts_of (Order a) = one_part a.value
parts_of (SomeIn v a b) = two_parts a.value b.value
parts_of (EveryIn v a b) = two_parts a.value b.value
parts_of (Switch a cases default es) = a_part a.value (all_parts es.items)
parts_of (Nth a number reverse) = one_part a.value
parts_of (Final a reverse) = one_part a.value
parts_of (Block cs ks a) = all_parts (parts_of_block cs.items ks.items a.value)
parts_of (DataOf a) = one_part a.value
parts_of NoContext = no_parts
parts_of (Call function es) = all_parts es.items
parts_of (Neg a) = one_part a.value
parts_of (Binary o a b) = two_parts a.value b.value
parts_of (Construct c es) = all_parts es.items
parts_of (User signature es) = all_parts es.items

abbrev pub expression_of : {A : Type 0} → Inside A → Expression A
expression_of e = At e.place e.outer e.kind (operator_of e.form) (parts_of e.form)

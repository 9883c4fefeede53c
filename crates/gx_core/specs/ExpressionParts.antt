-- The parts of an expression are smaller than it.
use Rattle.std.specs.Prelude.{◌+◌, ◌≤◌, max, List, [], ◌∷◌, ◌++◌, map}
use Rattle.std.proofs.Common.{arith}
use denote.Param.Weighed.{most}
use Rattle.gx_core.specs.declared.expression.Clause.{Clause}
use Rattle.gx_core.specs.declared.expression.Clause.TheVariants as clauses
use Rattle.gx_core.specs.declared.expression.SortKey.{SortKey}
use Rattle.gx_core.specs.declared.expression.Form.{Form}
use Rattle.gx_core.specs.declared.expression.Form.TheVariants.{Lit, Var, Empty, Seq, For, Let, If, Cast, Castable, Treat}
use Rattle.gx_core.specs.declared.expression.Form.TheVariants.{Step, Nodes, Order, SomeIn, EveryIn, Switch, Nth}
use Rattle.gx_core.specs.declared.expression.Form.TheVariants.{Final, DataOf, NoContext, Call, Neg, Binary, Block, Construct, User}
use Rattle.gx_core.specs.declared.expression.Expr.TheDeep.{deep-Form, deep-Clause, deep-SortKey}
use Rattle.gx_core.specs.Expression.{Expression, expression_size, parts_size, all_parts}
use Rattle.gx_core.specs.ExpressionView.{part_of_key, parts_of_block, parts_of}

most_parts : {A : Type 0} (es : List (Expression A)) → most (λ e. expression_size e + 1) es ≤ 1 + parts_size (all_parts es)
most_parts [] = omega arith
most_parts (e ∷ es) = omega (arith, most_parts es)

most_keys : {A : Type 0} (ks : List (SortKey A)) (a : Expression A)
    → max (most (deep-SortKey A) ks) (expression_size a + 2) ≤ 1 + parts_size (all_parts (map part_of_key ks ++ a ∷ []))
most_keys [] a = omega arith
most_keys (k ∷ ks) a = omega (arith, most_keys ks a)

most_clauses : {A : Type 0} (cs : List (Clause A)) (ks : List (SortKey A)) (a : Expression A)
    → max (most (deep-Clause A) cs) (max (most (deep-SortKey A) ks) (expression_size a + 2))
    ≤ 1 + parts_size (all_parts (parts_of_block cs ks a))
most_clauses [] ks a = omega (arith, most_keys ks a)
most_clauses (clauses.For v p e ∷ cs) ks a = omega (arith, most_clauses cs ks a)
most_clauses (clauses.Let v e ∷ cs) ks a = omega (arith, most_clauses cs ks a)
most_clauses (clauses.Where e ∷ cs) ks a = omega (arith, most_clauses cs ks a)

-- each part of an expression is smaller than the expression
pub parts_are_smaller : {A : Type 0} (f : Form A) → max (deep-Form A f) 0 ≤ 1 + parts_size (parts_of f)
parts_are_smaller (Lit a) = omega arith
parts_are_smaller (Var n) = omega arith
parts_are_smaller Empty = omega arith
parts_are_smaller (Seq a b) = omega arith
parts_are_smaller (For v p a b) = omega arith
parts_are_smaller (Let v a b) = omega arith
parts_are_smaller (If a b c) = omega arith
parts_are_smaller (Cast a kind optional) = omega arith
parts_are_smaller (Castable a kind optional) = omega arith
parts_are_smaller (Treat a kind) = omega arith
parts_are_smaller (Step axis t n) = omega arith
parts_are_smaller (Nodes a) = omega arith
parts_are_smaller (Order a) = omega arith
parts_are_smaller (SomeIn v a b) = omega arith
parts_are_smaller (EveryIn v a b) = omega arith
parts_are_smaller (Switch a cases default es) = omega (arith, most_parts es.items)
parts_are_smaller (Nth a number reverse) = omega arith
parts_are_smaller (Final a reverse) = omega arith
parts_are_smaller (Block cs ks a) = omega (arith, most_clauses cs.items ks.items a.value)
parts_are_smaller (DataOf a) = omega arith
parts_are_smaller NoContext = omega arith
parts_are_smaller (Call function es) = omega (arith, most_parts es.items)
parts_are_smaller (Neg a) = omega arith
parts_are_smaller (Binary o a b) = omega arith
parts_are_smaller (Construct c es) = omega (arith, most_parts es.items)
parts_are_smaller (User signature es) = omega (arith, most_parts es.items)

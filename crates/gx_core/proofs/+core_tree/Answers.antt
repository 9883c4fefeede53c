use Rattle.std.proofs.Common.{rules, arith, ◌≡◌, sym, ap, ◌+◌, ◌*◌, ◌≤◌}
use Rattle.gx_core.specs.declared.expression.Clause.{Clause}
use Rattle.gx_core.specs.declared.expression.Clause.TheVariants as clauses
use Rattle.gx_core.specs.declared.expression.Form.{Form}
use Rattle.gx_core.specs.declared.expression.SortKey.{SortKey}
use Rattle.gx_core.specs.declared.expression.Expr.TheDeep.{size-Expr, size-Clause, size-SortKey}
use Rattle.gx_core.specs.Expression.{Expression, a_part, expression_size, parts_size, all_parts}
use Rattle.gx_core.specs.ExpressionView.{part_of_clause, part_of_key, parts_of, parts_of_block}
use Rattle.gx_core.proofs.CallSizes.{arguments_are_smaller, clauses_are_smaller, keys_are_smaller}
use contract.BorrowLft.{⊑_static, ⊑_meet}
use Rattle.gx_core.proofs.+core_tree.Goals as goal

clause_weight : {A : Type 0} (c : Clause A) → size-Clause A c ≤ 3 * (expression_size (part_of_clause c) + 2) + 2
clause_weight (clauses.For binder position e) = omega arith
clause_weight (clauses.Let binder e) = omega arith
clause_weight (clauses.Where e) = omega arith

key_weight : {A : Type 0} (k : SortKey A) → size-SortKey A k ≤ 3 * (expression_size (part_of_key k) + 2) + 2
key_weight k = omega arith

pub expression::Expr::drop-drop-form-requires-13-3 : goal.expression::Expr::drop-drop-form-requires-13-3
expression::Expr::drop-drop-form-requires-13-3 g t c κs = λ lives.
    let size : 3 * (expression_size c.args.self + 1) + 0 ≡ t = c.decreases in
    let whole : expression_size c.args.self ≡ 1 + parts_size (parts_of c.self.inside.form) = ap expression_size (sym c.self.view_is) in
    let given = c._form-25-1.given in
    let parts : parts_size (parts_of c.self.inside.form) ≡ parts_size (a_part given.0.0.value (all_parts given.0.1.1.1.0.items)) =
    ap (λ (f : Form g.row.K.Denot). parts_size (parts_of f)) given.1 in
    let weight : (e : Expression g.row.K.Denot) → size-Expr g.row.K.Denot e ≤ 3 * (expression_size e + 1) = λ e. omega arith in
    (((omega (arith, arguments_are_smaller (size-Expr g.row.K.Denot) weight given.0.1.1.1.0.items), tt), tt), (search rules, search rules))

pub expression::Expr::drop-drop-form-requires-16 : goal.expression::Expr::drop-drop-form-requires-16
expression::Expr::drop-drop-form-requires-16 g t c κs = λ lives.
    let size : 3 * (expression_size c.args.self + 1) + 0 ≡ t = c.decreases in
    let whole : expression_size c.args.self ≡ 1 + parts_size (parts_of c.self.inside.form) = ap expression_size (sym c.self.view_is) in
    let given = c._form-31-1.given in
    let parts : parts_size (parts_of c.self.inside.form) ≡ parts_size
    (all_parts (parts_of_block given.0.0.items given.0.1.0.items given.0.1.1.0.value)) =
    ap (λ (f : Form g.row.K.Denot). parts_size (parts_of f)) given.1 in
    let clauses = clauses_are_smaller (size-Clause g.row.K.Denot) clause_weight given.0.0.items given.0.1.0.items given.0.1.1.0.value in (
      ((omega (arith, clauses), tt), tt),
      (
        ⊑_meet _ _ _ (⊑_meet _ _ _ lives (⊑_static _)) (⊑_meet _ _ _ (⊑_meet _ _ _ (⊑_meet _ _ _ lives (⊑_static _)) (⊑_static _))
            (⊑_meet _ _ _ (⊑_meet _ _ _ (⊑_meet _ _ _ lives (⊑_static _)) (⊑_static _))
            (⊑_meet _ _ _ (⊑_meet _ _ _ (⊑_meet _ _ _ lives (⊑_static _)) (⊑_static _)) (⊑_static _)))),
        ⊑_static _,
      ),
    )

pub expression::Expr::drop-drop-form-requires-16-2 : goal.expression::Expr::drop-drop-form-requires-16-2
expression::Expr::drop-drop-form-requires-16-2 g t c κs = λ lives.
    let size : 3 * (expression_size c.args.self + 1) + 0 ≡ t = c.decreases in
    let whole : expression_size c.args.self ≡ 1 + parts_size (parts_of c.self.inside.form) = ap expression_size (sym c.self.view_is) in
    let given = c._form-31-1.given in
    let parts : parts_size (parts_of c.self.inside.form) ≡ parts_size
    (all_parts (parts_of_block given.0.0.items given.0.1.0.items given.0.1.1.0.value)) =
    ap (λ (f : Form g.row.K.Denot). parts_size (parts_of f)) given.1 in (
      (
        (omega (arith, keys_are_smaller (size-SortKey g.row.K.Denot) key_weight given.0.0.items given.0.1.0.items given.0.1.1.0.value), tt),
        tt,
      ),
      (⊑_meet _ _ _ (⊑_meet _ _ _ lives (⊑_static _)) (⊑_meet _ _ _ (⊑_meet _ _ _ lives (⊑_static _)) (⊑_static _)), ⊑_static _),
    )

pub expression::Expr::drop-drop-form-requires-18 : goal.expression::Expr::drop-drop-form-requires-18
expression::Expr::drop-drop-form-requires-18 g t c κs = λ lives.
    let size : 3 * (expression_size c.args.self + 1) + 0 ≡ t = c.decreases in
    let whole : expression_size c.args.self ≡ 1 + parts_size (parts_of c.self.inside.form) = ap expression_size (sym c.self.view_is) in
    let given = c._form-35-1.given in
    let parts : parts_size (parts_of c.self.inside.form) ≡ parts_size (all_parts given.0.1.0.items) =
    ap (λ (f : Form g.row.K.Denot). parts_size (parts_of f)) given.1 in
    let weight : (e : Expression g.row.K.Denot) → size-Expr g.row.K.Denot e ≤ 3 * (expression_size e + 1) = λ e. omega arith in
    (((omega (arith, arguments_are_smaller (size-Expr g.row.K.Denot) weight given.0.1.0.items), tt), tt), (search rules, search rules))

pub expression::Expr::drop-drop-form-requires-22 : goal.expression::Expr::drop-drop-form-requires-22
expression::Expr::drop-drop-form-requires-22 g t c κs = λ lives.
    let size : 3 * (expression_size c.args.self + 1) + 0 ≡ t = c.decreases in
    let whole : expression_size c.args.self ≡ 1 + parts_size (parts_of c.self.inside.form) = ap expression_size (sym c.self.view_is) in
    let given = c._form-41-1.given in
    let parts : parts_size (parts_of c.self.inside.form) ≡ parts_size (all_parts given.0.1.0.items) =
    ap (λ (f : Form g.row.K.Denot). parts_size (parts_of f)) given.1 in
    let weight : (e : Expression g.row.K.Denot) → size-Expr g.row.K.Denot e ≤ 3 * (expression_size e + 1) = λ e. omega arith in
    (((omega (arith, arguments_are_smaller (size-Expr g.row.K.Denot) weight given.0.1.0.items), tt), tt), (search rules, search rules))

pub expression::Expr::drop-drop-form-requires-24-2 : goal.expression::Expr::drop-drop-form-requires-24-2
expression::Expr::drop-drop-form-requires-24-2 g t c κs = λ lives.
    let size : 3 * (expression_size c.args.self + 1) + 0 ≡ t = c.decreases in
    let whole : expression_size c.args.self ≡ 1 + parts_size (parts_of c.self.inside.form) = ap expression_size (sym c.self.view_is) in
    let given = c._form-45-1.given in
    let parts : parts_size (parts_of c.self.inside.form) ≡ parts_size (all_parts given.0.1.0.items) =
    ap (λ (f : Form g.row.K.Denot). parts_size (parts_of f)) given.1 in
    let weight : (e : Expression g.row.K.Denot) → size-Expr g.row.K.Denot e ≤ 3 * (expression_size e + 1) = λ e. omega arith in
    (((omega (arith, arguments_are_smaller (size-Expr g.row.K.Denot) weight given.0.1.0.items), tt), tt), (search rules, search rules))

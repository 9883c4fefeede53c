use Rattle.std.proofs.Common.{◌≡◌, drop, ap, sym, ◌∙◌}
use Rattle.std.proofs.lemmas.Result.{err_from_is_err_and}
use Rattle.gx_model.specs.Item.{Items}
use Rattle.gx_core.specs.declared.expression.BinaryClass.{BinaryClass}
use Rattle.gx_core.specs.Outcome.{gives}
use Rattle.gx_core.specs.Meaning.{Context, Bindings, binary_meaning}
use Rattle.gx_joins.specs.JoinedMeaning.{joined_meaning as joined}
use Rattle.gx_store.specs.Items.{items_in}
use Rattle.gx_machine.specs.BoundItems.{hand_items}
use Rattle.gx_machine.specs.Resume.{context_with, items_of, right_meaning}
use Rattle.gx_machine.proofs.Resuming.{right_is, fails_also}
use Rattle.gx_machine.proofs.evaluation.Evaluation.right_at_hand.Goals as goal

pub returns-in_err-of_two-in-Some-clause-failed : goal.returns-in_err-of_two-in-Some-clause-failed
returns-in_err-of_two-in-Some-clause-failed c = λ calls later x.
    let k : Context = context_with c.args.schemas.now calls in
    let forest = c.args.store.now in
    let ys : Items = items_in later c.as_slice.result.now in
    let values : Items = items_in later c.args.self.now.values.items in
    let bindings : Bindings = items_of later c.args.self.now.scope in
    let e : joined k c.args.right.now bindings forest ≡ gives (hand_items later c.in-Some.hand) forest = rw c.in-Some.is at (c.in_ok-hand.ensures calls later x) in
    let o : right_meaning k c.args.operator c.args.first c.args.right.now values bindings forest ≡ binary_meaning c.class.result (items_in later c.values_from-left.result.now) ys forest =
    right_is k forest c.args.operator c.args.right.now values ys c.args.first bindings (e ∙ ap (λ (v : Items). gives v forest) (sym (c.as_slice.ensures later)))
    ∙ ap (λ (class : BinaryClass). binary_meaning class (drop c.args.first values) ys forest) (sym c.class.ensures)
    ∙ ap (λ (xs : Items). binary_meaning c.class.result xs ys forest) (sym (c.values_from-left.ensures later)) in
    let p = err_from_is_err_and c.from_residual-in_err-of_two-in-Some.result c.from_residual-in_err-of_two-in-Some.ensures.1 in
    rw (p.1, p.2) (fails_also _ _ _ o (c.in_err-of_two-in-Some.ensures.failed later x))

pub returns-in_ok-of_two-in-Some-clause-value : goal.returns-in_ok-of_two-in-Some-clause-value
returns-in_ok-of_two-in-Some-clause-value c = λ calls later x.
    let k : Context = context_with c.args.schemas.now calls in
    let forest = c.args.store.now in
    let ys : Items = items_in later c.as_slice.result.now in
    let values : Items = items_in later c.args.self.now.values.items in
    let bindings : Bindings = items_of later c.args.self.now.scope in
    let e : joined k c.args.right.now bindings forest ≡ gives (hand_items later c.in-Some.hand) forest = rw c.in-Some.is at (c.in_ok-hand.ensures calls later x) in
    let o : right_meaning k c.args.operator c.args.first c.args.right.now values bindings forest ≡ binary_meaning c.class.result (items_in later c.values_from-left.result.now) ys forest =
    right_is k forest c.args.operator c.args.right.now values ys c.args.first bindings (e ∙ ap (λ (v : Items). gives v forest) (sym (c.as_slice.ensures later)))
    ∙ ap (λ (class : BinaryClass). binary_meaning class (drop c.args.first values) ys forest) (sym c.class.ensures)
    ∙ ap (λ (xs : Items). binary_meaning c.class.result xs ys forest) (sym (c.values_from-left.ensures later)) in
    o ∙ c.in_ok-of_two-in-Some.ensures.value later x

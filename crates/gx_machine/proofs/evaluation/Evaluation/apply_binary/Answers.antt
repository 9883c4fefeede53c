use Rattle.std.proofs.Common.{◌≡◌, ◌++◌, drop, take, ap, sym, ◌∙◌}
use Rattle.std.proofs.lemmas.Result.{err_from_is_err_and}
use Rattle.gx_model.specs.Item.{Items}
use Rattle.gx_core.specs.BinaryOperators.{class_of}
use Rattle.gx_core.specs.declared.expression.BinaryClass.{BinaryClass}
use Rattle.gx_core.specs.Meaning.{Bindings, binary_meaning}
use Rattle.gx_store.specs.Items.{items_in}
use Rattle.gx_machine.specs.Answering.{answer_items}
use Rattle.gx_machine.specs.Resume.{Stacks, resume, items_of, stacks_of}
use Rattle.gx_machine.proofs.Resuming.{fails_also, binary_applies, binary_fails}
use Rattle.gx_machine.proofs.evaluation.Evaluation.apply_binary.Goals as goal

pub returns-in_err-answer-clause-failed : goal.returns-in_err-answer-clause-failed
returns-in_err-answer-clause-failed c = λ k later x.
    let forest = c.args.store.now in
    let values : Items = items_in later c.args.self.now.values.items in
    let left : items_in later c.cut_at-2.result.1.now ≡ drop c.args.first (take c.args.second values) =
    c.cut_at-2.ensures.rest later ∙ ap (drop c.args.first) (c.cut_at.ensures.front later ∙ ap (λ xs. take c.args.second (items_in later xs)) c.as_slice.ensures.value) in
    let right : items_in later c.cut_at.result.1.now ≡ drop c.args.second values = c.cut_at.ensures.rest later ∙ ap (λ xs. drop c.args.second (items_in later xs)) c.as_slice.ensures.value in
    let same : binary_meaning (class_of c.args.operator) (drop c.args.first (take c.args.second values)) (drop c.args.second values) forest
    ≡ binary_meaning c.class.result (items_in later c.cut_at-2.result.1.now) (items_in later c.cut_at.result.1.now) forest =
    ap (λ (class : BinaryClass). binary_meaning class (drop c.args.first (take c.args.second values)) (drop c.args.second values) forest) (sym c.class.ensures)
    ∙ ap (λ (xs : Items). binary_meaning c.class.result xs (drop c.args.second values) forest) (sym left)
    ∙ ap (λ (ys : Items). binary_meaning c.class.result (items_in later c.cut_at-2.result.1.now) ys forest) (sym right) in
    let p = err_from_is_err_and c.from_residual.result c.from_residual.ensures.1 in
    rw (p.1, p.2)
    (binary_fails k forest c.args.operator c.args.self.now.work values c.args.first c.args.second (stacks_of later c.args.self.now) (items_of later c.args.self.now.scope) _
    (fails_also _ _ _ same (c.in_err-answer.ensures.failed later x)))

pub returns-clause-value : goal.returns-clause-value
returns-clause-value c = λ k later x.
    let forest = c.args.store.now in
    let values : Items = items_in later c.args.self.now.values.items in
    let answer : Items = answer_items later c.in_ok-answer.answer in
    let stacks : Stacks = stacks_of later c.args.self.now in
    let bindings : Bindings = items_of later c.args.self.now.scope in
    let left : items_in later c.cut_at-2.result.1.now ≡ drop c.args.first (take c.args.second values) =
    c.cut_at-2.ensures.rest later ∙ ap (drop c.args.first) (c.cut_at.ensures.front later ∙ ap (λ xs. take c.args.second (items_in later xs)) c.as_slice.ensures.value) in
    let right : items_in later c.cut_at.result.1.now ≡ drop c.args.second values = c.cut_at.ensures.rest later ∙ ap (λ xs. drop c.args.second (items_in later xs)) c.as_slice.ensures.value in
    ap (λ (v : Items). resume k c.args.self.now.work v stacks bindings forest)
    (c.in_ok-put.ensures later ∙ ap (λ (v : Items). v ++ answer) (c.cut_off-2.ensures later ∙ ap (take c.args.first) (c.cut_off.ensures later)))
    ∙ binary_applies k forest c.args.operator c.args.self.now.work values answer c.args.first c.args.second stacks bindings
    (ap (λ (class : BinaryClass). binary_meaning class (drop c.args.first (take c.args.second values)) (drop c.args.second values) forest) (sym c.class.ensures)
    ∙ ap (λ (xs : Items). binary_meaning c.class.result xs (drop c.args.second values) forest) (sym left)
    ∙ ap (λ (ys : Items). binary_meaning c.class.result (items_in later c.cut_at-2.result.1.now) ys forest) (sym right)
    ∙ c.in_ok-answer.ensures.value later x)

use Rattle.std.proofs.Common.{◌≡◌, ◌∷◌, [], ◌++◌, ap, sym, subst, ◌∙◌}
use Rattle.std.proofs.lemmas.Result.{err_from_is_err_and}
use Rattle.gx_model.specs.Item.{Items}
use Rattle.gx_core.specs.Meaning.{Context, Bindings, acts}
use Rattle.gx_core.specs.Outcome.{gives}
use Rattle.gx_store.specs.Items.{items_in}
use Rattle.gx_machine.specs.Answering.{answer_items}
use Rattle.gx_machine.specs.Operators.{single_operator}
use Rattle.gx_machine.specs.Resume.{Stacks, context_with, resume, items_of, stacks_of}
use Rattle.gx_machine.proofs.Resuming.{fails_also, single_applies, single_fails}
use Rattle.gx_machine.proofs.evaluation.Evaluation.apply_single.Goals as goal

pub returns-in_err-answer-clause-failed : goal.returns-in_err-answer-clause-failed
returns-in_err-answer-clause-failed c = λ calls later x.
    let k : Context = context_with c.args.schemas.now calls in
    let forest = c.args.store.now in
    let p = err_from_is_err_and c.from_residual.result c.from_residual.ensures.1 in
    rw (p.1, p.2)
    (single_fails k forest c.args.operator c.args.self.now.work (items_in later c.args.self.now.values.items) c.args.first (stacks_of later c.args.self.now) (items_of later c.args.self.now.scope) _
    (fails_also _ _ _ (ap (λ (v : Items). acts k (single_operator c.args.operator) (v ∷ []) forest) (sym (c.values_from-operand.ensures later))) (c.in_err-answer.ensures.failed calls later x)))

pub returns-clause-value : goal.returns-clause-value
returns-clause-value c = λ calls later x.
    let k : Context = context_with c.args.schemas.now calls in
    let forest = c.args.store.now in
    let values : Items = items_in later c.args.self.now.values.items in
    let answer : Items = answer_items later c.in_ok-answer.answer in
    let stacks : Stacks = stacks_of later c.args.self.now in
    let bindings : Bindings = items_of later c.args.self.now.scope in
    ap (λ (v : Items). resume k c.args.self.now.work v stacks bindings forest) (c.in_ok-put.ensures later ∙ ap (λ (v : Items). v ++ answer) (c.cut_off.ensures later))
    ∙ single_applies k forest c.args.operator c.args.self.now.work values answer c.args.first stacks bindings
    (subst (λ (v : Items). acts k (single_operator c.args.operator) (v ∷ []) forest ≡ gives answer forest) (c.values_from-operand.ensures later) (c.in_ok-answer.ensures.value calls later x))

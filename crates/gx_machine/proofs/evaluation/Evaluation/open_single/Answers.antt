use Rattle.std.proofs.Common.{◌≡◌, [], ◌∷◌, List, ap, ◌∙◌}
use Rattle.gx_model.specs.Item.{Items}
use Rattle.gx_core.specs.Outcome.{gives}
use Rattle.gx_core.specs.Meaning.{Context, Bindings, denoted}
use Rattle.gx_joins.specs.JoinedMeaning.{joined_meaning as joined}
use Rattle.gx_store.specs.Items.{items_in}
use Rattle.gx_machine.specs.Answering.{answer_items}
use Rattle.gx_machine.specs.Operators.{single_operator}
use Rattle.gx_machine.specs.declared.evaluation.Pending.{Pending}
use Rattle.gx_machine.specs.declared.evaluation.Pending.TheVariants.{Evaluate}
use Rattle.gx_machine.specs.Resume.{context_with, resume, items_of, stacks_of}
use Rattle.gx_machine.proofs.Resuming.{answer_behind, single_opens}
use Rattle.gx_machine.proofs.evaluation.Evaluation.open_single.Goals as goal

pub returns-in-Some-clause-value : goal.returns-in-Some-clause-value
returns-in-Some-clause-value c = λ calls later x.
    let k : Context = context_with c.args.schemas.now calls in
    let forest = c.args.store.now in
    let bindings : Bindings = items_of later c.args.self.now.scope in
    let e : denoted k (single_operator c.args.operator) (joined k c.args.operand.now ∷ []) bindings forest ≡ gives (answer_items later c.in-Some.answer) forest = rw c.in-Some.is at (c.in_ok-answer.ensures.value calls later x) in
    ap (λ (v : Items). resume k c.args.self.now.work v (stacks_of later c.args.self.now) bindings forest) (c.in_ok-put.ensures later)
    ∙ answer_behind (denoted k (single_operator c.args.operator) (joined k c.args.operand.now ∷ []) bindings forest) forest (items_in later c.args.self.now.values.items) (answer_items later c.in-Some.answer)
    (λ vs left. resume k c.args.self.now.work vs (stacks_of later c.args.self.now) bindings left) e

pub returns-clause-value : goal.returns-clause-value
returns-clause-value c = λ calls later x.
    let k : Context = context_with c.args.schemas.now calls in
    let values : Items = items_in later c.args.self.now.values.items in
    let bindings : Bindings = items_of later c.args.self.now.scope in
    ap (λ (work : List Pending). resume k work values (stacks_of later c.args.self.now) bindings c.args.store.now) (c.in_ok-push-2.ensures.ok ∙ ap (λ (work : List Pending). Evaluate c.args.operand ∷ work) c.in_ok-push.ensures.ok)
    ∙ single_opens k c.args.store.now c.args.operator (joined k c.args.operand.now) c.args.self.now.work values c.count_of-first.result (stacks_of later c.args.self.now) bindings (c.count_of-first.ensures later)

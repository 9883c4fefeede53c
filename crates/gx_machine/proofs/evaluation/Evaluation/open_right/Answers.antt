use Rattle.std.proofs.Common.{◌≡◌, ◌++◌, ◌∷◌, List, ap, ◌∙◌}
use Rattle.gx_model.specs.Item.{Items}
use Rattle.gx_core.specs.Meaning.{Context, Bindings}
use Rattle.gx_core.specs.Outcome.{gives}
use Rattle.gx_store.specs.Items.{items_in}
use Rattle.gx_machine.specs.Answering.{answer_items}
use Rattle.gx_machine.specs.declared.evaluation.Pending.{Pending}
use Rattle.gx_machine.specs.declared.evaluation.Pending.TheVariants.{Evaluate}
use Rattle.gx_machine.specs.Resume.{context_with, resume, right_meaning, items_of, stacks_of}
use Rattle.gx_machine.proofs.Resuming.{right_at_once, right_opens}
use Rattle.gx_machine.proofs.evaluation.Evaluation.open_right.Goals as goal

pub returns-in-Some-clause-value : goal.returns-in-Some-clause-value
returns-in-Some-clause-value c = λ calls later x.
    let k : Context = context_with c.args.schemas.now calls in
    let forest = c.args.store.now in
    let values : Items = items_in later c.args.self.now.values.items in
    let answer : Items = answer_items later c.in-Some.answer in
    let bindings : Bindings = items_of later c.args.self.now.scope in
    let e : right_meaning k c.args.operator c.args.first c.args.right.now values bindings forest ≡ gives answer forest = rw c.in-Some.is at (c.in_ok-answer.ensures.value calls later x) in
    ap (λ (v : Items). resume k c.args.self.now.work v (stacks_of later c.args.self.now) bindings forest) (c.in_ok-put.ensures later ∙ ap (λ (v : Items). v ++ answer) (c.cut_off.ensures later))
    ∙ right_at_once k forest c.args.operator c.args.right.now c.args.self.now.work values answer c.args.first (stacks_of later c.args.self.now) bindings e

pub returns-clause-value : goal.returns-clause-value
returns-clause-value c = λ calls later x.
    let k : Context = context_with c.args.schemas.now calls in
    let forest = c.args.store.now in
    let values : Items = items_in later c.args.self.now.values.items in
    let bindings : Bindings = items_of later c.args.self.now.scope in
    ap (λ (work : List Pending). resume k work values (stacks_of later c.args.self.now) bindings forest) (c.in_ok-push-2.ensures.ok ∙ ap (λ (work : List Pending). Evaluate c.args.right ∷ work) c.in_ok-push.ensures.ok)
    ∙ right_opens k forest c.args.operator c.args.right.now c.args.self.now.work values c.args.first c.count_of-second.result (stacks_of later c.args.self.now) bindings (c.count_of-second.ensures later)

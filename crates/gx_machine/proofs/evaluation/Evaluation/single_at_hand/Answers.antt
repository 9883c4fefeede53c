use Rattle.std.proofs.Common.{◌≡◌, ap, sym, ◌∙◌}
use Rattle.std.proofs.lemmas.Result.{err_from_is_err_and}
use Rattle.gx_model.specs.Item.{Items}
use Rattle.gx_core.specs.Outcome.{gives}
use Rattle.gx_core.specs.Meaning.{Context}
use Rattle.gx_joins.specs.JoinedMeaning.{joined_meaning as joined}
use Rattle.gx_store.specs.Items.{items_in}
use Rattle.gx_machine.specs.Answering.{answer_items}
use Rattle.gx_machine.specs.BoundItems.{hand_items}
use Rattle.gx_machine.specs.Resume.{context_with, items_of}
use Rattle.gx_machine.proofs.Resuming.{one_at_hand, one_fails_at_hand}
use Rattle.gx_machine.proofs.evaluation.Evaluation.single_at_hand.Goals as goal

pub returns-in_err-of_one-in-Some-clause-failed : goal.returns-in_err-of_one-in-Some-clause-failed
returns-in_err-of_one-in-Some-clause-failed c = λ calls later x.
    let k : Context = context_with c.args.schemas.now calls in
    let forest = c.args.store.now in
    let e : joined k c.args.operand.now (items_of later c.args.self.now.scope) forest ≡ gives (hand_items later c.in-Some.hand) forest = rw c.in-Some.is at (c.in_ok-hand.ensures calls later x) in
    let p = err_from_is_err_and c.from_residual-in_err-of_one-in-Some.result c.from_residual-in_err-of_one-in-Some.ensures.1 in
    rw (p.1, p.2)
    (one_fails_at_hand k c.args.operator (joined k c.args.operand.now) (items_of later c.args.self.now.scope) forest (items_in later c.as_slice.result.now) _
    (e ∙ ap (λ (v : Items). gives v forest) (sym (c.as_slice.ensures later))) (c.in_err-of_one-in-Some.ensures.failed calls later x))

pub returns-in_ok-of_one-in-Some-clause-value : goal.returns-in_ok-of_one-in-Some-clause-value
returns-in_ok-of_one-in-Some-clause-value c = λ calls later x.
    let k : Context = context_with c.args.schemas.now calls in
    let forest = c.args.store.now in
    let e : joined k c.args.operand.now (items_of later c.args.self.now.scope) forest ≡ gives (hand_items later c.in-Some.hand) forest = rw c.in-Some.is at (c.in_ok-hand.ensures calls later x) in
    one_at_hand k c.args.operator (joined k c.args.operand.now) (items_of later c.args.self.now.scope) forest (items_in later c.as_slice.result.now) (answer_items later c.in_ok-of_one-in-Some.field-0)
    (e ∙ ap (λ (v : Items). gives v forest) (sym (c.as_slice.ensures later))) (c.in_ok-of_one-in-Some.ensures.value calls later x)

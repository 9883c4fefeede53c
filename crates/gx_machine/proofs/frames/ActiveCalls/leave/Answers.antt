use Rattle.std.proofs.Common.{◌≡◌, ◌++◌, ap, sym, ◌∙◌}
use Rattle.std.proofs.lemmas.Result.{err_from_is_err_and}
use Rattle.gx_model.specs.Item.{Items}
use Rattle.gx_core.specs.Converting.{converted}
use Rattle.gx_joins.specs.JoinedMeaning.{joined_context}
use Rattle.gx_core.specs.Meaning.{Context}
use Rattle.gx_core.specs.Outcome.{Outcome}
use Rattle.gx_store.specs.Items.{items_in}
use Rattle.gx_machine.specs.declared.evaluation.Evaluation.{Evaluation}
use Rattle.gx_machine.specs.Frames.{frames_resumed}
use Rattle.gx_machine.specs.Resume.{resume, items_of, stacks_of, outcome_behind}
use Rattle.gx_machine.proofs.CallFrames.{frames_fail}
use Rattle.gx_machine.proofs.Resuming.{fails_through, fails_also}
use Rattle.gx_machine.proofs.frames.ActiveCalls.leave.Goals as goal

pub returns-in_err-found-clause-failed : goal.returns-in_err-found-clause-failed
returns-in_err-found-clause-failed c = λ functions globals later x.
    let s = c.args.schemas.now in
    let store = c.args.store.now in
    let called : items_in later c.values_of-value.result.items ≡ items_in later c.args.self.now.innermost.values.items =
    ap (items_in later) c.values_of-value.ensures ∙ ap (λ (e : Evaluation). items_in later e.values.items) c.replace-called.ensures.value in
    let p = err_from_is_err_and c.from_residual.result c.from_residual.ensures.1 in
    rw (p.1, p.2)
    (frames_fail s functions globals later c.args.self.now.waiting _ _
    (fails_through (converted s c.args.frame.result.now (items_in later c.args.self.now.innermost.values.items) store) _ _
    (fails_also _ _ _ (ap (λ (v : Items). converted s c.args.frame.result.now v store) (sym called)) (c.in_err-found.ensures.failed later x))))

pub returns-clause-value : goal.returns-clause-value
returns-clause-value c = λ functions globals later x.
    let s = c.args.schemas.now in
    let store = c.args.store.now in
    let frame = c.args.frame in
    let k : Context = joined_context s functions globals frame.left in
    let now = c.replace-called.new.dest in
    let found : Items = items_in later c.in_ok-found.found.items in
    let called : items_in later c.values_of-value.result.items ≡ items_in later c.args.self.now.innermost.values.items =
    ap (items_in later) c.values_of-value.ensures ∙ ap (λ (e : Evaluation). items_in later e.values.items) c.replace-called.ensures.value in
    let whole : Outcome Items → Outcome Items = frames_resumed s functions globals later c.args.self.now.waiting in
    ap (λ (v : Items). whole (resume k now.work v (stacks_of later now) (items_of later now.scope) store)) (c.in_ok-move_behind.ensures later)
    ∙ ap (λ (e : Evaluation). whole (resume k e.work (items_in later e.values.items ++ found) (stacks_of later e) (items_of later e.scope) store)) c.replace-called.ensures.after
    ∙ ap (λ (o : Outcome Items). whole (outcome_behind k later o frame.evaluation)) (sym (c.in_ok-found.ensures.value later x))
    ∙ ap (λ (v : Items). whole (outcome_behind k later (converted s frame.result.now v store) frame.evaluation)) called

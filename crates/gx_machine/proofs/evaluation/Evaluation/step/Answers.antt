use Rattle.std.proofs.Common.{◌∷◌, ℕ, List, inr, sym, ap, ◌∙◌}
use Rattle.std.proofs.lemmas.List.{drop-map}
use Rattle.gx_model.specs.Item.{Items}
use Rattle.gx_core.specs.Outcome.{Outcome}
use Rattle.gx_core.specs.Meaning.{Bindings}
use Rattle.gx_store.specs.Items.{items_in}
use Rattle.gx_machine.specs.declared.bound.Bound.{Bound}
use Rattle.gx_machine.specs.BoundItems.{bound_items}
use Rattle.gx_machine.specs.Resume.{context_with, resume, with_marks, items_of, stacks_of}
use Rattle.gx_machine.proofs.evaluation.Evaluation.step.Goals as goal

pub returns-in-Evaluate-clause-value : goal.returns-in-Evaluate-clause-value
returns-in-Evaluate-clause-value g c = λ calls later x. rw c.in-Evaluate.is (c.open.ensures.value calls later x)

pub returns-in-Evaluate-clause-failed : goal.returns-in-Evaluate-clause-failed
returns-in-Evaluate-clause-failed g c = λ calls later x. rw c.in-Evaluate.is (c.open.ensures.failed calls later x)

pub returns-in-Change-clause-value : goal.returns-in-Change-clause-value
returns-in-Change-clause-value g c = λ calls later x. rw c.in-Change.is (c.apply_change.ensures.value calls later x)

pub returns-in-Change-clause-failed : goal.returns-in-Change-clause-failed
returns-in-Change-clause-failed g c = λ calls later x. rw c.in-Change.is (c.apply_change.ensures.failed calls later x)

pub returns-in-Steps-clause-value : goal.returns-in-Steps-clause-value
returns-in-Steps-clause-value g c = λ calls later x. rw c.in-Steps.is (c.apply_steps.ensures.value calls later x)

pub returns-in-Steps-clause-failed : goal.returns-in-Steps-clause-failed
returns-in-Steps-clause-failed g c = λ calls later x. rw c.in-Steps.is (c.apply_steps.ensures.failed calls later x)

pub returns-in-Single-clause-value : goal.returns-in-Single-clause-value
returns-in-Single-clause-value g c = λ calls later x. rw c.in-Single.is (c.apply_single.ensures.value calls later x)

pub returns-in-Single-clause-failed : goal.returns-in-Single-clause-failed
returns-in-Single-clause-failed g c = λ calls later x. rw c.in-Single.is (c.apply_single.ensures.failed calls later x)

pub returns-in-Right-clause-value : goal.returns-in-Right-clause-value
returns-in-Right-clause-value g c = λ calls later x. rw c.in-Right.is (c.open_right.ensures.value calls later x)

pub returns-in-Right-clause-failed : goal.returns-in-Right-clause-failed
returns-in-Right-clause-failed g c = λ calls later x. rw c.in-Right.is (c.open_right.ensures.failed calls later x)

pub returns-in-Binary-clause-value : goal.returns-in-Binary-clause-value
returns-in-Binary-clause-value g c = λ calls later x. rw c.in-Binary.is (c.apply_binary.ensures.value (context_with c.args.schemas.now calls) later x)

pub returns-in-Binary-clause-failed : goal.returns-in-Binary-clause-failed
returns-in-Binary-clause-failed g c = λ calls later x. rw c.in-Binary.is (c.apply_binary.ensures.failed (context_with c.args.schemas.now calls) later x)

pub returns-in-Choose-clause-value : goal.returns-in-Choose-clause-value
returns-in-Choose-clause-value g c = λ calls later x. rw c.in-Choose.is (c.choose.ensures.value (context_with c.args.schemas.now calls) c.args.store.now later)

pub returns-in-Choose-clause-failed : goal.returns-in-Choose-clause-failed
returns-in-Choose-clause-failed g c = λ calls later x. rw c.in-Choose.is (c.choose.ensures.failed (context_with c.args.schemas.now calls) c.args.store.now later)

pub returns-in-Call-clause-value : goal.returns-in-Call-clause-value
returns-in-Call-clause-value g c = λ calls later x. rw c.in-Call.is (c.apply_call.ensures.value calls later x)

pub returns-in-Call-clause-failed : goal.returns-in-Call-clause-failed
returns-in-Call-clause-failed g c = λ calls later x. rw c.in-Call.is (c.apply_call.ensures.failed calls later x)

pub returns-in-Construct-clause-grows : goal.returns-in-Construct-clause-grows
returns-in-Construct-clause-grows g c = inr c.construct.ensures.grows

pub returns-in-Construct-clause-value : goal.returns-in-Construct-clause-value
returns-in-Construct-clause-value g c = λ calls later x. rw c.in-Construct.is (c.construct.ensures.value calls later x)

pub returns-in-Construct-clause-failed : goal.returns-in-Construct-clause-failed
returns-in-Construct-clause-failed g c = λ calls later x. rw c.in-Construct.is (c.construct.ensures.failed calls later x)

pub returns-in_ok-gather-in-Gather-clause-value : goal.returns-in_ok-gather-in-Gather-clause-value
returns-in_ok-gather-in-Gather-clause-value g c = λ calls later x. rw c.in-Gather.is (c.in_ok-gather-in-Gather.ensures (context_with c.args.schemas.now calls) c.args.store.now later)

pub returns-in_ok-repeat-in-Each-clause-value : goal.returns-in_ok-repeat-in-Each-clause-value
returns-in_ok-repeat-in-Each-clause-value g c = λ calls later x. rw c.in-Each.is (c.in_ok-repeat-in-Each.ensures (context_with c.args.schemas.now calls) c.args.store.now later)

pub returns-in_ok-bind-in-Bind-clause-value : goal.returns-in_ok-bind-in-Bind-clause-value
returns-in_ok-bind-in-Bind-clause-value g c = λ calls later x. rw c.in-Bind.is (c.in_ok-bind-in-Bind.ensures (context_with c.args.schemas.now calls) c.args.store.now later)

pub returns-in_ok-push-in-Mark-clause-value : goal.returns-in_ok-push-in-Mark-clause-value
returns-in_ok-push-in-Mark-clause-value g c = λ calls later x.
    rw c.in-Mark.is
    (ap (λ (marks : List ℕ). resume (context_with c.args.schemas.now calls) c.args.self.now.work (items_in later c.args.self.now.values.items) (with_marks (stacks_of later c.args.self.now) marks) (items_of later c.args.self.now.scope) c.args.store.now)
    (c.in_ok-push-in-Mark.ensures.ok ∙ ap (λ (n : ℕ). n ∷ c.args.self.now.marks) (c.count_of.ensures later)))

pub returns-in-Decide-clause-value : goal.returns-in-Decide-clause-value
returns-in-Decide-clause-value g c = λ calls later x. rw c.in-Decide.is (c.decide.ensures.value (context_with c.args.schemas.now calls) c.args.store.now later)

pub returns-in-Decide-clause-failed : goal.returns-in-Decide-clause-failed
returns-in-Decide-clause-failed g c = λ calls later x. rw c.in-Decide.is (c.decide.ensures.failed (context_with c.args.schemas.now calls) c.args.store.now later)

pub returns-in-Switch-clause-value : goal.returns-in-Switch-clause-value
returns-in-Switch-clause-value g c = λ calls later x. rw c.in-Switch.is (c.switch.ensures.value calls later x)

pub returns-in-Switch-clause-failed : goal.returns-in-Switch-clause-failed
returns-in-Switch-clause-failed g c = λ calls later x. rw c.in-Switch.is (c.switch.ensures.failed calls later x)

pub returns-in-Block-clause-value : goal.returns-in-Block-clause-value
returns-in-Block-clause-value g c = λ calls later x. rw c.in-Block.is (c.step_block.ensures.value (context_with c.args.schemas.now calls) c.args.store.now later)

pub returns-in-Block-clause-failed : goal.returns-in-Block-clause-failed
returns-in-Block-clause-failed g c = λ calls later x. rw c.in-Block.is (c.step_block.ensures.failed (context_with c.args.schemas.now calls) c.args.store.now later)

pub returns-in-Join-clause-value : goal.returns-in-Join-clause-value
returns-in-Join-clause-value g c = λ calls later x. rw c.in-Join.is (c.step_join.ensures.value (context_with c.args.schemas.now calls) c.args.store.now later)

pub returns-in-Join-clause-failed : goal.returns-in-Join-clause-failed
returns-in-Join-clause-failed g c = λ calls later x. rw c.in-Join.is (c.step_join.ensures.failed (context_with c.args.schemas.now calls) c.args.store.now later)

pub returns-in_ok-unbind_innermost-in-Unbind-clause-value : goal.returns-in_ok-unbind_innermost-in-Unbind-clause-value
returns-in_ok-unbind_innermost-in-Unbind-clause-value g c = λ calls later x.
    let values : Items = items_in later c.args.self.now.values.items in
    let run : Bindings → Outcome Items = λ bindings. resume (context_with c.args.schemas.now calls) c.args.self.now.work values (stacks_of later c.args.self.now) bindings c.args.store.now in
    rw c.in-Unbind.is
    (ap (λ scope. run (items_of later scope)) c.in_ok-unbind_innermost-in-Unbind.ensures ∙ ap run (sym (drop-map (λ (binding : ℕ × Bound). (binding.0, bound_items later binding.1)) c.in-Unbind.count c.args.self.now.scope)))

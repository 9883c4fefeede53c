use Rattle.std.proofs.Common.{◌≡◌, ◌++◌, ℕ, List, ap, ◌∙◌}
use Rattle.gx_model.specs.Item.{Items}
use Rattle.gx_core.specs.declared.expression.Binder.{Binder}
use Rattle.gx_core.specs.Converting.{converted}
use Rattle.gx_core.specs.Functions.{arguments_bound}
use Rattle.gx_joins.specs.JoinedMeaning.{joined_context, joined_meaning as joined}
use Rattle.gx_core.specs.Meaning.{Bindings, Context}
use Rattle.gx_core.specs.Outcome.{Outcome, after}
use Rattle.gx_machine.specs.declared.bound.Bound.{Bound}
use Rattle.gx_machine.specs.declared.evaluation.Evaluation.{Evaluation}
use Rattle.gx_machine.specs.declared.frames.Frame.{Frame}
use Rattle.gx_machine.specs.BoundItems.{bounds_in}
use Rattle.gx_machine.specs.Frames.{frames_resumed}
use Rattle.gx_machine.specs.Resume.{items_of, outcome_of, outcome_behind}
use Rattle.gx_machine.proofs.frames.ActiveCalls.open_body.Goals as goal

pub returns : goal.returns
returns c = λ schemas functions forest later.
    let bound : Bindings = items_of later c.args.globals.now in
    let values : List Items = bounds_in later c.args.arguments.items in
    let f = c.args.function.now in
    let active = c.args.self.now in
    let k : Context = joined_context schemas functions bound c.args.left in
    let value : Outcome Items = joined k f.body (arguments_bound f.parameters values ++ bound) forest in
    let scope : items_of later c.bind_arguments.new.scope ≡ arguments_bound f.parameters values ++ bound =
    c.in_ok-bind_arguments.ensures later
    ∙ ap (λ (ps : List Binder). arguments_bound ps values ++ items_of later c.new-scope.result) c.as_slice.ensures
    ∙ ap (λ (bs : List (ℕ × Bound)). arguments_bound f.parameters values ++ items_of later bs) c.new-scope.ensures in
    ap (λ (left : ℕ). frames_resumed schemas functions bound later c.push.new.self (outcome_of (joined_context schemas functions bound left) forest later c.replace-caller.new.dest)) c.replace.ensures.after
    ∙ ap (λ (body : Evaluation). frames_resumed schemas functions bound later c.push.new.self (outcome_of k forest later body)) c.replace-caller.ensures.after
    ∙ ap (frames_resumed schemas functions bound later c.push.new.self) (c.in_ok-body.ensures k forest later ∙ ap (λ (bs : Bindings). joined k f.body bs forest) scope)
    ∙ ap (λ (frames : List Frame). frames_resumed schemas functions bound later frames value) c.in_ok-push.ensures.ok
    ∙ ap (λ (caller : Evaluation). frames_resumed schemas functions bound later active.waiting
    (outcome_behind (joined_context schemas functions bound c.replace.result) later (after value (λ xs now. converted schemas f.result xs now)) caller)) c.replace-caller.ensures.value
    ∙ ap (λ (left : ℕ). frames_resumed schemas functions bound later active.waiting
    (outcome_behind (joined_context schemas functions bound left) later (after value (λ xs now. converted schemas f.result xs now)) active.innermost)) c.replace.ensures.value

use Rattle.std.proofs.Common.{◌∷◌, [], List, sym, ap}
use Rattle.std.proofs.lemmas.Result.{IfOk-equal}
use Rattle.gx_model.specs.Item.{Items}
use Rattle.gx_core.specs.declared.operator.Operator.TheVariants as operators
use Rattle.gx_core.specs.Meaning.{Bindings, Denotation, denoted}
use Rattle.gx_joins.specs.JoinedMeaning.{joined_meaning as joined}
use Rattle.gx_core.specs.Outcome.{Outcome}
use Rattle.gx_store.specs.Items.{items_in}
use Rattle.gx_machine.specs.declared.evaluation.Pending.{Pending}
use Rattle.gx_machine.specs.declared.evaluation.Pending.TheVariants.{Gather}
use Rattle.gx_machine.specs.declared.looping.Loop.{Loop}
use Rattle.gx_machine.specs.declared.looping.Loop.TheVariants.{For}
use Rattle.gx_machine.specs.StepLoops.{steps_meaning}
use Rattle.gx_machine.specs.Resume.{Stacks, outcome_of, outcome_then, outcome_behind, items_of, stacks_of}
use Rattle.gx_machine.proofs.Resuming.{loop_opens_at}
use Rattle.gx_machine.proofs.evaluation.Evaluation.open_loop.Goals as goal

pub returns-in-Some : goal.returns-in-Some
returns-in-Some c = λ k forest later.
    let bindings : Bindings = items_of later c.args.self.now.scope in
    let behind : Denotation → Outcome Items = λ d. outcome_behind k later (d bindings forest) c.args.self.now in
    let whole : Denotation = denoted k (operators.For c.args.binder.now c.args.position) (joined k c.args.source.now ∷ joined k c.args.body.now ∷ []) in
    IfOk-equal c.open_steps.result (outcome_of k forest later c.open_steps.new.self) (behind (steps_meaning k c.in-Some.steps)) (behind whole) (c.open_steps.ensures k forest later) (ap behind (sym (c.in-Some.ensures.alone k)))

pub returns : goal.returns
returns c = λ k forest later.
    let work : List Pending = c.args.self.now.work in
    let values : Items = items_in later c.args.self.now.values.items in
    let stacks : Stacks = stacks_of later c.args.self.now in
    let bindings : Bindings = items_of later c.args.self.now.scope in
    let repeated : Loop = For c.args.binder.now.variable c.args.position 1 in
    let whole : Denotation = denoted k (operators.For c.args.binder.now c.args.position) (joined k c.args.source.now ∷ joined k c.args.body.now ∷ []) in
    IfOk-equal c.open_part.result (outcome_of k forest later c.open_part.new.self) (outcome_then k forest later c.args.source.now (Gather repeated c.count_of-first.result c.args.body) c.args.self.now)
    (outcome_behind k later (whole bindings forest) c.args.self.now) (c.open_part.ensures k forest later)
    (loop_opens_at k forest repeated (joined k c.args.source.now) (joined k c.args.body.now) work values c.count_of-first.result stacks bindings (c.count_of-first.ensures later))

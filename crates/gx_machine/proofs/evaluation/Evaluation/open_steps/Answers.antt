use Rattle.std.proofs.lemmas.Result.{IfOk-equal}
use Rattle.gx_model.specs.Item.{Items}
use Rattle.gx_core.specs.Meaning.{Bindings}
use Rattle.gx_joins.specs.JoinedMeaning.{joined_meaning as joined}
use Rattle.gx_core.specs.Outcome.{Outcome}
use Rattle.gx_store.specs.Items.{items_in}
use Rattle.gx_machine.specs.declared.evaluation.Pending.TheVariants.{Steps}
use Rattle.gx_machine.specs.StepLoops.{steps_meaning}
use Rattle.gx_machine.specs.Resume.{Stacks, resume, outcome_of, outcome_then, outcome_behind, items_of, stacks_of}
use Rattle.gx_machine.proofs.ManySteps.{steps_open}
use Rattle.gx_machine.proofs.evaluation.Evaluation.open_steps.Goals as goal

pub returns : goal.returns
returns c = λ k forest later.
    let values : Items = items_in later c.args.self.now.values.items in
    let stacks : Stacks = stacks_of later c.args.self.now in
    let bindings : Bindings = items_of later c.args.self.now.scope in
    let steps = c.args.steps in
    let done : Outcome Items = outcome_of k forest later c.open_part.new.self in
    IfOk-equal c.open_part.result done (outcome_then k forest later steps.source.now (Steps steps.axis steps.test c.count_of-first.result) c.args.self.now) (outcome_behind k later (steps_meaning k steps bindings forest) c.args.self.now)
    (c.open_part.ensures k forest later)
    (steps_open k steps.binder.now steps.axis steps.test.now (joined k steps.source.now) values c.count_of-first.result bindings forest (λ vs left. resume k c.args.self.now.work vs stacks bindings left) (c.count_of-first.ensures later))

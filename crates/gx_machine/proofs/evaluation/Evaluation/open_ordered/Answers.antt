use Rattle.std.proofs.Common.{◌++◌, ◌∷◌, List, sym, ap, ◌∙◌}
use Rattle.std.proofs.lemmas.Result.{IfOk-equal, IfOk-weaker}
use Rattle.gx_model.specs.Item.{Items}
use Rattle.gx_core.specs.Meaning.{Bindings}
use Rattle.gx_joins.specs.JoinedMeaning.{joined_meaning as joined}
use Rattle.gx_core.specs.PathLaws.{ordered}
use Rattle.gx_core.specs.Outcome.{Outcome, after}
use Rattle.gx_store.specs.Items.{items_in}
use Rattle.gx_machine.specs.declared.change.Change.TheVariants.{Order}
use Rattle.gx_machine.specs.declared.evaluation.Pending.{Pending}
use Rattle.gx_machine.specs.declared.evaluation.Pending.TheVariants.{Evaluate}
use Rattle.gx_machine.specs.StepLoops.{steps_meaning}
use Rattle.gx_machine.specs.Resume.{Stacks, resume, outcome_of, items_of, stacks_of}
use Rattle.gx_machine.proofs.Resuming.{change_opens}
use Rattle.gx_machine.proofs.evaluation.Evaluation.open_ordered.Goals as goal

pub returns-in-Some : goal.returns-in-Some
returns-in-Some c = λ k forest later.
    let work : List Pending = c.args.self.now.work in
    let values : Items = items_in later c.args.self.now.values.items in
    let stacks : Stacks = stacks_of later c.args.self.now in
    let bindings : Bindings = items_of later c.args.self.now.scope in
    let steps = c.in-Some.steps in
    let behind : List Pending → Outcome Items → Outcome Items = λ w o. after o (λ more left. resume k w (values ++ more) stacks bindings left) in
    let one : Outcome Items = steps_meaning k steps bindings forest in
    IfOk-equal c.open_steps.result (outcome_of k forest later c.open_steps.new.self) (behind c.push.new.self one) (behind work (ordered k (joined k c.args.operand.now) bindings forest)) (c.open_steps.ensures k forest later)
    (ap (λ (w : List Pending). behind w one) c.in_ok-push.ensures.ok
    ∙ change_opens k forest Order (steps_meaning k steps) work values c.count_of-first.result stacks bindings (c.count_of-first.ensures later)
    ∙ ap (behind work) (sym (c.in-Some.ensures k bindings forest)))

pub returns-in-None : goal.returns-in-None
returns-in-None c = λ k forest later.
    let values : Items = items_in later c.args.self.now.values.items in
    let stacks : Stacks = stacks_of later c.args.self.now in
    let bindings : Bindings = items_of later c.args.self.now.scope in
    IfOk-weaker c.push-in-None.result _ _
    (λ done put. ap (λ (work : List Pending). resume k work values stacks bindings forest) (put ∙ ap (λ (work : List Pending). Evaluate c.args.operand ∷ work) c.in_ok-push.ensures.ok)
    ∙ change_opens k forest Order (joined k c.args.operand.now) c.args.self.now.work values c.count_of-first.result stacks bindings (c.count_of-first.ensures later))
    c.push-in-None.ensures.ok

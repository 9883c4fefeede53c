use Rattle.std.proofs.Common.{◌∷◌, List, ap, ◌∙◌}
use Rattle.std.proofs.lemmas.Result.{IfOk-weaker}
use Rattle.gx_model.specs.Item.{Items}
use Rattle.gx_core.specs.Meaning.{Bindings}
use Rattle.gx_joins.specs.JoinedMeaning.{joined_meaning as joined}
use Rattle.gx_store.specs.Items.{items_in}
use Rattle.gx_machine.specs.declared.evaluation.Pending.{Pending}
use Rattle.gx_machine.specs.declared.evaluation.Pending.TheVariants.{Evaluate}
use Rattle.gx_machine.specs.Resume.{Stacks, resume, items_of, stacks_of}
use Rattle.gx_machine.proofs.Resuming.{change_opens}
use Rattle.gx_machine.proofs.evaluation.Evaluation.open_change.Goals as goal

pub returns : goal.returns
returns c = λ k forest later.
    let values : Items = items_in later c.args.self.now.values.items in
    let stacks : Stacks = stacks_of later c.args.self.now in
    let bindings : Bindings = items_of later c.args.self.now.scope in
    IfOk-weaker c.push-2.result _ _
    (λ done put. ap (λ (work : List Pending). resume k work values stacks bindings forest) (put ∙ ap (λ (work : List Pending). Evaluate c.args.operand ∷ work) c.in_ok-push.ensures.ok)
    ∙ change_opens k forest c.args.operator (joined k c.args.operand.now) c.args.self.now.work values c.count_of.result stacks bindings (c.count_of.ensures later))
    c.push-2.ensures.ok

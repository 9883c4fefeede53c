use Rattle.std.proofs.Common.{List, ap, ◌∙◌}
use Rattle.gx_model.specs.Item.{Items}
use Rattle.gx_core.specs.Meaning.{Bindings}
use Rattle.gx_joins.specs.HashJoin.{joined_over}
use Rattle.gx_joins.specs.JoinedMeaning.{joined_meaning as joined}
use Rattle.gx_store.specs.Items.{items_in}
use Rattle.gx_machine.specs.declared.evaluation.Pending.{Pending}
use Rattle.gx_machine.specs.declared.evaluation.Pending.TheVariants.{Join as Joining}
use Rattle.gx_machine.specs.declared.joining.Join.{Join}
use Rattle.gx_machine.specs.declared.joining.JoinWork.TheVariants.{Left}
use Rattle.gx_machine.specs.Joining.{join_meant}
use Rattle.gx_machine.specs.Resume.{Stacks, outcome_then, items_of, stacks_of}
use Rattle.gx_machine.proofs.BlockResuming.{where_done}
use Rattle.gx_machine.proofs.Resuming.{switch_opens}
use Rattle.gx_machine.proofs.evaluation.Evaluation.open_join.Goals as goal

pub returns : goal.returns
returns c = λ k forest later.
    let work : List Pending = c.args.self.now.work in
    let values : Items = items_in later c.args.self.now.values.items in
    let stacks : Stacks = stacks_of later c.args.self.now in
    let bindings : Bindings = items_of later c.args.self.now.scope in
    where_done c.open_part.result _ _ _ (c.open_part.ensures k forest later)
    (ap (λ (join : Join). outcome_then k forest later join.source.now (Joining (Left c.count_of-first.result) c.args.join) c.args.self.now) c.deref.ensures
    ∙ switch_opens k forest (joined k c.args.join.value.source.now) (λ xs f. joined_over (join_meant k c.args.join.value) bindings xs f) work values c.count_of-first.result stacks bindings (c.count_of-first.ensures later))

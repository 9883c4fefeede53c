use Rattle.std.proofs.Common.{List}
use Rattle.gx_model.specs.Item.{Items}
use Rattle.gx_core.specs.Meaning.{Bindings}
use Rattle.gx_joins.specs.JoinedMeaning.{joined_meaning as joined}
use Rattle.gx_store.specs.Items.{items_in}
use Rattle.gx_machine.specs.declared.evaluation.Pending.{Pending}
use Rattle.gx_machine.specs.Resume.{Stacks, items_of, stacks_of}
use Rattle.gx_machine.proofs.BlockResuming.{where_done}
use Rattle.gx_machine.proofs.Resuming.{let_opens_at}
use Rattle.gx_machine.proofs.evaluation.Evaluation.open_let.Goals as goal

pub returns : goal.returns
returns c = λ k forest later.
    let work : List Pending = c.args.self.now.work in
    let values : Items = items_in later c.args.self.now.values.items in
    let stacks : Stacks = stacks_of later c.args.self.now in
    let bindings : Bindings = items_of later c.args.self.now.scope in
    where_done c.open_part.result _ _ _ (c.open_part.ensures k forest later)
    (let_opens_at k forest c.args.binder.now.variable (joined k c.args.value.now) (joined k c.args.body.now) work values c.count_of-first.result stacks bindings (c.count_of-first.ensures later))

use Rattle.std.proofs.Common.{List, ◌∷◌, ap}
use Rattle.gx_model.specs.Item.{Items}
use Rattle.gx_core.specs.Meaning.{Bindings}
use Rattle.gx_store.specs.Items.{items_in}
use Rattle.gx_machine.specs.declared.evaluation.Pending.{Pending}
use Rattle.gx_machine.specs.declared.evaluation.Pending.TheVariants.{Evaluate}
use Rattle.gx_machine.specs.Resume.{Stacks, resume, items_of, stacks_of}
use Rattle.gx_machine.proofs.BlockResuming.{where_put}
use Rattle.gx_machine.proofs.evaluation.Evaluation.open_part.Goals as goal

pub returns : goal.returns
returns c = λ k forest later.
    let values : Items = items_in later c.args.self.now.values.items in
    let stacks : Stacks = stacks_of later c.args.self.now in
    let bindings : Bindings = items_of later c.args.self.now.scope in
    where_put c.push-2.result (λ (w : List Pending). resume k w values stacks bindings forest) _ _ _ c.push-2.ensures.ok
    (ap (λ (w : List Pending). resume k (Evaluate c.args.part ∷ w) values stacks bindings forest) c.in_ok-push.ensures.ok)

use Rattle.std.proofs.Common.{◌∷◌, List, take, ap, ◌∙◌}
use Rattle.gx_model.specs.Item.{Items}
use Rattle.gx_core.specs.Meaning.{Bindings}
use Rattle.gx_store.specs.Items.{items_in}
use Rattle.gx_machine.specs.BoundItems.{bound_items}
use Rattle.gx_machine.specs.declared.blocks.BlockWork.TheVariants.{Walk}
use Rattle.gx_machine.specs.declared.evaluation.Pending.{Pending}
use Rattle.gx_machine.specs.declared.evaluation.Pending.TheVariants.{Block, Unbind}
use Rattle.gx_machine.specs.Resume.{Stacks, resume, items_of, stacks_of}
use Rattle.gx_machine.proofs.BlockResuming.{where_put}
use Rattle.gx_machine.proofs.evaluation.Evaluation.assign.Goals as goal

pub returns : goal.returns
returns c = λ k forest later.
    let stacks : Stacks = stacks_of later c.args.self.now in
    let bindings : Bindings = items_of later c.args.self.now.scope in
    let front : Items = items_in later c.take_bound.new.values.items in
    let work : List Pending = Block Walk c.args.rest ∷ Unbind 1 ∷ c.args.self.now.work in
    where_put c.push-2.result (λ (w : List Pending). resume k w front stacks (items_of later c.bind.new.self) forest) _ _ _ c.push-2.ensures.ok
    (ap (λ (w : List Pending). resume k (Block Walk c.args.rest ∷ w) front stacks (items_of later c.bind.new.self) forest) c.in_ok-push.ensures.ok
    ∙ ap (λ scope. resume k work front stacks (items_of later scope) forest) c.in_ok-bind.ensures
    ∙ ap (λ (v : Items). resume k work v stacks ((c.args.variable, bound_items later c.in_ok-bound.bound) ∷ bindings) forest) (c.in_ok-bound.ensures.front later)
    ∙ ap (λ (v : Items). resume k work (take c.args.first (items_in later c.args.self.now.values.items)) stacks ((c.args.variable, v) ∷ bindings) forest) (c.in_ok-bound.ensures.bound later))

use Rattle.std.proofs.Common.{◌≡◌, ◌∷◌, ◌++◌, List, take, drop, ap, ◌∙◌}
use Rattle.gx_model.specs.Item.{Items}
use Rattle.gx_core.specs.Meaning.{Bindings}
use Rattle.gx_joins.specs.JoinedMeaning.{joined_meaning as joined}
use Rattle.gx_core.proofs.LoopBindings.{position_is_bound}
use Rattle.gx_store.specs.Items.{items_in}
use Rattle.gx_machine.specs.declared.evaluation.Pending.{Pending}
use Rattle.gx_machine.specs.declared.evaluation.Pending.TheVariants.{Evaluate}
use Rattle.gx_machine.specs.Resume.{Stacks, resume, items_of, stacks_of}
use Rattle.gx_machine.proofs.Resuming.{without_variable}
use Rattle.gx_machine.proofs.evaluation.Evaluation.choose_branch.Goals as goal

pub returns-then-variable-ne0 : goal.returns-then-variable-ne0
returns-then-variable-ne0 c = λ k forest later.
    rw (position_is_bound c.args.variable (drop c.args.first (items_in later c.args.self.now.values.items)) c.if-variable-ne0.true) (c.bind.ensures k forest later)

pub returns : goal.returns
returns c = λ k forest later.
    let values : Items = items_in later c.args.self.now.values.items in
    let stacks : Stacks = stacks_of later c.args.self.now in
    let bindings : Bindings = items_of later c.args.self.now.scope in
    let work : List Pending = c.args.self.now.work in
    let none : c.args.variable ≡ 0 = c.if-variable-ne0.false in
    ap (λ (w : List Pending). resume k w (items_in later c.cut_off.new.values.items) stacks bindings forest) c.in_ok-push.ensures.ok
    ∙ ap (λ (v : Items). resume k (Evaluate c.args.branch ∷ work) v stacks bindings forest) (c.cut_off.ensures later)
    ∙ without_variable forest c.args.variable (joined k c.args.branch.now) (drop c.args.first values) bindings (λ more left. resume k work (take c.args.first values ++ more) stacks bindings left) none

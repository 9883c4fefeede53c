use Rattle.std.proofs.Common.{◌≡◌, ◌++◌, List, drop, ap, ◌∙◌}
use Rattle.gx_model.specs.Item.{Items}
use Rattle.gx_core.specs.Meaning.{Bindings}
use Rattle.gx_joins.specs.JoinedMeaning.{joined_meaning as joined}
use Rattle.gx_store.specs.Items.{items_in}
use Rattle.gx_machine.specs.declared.evaluation.Pending.{Pending}
use Rattle.gx_machine.specs.Resume.{Stacks, with_sources, resume, items_of, stacks_of}
use Rattle.gx_machine.proofs.Resuming.{gathered_at}
use Rattle.gx_machine.proofs.evaluation.Evaluation.gather.Goals as goal

pub returns : goal.returns
returns c = λ k forest later.
    let values : Items = items_in later c.args.self.now.values.items in
    let front : Items = items_in later c.move_from.new.values.items in
    let sources : Items = items_in later c.move_from.new.others.items in
    let stacks : Stacks = stacks_of later c.args.self.now in
    let bindings : Bindings = items_of later c.args.self.now.scope in
    let moved : sources ≡ stacks.sources ++ drop c.args.first values = c.in_ok-move_from.ensures.moved later in
    ap (λ (w : List Pending). resume k w front (with_sources stacks sources) bindings forest) c.in_ok-push.ensures.ok
    ∙ gathered_at k forest c.args.repeated (joined k c.args.body.now) c.args.self.now.work values front sources c.args.first c.count_of-start.result stacks bindings (c.in_ok-move_from.ensures.front later) moved
    (c.count_of-start.ensures later)

use Rattle.std.proofs.Common.{◌≡◌, ◌++◌, List, drop}
use Rattle.gx_model.specs.Item.{Items}
use Rattle.gx_core.specs.Meaning.{Bindings, item_bound}
use Rattle.gx_store.specs.Items.{items_in}
use Rattle.gx_machine.specs.declared.evaluation.Pending.{Pending}
use Rattle.gx_machine.specs.FoundTuples.{walked}
use Rattle.gx_machine.specs.Resume.{Stacks, with_sources, resume, items_of, stacks_of}
use Rattle.gx_machine.proofs.BlockResuming.{where_put, turns_gathered}
use Rattle.gx_machine.proofs.evaluation.Evaluation.gather_tuples.Goals as goal

pub returns : goal.returns
returns c = λ k forest later.
    let values : Items = items_in later c.args.self.now.values.items in
    let front : Items = items_in later c.move_from.new.values.items in
    let sources : Items = items_in later c.move_from.new.others.items in
    let stacks : Stacks = stacks_of later c.args.self.now in
    let bindings : Bindings = items_of later c.args.self.now.scope in
    let work : List Pending = c.args.self.now.work in
    let moved : sources ≡ stacks.sources ++ drop c.args.first values = c.in_ok-move_from.ensures.moved later in
    where_put c.push.result (λ (w : List Pending). resume k w front (with_sources stacks sources) bindings forest) _ _ _ c.push.ensures.ok
    (turns_gathered (λ n x now. walked k c.args.rest (item_bound c.args.variable c.args.position n x ++ bindings) now) values front sources c.args.first c.count_of-start.result stacks forest
    (λ vs beside left. resume k work vs beside bindings left) (c.in_ok-move_from.ensures.front later) moved (c.count_of-start.ensures later))

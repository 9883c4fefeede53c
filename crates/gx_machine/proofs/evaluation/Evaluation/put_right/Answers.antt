use Rattle.std.proofs.Common.{◌≡◌, ◌≤◌, ◌++◌, [], ℕ, List, length, take, drop, take_all, arith, rules, ap, sym, ◌∙◌}
use Rattle.std.proofs.lemmas.List.{drop_all}
use Rattle.gx_model.specs.Item.{Items}
use Rattle.gx_core.specs.Meaning.{Bindings}
use Rattle.gx_store.specs.Items.{items_in}
use Rattle.gx_machine.specs.declared.evaluation.Pending.{Pending}
use Rattle.gx_machine.specs.Joining.{join_meant}
use Rattle.gx_machine.specs.Resume.{Stacks, with_sources, resume, items_of, stacks_of}
use Rattle.gx_machine.proofs.BlockResuming.{where_put}
use Rattle.gx_machine.proofs.JoinResuming.{some_from, no_right_item, right_is_put}
use Rattle.gx_machine.proofs.evaluation.Evaluation.put_right.Goals as goal

pub returns-then-count_of-first : goal.returns-then-count_of-first
returns-then-count_of-first c = λ k forest later.
    let values : Items = items_in later c.args.self.now.values.items in
    let stacks : Stacks = stacks_of later c.args.self.now in
    let bindings : Bindings = items_of later c.args.self.now.scope in
    let work : List Pending = c.args.self.now.work in
    let counted : c.count_of.result ≡ length values = c.count_of.ensures later in
    let few : length values ≤ c.args.first = omega (arith, counted) in
    ap (λ (s : Items). resume k work values (with_sources stacks s) bindings forest) (c.cut_off.ensures later)
    ∙ no_right_item (join_meant k c.args.join.value) bindings values (take c.args.first values) (drop c.args.first values) stacks.sources c.args.left stacks (drop c.args.left stacks.sources) forest
    (λ vs beside left. resume k work vs beside bindings left) (drop_all c.args.first values few) (take_all c.args.first values few)

pub returns : goal.returns
returns c = λ k forest later.
    let values : Items = items_in later c.args.self.now.values.items in
    let front : Items = items_in later c.move_from.new.values.items in
    let sources : Items = items_in later c.move_from.new.others.items in
    let stacks : Stacks = stacks_of later c.args.self.now in
    let bindings : Bindings = items_of later c.args.self.now.scope in
    let work : List Pending = c.args.self.now.work in
    let counted : c.count_of.result ≡ length values = c.count_of.ensures later in
    let some = some_from c.args.first values (omega (arith, counted)) in
    where_put c.push.result (λ (w : List Pending). resume k w front (with_sources stacks sources) bindings forest) _ _ _ c.push.ensures.ok
    (right_is_put k c.args.join.value c.in_ok-new.field-0.value c.args.left c.count_of-right.result values front sources some.0 some.1 c.args.first stacks bindings forest (λ vs beside left. resume k work vs beside bindings left)
    (c.in_ok-new.ensures.ok ∙ c.new.ensures) (c.count_of-right.ensures later) (c.in_ok-move_from.ensures.front later) (c.in_ok-move_from.ensures.moved later) some.2)

use Rattle.std.proofs.Common.{◌≡◌, ◌≤◌, ◌++◌, ◌∷◌, [], ℕ, List, length, take, drop, take_all, arith, rules, ap, sym, ◌∙◌}
use Rattle.std.proofs.lemmas.List.{drop_all}
use Rattle.gx_model.specs.Item.{Items}
use Rattle.gx_core.specs.Meaning.{Bindings}
use Rattle.gx_core.specs.Outcome.{after}
use Rattle.gx_joins.specs.HashJoin.{joined_over}
use Rattle.gx_joins.specs.JoinedMeaning.{joined_meaning as joined}
use Rattle.gx_store.specs.Items.{items_in}
use Rattle.gx_machine.specs.declared.evaluation.Pending.{Pending}
use Rattle.gx_machine.specs.declared.evaluation.Pending.TheVariants.{Join as Joining}
use Rattle.gx_machine.specs.declared.joining.Join.{Join}
use Rattle.gx_machine.specs.declared.joining.JoinWork.TheVariants.{Right}
use Rattle.gx_machine.specs.Joining.{join_meant}
use Rattle.gx_machine.specs.Resume.{Stacks, with_sources, resume, items_of, stacks_of}
use Rattle.gx_machine.proofs.BlockResuming.{where_done}
use Rattle.gx_machine.proofs.JoinResuming.{some_from, no_left_item, left_is_put}
use Rattle.gx_machine.proofs.evaluation.Evaluation.put_left.Goals as goal

pub returns-then-count_of-first : goal.returns-then-count_of-first
returns-then-count_of-first c = λ k forest later.
    let values : Items = items_in later c.args.self.now.values.items in
    let stacks : Stacks = stacks_of later c.args.self.now in
    let bindings : Bindings = items_of later c.args.self.now.scope in
    let counted : c.count_of.result ≡ length values = c.count_of.ensures later in
    let few : length values ≤ c.args.first = omega (arith, counted) in
    no_left_item (join_meant k c.args.join.value) bindings values (take c.args.first values) (drop c.args.first values) forest
    (λ vs left. resume k c.args.self.now.work vs stacks bindings left) (drop_all c.args.first values few) (take_all c.args.first values few)

pub returns : goal.returns
returns c = λ k forest later.
    let values : Items = items_in later c.args.self.now.values.items in
    let front : Items = items_in later c.move_from.new.values.items in
    let sources : Items = items_in later c.move_from.new.others.items in
    let stacks : Stacks = stacks_of later c.args.self.now in
    let bindings : Bindings = items_of later c.args.self.now.scope in
    let work : List Pending = c.args.self.now.work in
    let counted : c.count_of.result ≡ length values = c.count_of.ensures later in
    let some = some_from c.args.first values (omega (arith, counted)) in
    where_done c.open_part.result _ _ _ (c.open_part.ensures k forest later)
    (ap (λ (join : Join). after (joined k join.other.now bindings forest) (λ more left. resume k (Joining (Right c.count_of-left.result c.count_of-first.result) c.args.join ∷ work) (front ++ more) (with_sources stacks sources) bindings left)) c.deref.ensures
    ∙ left_is_put k c.args.join.value front sources (drop c.args.first values) some.0 some.1 c.count_of-left.result c.count_of-first.result stacks bindings forest (λ vs beside left. resume k work vs beside bindings left)
    (c.in_ok-move_from.ensures.moved later) (c.count_of-left.ensures later) (c.count_of-first.ensures later) some.2
    ∙ ap (λ (v : Items). after (joined_over (join_meant k c.args.join.value) bindings (drop c.args.first values) forest) (λ more last. resume k work (v ++ more) stacks bindings last)) (c.in_ok-move_from.ensures.front later))

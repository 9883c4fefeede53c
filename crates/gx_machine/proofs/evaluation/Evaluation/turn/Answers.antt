use Rattle.std.proofs.Common.{◌≡◌, ◌+◌, suc, add-one, ◌∷◌, [], ◌++◌, List, length, take, drop, arith, rules, ap, sym, ◌∙◌}
use Rattle.std.proofs.lemmas.List.{drop-map, drop_all}
use Rattle.gx_model.specs.Item.{Items}
use Rattle.gx_core.specs.Meaning.{Bindings, item_bound}
use Rattle.gx_joins.specs.JoinedMeaning.{joined_meaning as joined}
use Rattle.gx_core.specs.Outcome.{after}
use Rattle.gx_store.specs.declared.item.Item.{Item}
use Rattle.gx_store.specs.Items.{item_in, items_in}
use Rattle.gx_machine.specs.declared.evaluation.Pending.{Pending}
use Rattle.gx_machine.specs.declared.evaluation.Pending.TheVariants.{Evaluate}
use Rattle.gx_machine.specs.declared.looping.Loop.TheVariants.{For}
use Rattle.gx_machine.specs.Resume.{Stacks, with_sources, resume, items_of, stacks_of, looped}
use Rattle.gx_machine.proofs.LaterItems.{next_source}
use Rattle.gx_machine.proofs.Resuming.{turn_goes_on}
use Rattle.gx_machine.proofs.evaluation.Evaluation.turn.Goals as goal

pub returns-then-next-len : goal.returns-then-next-len
returns-then-next-len c = λ k forest later.
    let sources : List Item = c.args.self.now.sources.items in
    let values : Items = items_in later c.args.self.now.values.items in
    let stacks : Stacks = stacks_of later c.args.self.now in
    let bindings : Bindings = items_of later c.args.self.now.scope in
    let there : c.len.result ≡ length sources = search rules in
    let none : drop c.args.next (items_in later sources) ≡ [] = drop-map (item_in later) c.args.next sources ∙ ap (items_in later) (drop_all c.args.next sources (omega (arith, there))) in
    ap (λ (s : Items). resume k c.args.self.now.work values (with_sources stacks s) bindings forest) (c.cut_off.ensures later)
    ∙ ap (λ (v : Items). after (looped (joined k c.args.body.now) (For c.args.variable c.args.position c.args.number) bindings values v forest) (λ vs left. resume k c.args.self.now.work vs (with_sources stacks (take c.args.start stacks.sources)) bindings left)) (sym none)

pub returns : goal.returns
returns c = λ k forest later.
    let sources : List Item = c.args.self.now.sources.items in
    let values : Items = items_in later c.args.self.now.values.items in
    let stacks : Stacks = stacks_of later c.args.self.now in
    let bindings : Bindings = items_of later c.args.self.now.scope in
    let work : List Pending = c.args.self.now.work in
    let x = item_in later c.in_ok-item.item in
    let bound : Bindings = item_bound c.args.variable c.args.position c.args.number x ++ bindings in
    let next : c.in-Some.following ≡ suc c.args.number = (let step : c.in-Some.following ≡ c.args.number + 1 = search rules in step) ∙ add-one c.args.number in
    let there : c.len.result ≡ length sources = search rules in
    let put : c.push-2.new.self ≡ Evaluate c.args.body ∷ c.unbind_item.new.work = c.in_ok-push-2.ensures.ok in
    let scope : items_of later c.bind_item.new.scope ≡ bound = c.in_ok-bind_item.ensures later in
    let source = next_source later sources c.args.next c.in_ok-item.item c.index.result.now (omega (arith, there)) c.index.ensures c.in_ok-item.ensures.cases in
    ap (λ (w : List Pending). resume k w values stacks (items_of later c.bind_item.new.scope) forest) put
    ∙ ap (λ (b : Bindings). resume k (Evaluate c.args.body ∷ c.unbind_item.new.work) values stacks b forest) scope
    ∙ turn_goes_on forest c.args.variable c.args.position c.args.number c.in-Some.following (joined k c.args.body.now) values x (drop (c.args.next + 1) stacks.sources) (drop c.args.next stacks.sources) bindings
    (λ vs left. resume k work vs (with_sources stacks (take c.args.start stacks.sources)) bindings left) (λ vs left. resume k c.unbind_item.new.work vs stacks bound left) next source
    (λ vs left. c.in_ok-unbind_item.ensures k vs stacks c.args.variable c.args.number x bindings left ∙ ap (λ (w : List Pending). resume k w vs stacks bindings left) c.in_ok-push.ensures.ok)

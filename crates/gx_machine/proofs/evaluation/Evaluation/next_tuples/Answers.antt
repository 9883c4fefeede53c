use Rattle.std.proofs.Common.{◌≡◌, ◌+◌, suc, add-one, ◌∷◌, [], ◌++◌, List, length, take, drop, arith, rules, ap, ◌∙◌}
use Rattle.std.proofs.lemmas.List.{drop-map, drop_all}
use Rattle.gx_model.specs.Item.{Items, Item as PlainItem}
use Rattle.gx_core.specs.Meaning.{Bindings, item_bound}
use Rattle.gx_store.specs.declared.item.Item.{Item}
use Rattle.gx_store.specs.Items.{item_in, items_in}
use Rattle.gx_machine.specs.declared.blocks.BlockWork.TheVariants.{Walk}
use Rattle.gx_machine.specs.declared.evaluation.Pending.{Pending}
use Rattle.gx_machine.specs.declared.evaluation.Pending.TheVariants.{Block}
use Rattle.gx_machine.specs.FoundTuples.{with_found, walked}
use Rattle.gx_machine.specs.Resume.{Stacks, with_sources, resume, items_of, stacks_of}
use Rattle.gx_machine.proofs.LaterItems.{next_source}
use Rattle.gx_machine.proofs.BlockResuming.{where_put, turns_end, turns_go_on}
use Rattle.gx_machine.proofs.evaluation.Evaluation.next_tuples.Goals as goal

pub returns-then-next-len : goal.returns-then-next-len
returns-then-next-len c = λ k forest later.
    let sources : List Item = c.args.self.now.sources.items in
    let values : Items = items_in later c.args.self.now.values.items in
    let stacks : Stacks = stacks_of later c.args.self.now in
    let bindings : Bindings = items_of later c.args.self.now.scope in
    let work : List Pending = c.args.self.now.work in
    let there : c.len.result ≡ length sources = search rules in
    let none : drop c.args.next (items_in later sources) ≡ [] = drop-map (item_in later) c.args.next sources ∙ ap (items_in later) (drop_all c.args.next sources (omega (arith, there))) in
    ap (λ (s : Items). resume k work values (with_sources stacks s) bindings forest) (c.cut_off.ensures later)
    ∙ turns_end (λ n x now. walked k c.args.rest (item_bound c.args.variable c.args.position n x ++ bindings) now) c.args.number (drop c.args.next stacks.sources) values (with_sources stacks (take c.args.start stacks.sources)) forest
    (λ vs beside left. resume k work vs beside bindings left) none

pub returns : goal.returns
returns c = λ k forest later.
    let sources : List Item = c.args.self.now.sources.items in
    let values : Items = items_in later c.args.self.now.values.items in
    let stacks : Stacks = stacks_of later c.args.self.now in
    let bindings : Bindings = items_of later c.args.self.now.scope in
    let work : List Pending = c.args.self.now.work in
    let behind : List Pending = c.unbind_item.new.work in
    let x : PlainItem = item_in later c.in_ok-item.item in
    let bound : Bindings = item_bound c.args.variable c.args.position c.args.number x ++ bindings in
    let following : c.in-Some.following ≡ suc c.args.number = (let step : c.in-Some.following ≡ c.args.number + 1 = search rules in step) ∙ add-one c.args.number in
    let there : c.len.result ≡ length sources = search rules in
    let source = next_source later sources c.args.next c.in_ok-item.item c.index.result.now (omega (arith, there)) c.index.ensures c.in_ok-item.ensures.cases in
    where_put c.push-2.result (λ (w : List Pending). resume k w values stacks (items_of later c.bind_item.new.scope) forest) _ _ _ c.push-2.ensures.ok
    (ap (λ (b : Bindings). resume k (Block Walk c.args.rest ∷ behind) values stacks b forest) (c.in_ok-bind_item.ensures later)
    ∙ turns_go_on (λ n y now. walked k c.args.rest (item_bound c.args.variable c.args.position n y ++ bindings) now) c.args.number c.in-Some.following x (drop (c.args.next + 1) stacks.sources) (drop c.args.next stacks.sources) stacks.found forest
    (λ found left. resume k work values (with_found (with_sources stacks (take c.args.start stacks.sources)) found) bindings left) (λ found left. resume k behind values (with_found stacks found) bound left) following source
    (λ found left. c.in_ok-unbind_item.ensures k values (with_found stacks found) c.args.variable c.args.number x bindings left ∙ ap (λ (w : List Pending). resume k w values (with_found stacks found) bindings left) c.in_ok-push.ensures.ok))

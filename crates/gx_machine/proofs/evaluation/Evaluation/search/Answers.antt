use Rattle.std.proofs.Common.{◌≡◌, ◌+◌, ◌∷◌, [], ◌++◌, not, List, length, take, drop, arith, rules, ap, ◌∙◌}
use Rattle.std.proofs.lemmas.List.{drop-map, drop_all}
use Rattle.gx_facets.specs.declared.Atomic.{Atomic}
use Rattle.gx_model.specs.Item.{Items, atom}
use Rattle.gx_core.specs.Comparing.{truth_value}
use Rattle.gx_core.specs.Meaning.{Bindings}
use Rattle.gx_joins.specs.JoinedMeaning.{joined_meaning as joined}
use Rattle.gx_store.specs.declared.item.Item.{Item}
use Rattle.gx_store.specs.Items.{item_in, items_in}
use Rattle.gx_machine.specs.declared.evaluation.Pending.{Pending}
use Rattle.gx_machine.specs.declared.evaluation.Pending.TheVariants.{Evaluate, Decide, Unbind}
use Rattle.gx_machine.specs.Resume.{Stacks, with_sources, resume, items_of, stacks_of}
use Rattle.gx_machine.proofs.LaterItems.{next_source}
use Rattle.gx_machine.proofs.Resuming.{next_test, search_ends}
use Rattle.gx_machine.proofs.evaluation.Evaluation.search.Goals as goal

pub returns-then-next-len : goal.returns-then-next-len
returns-then-next-len c = λ k forest later.
    let sources : List Item = c.args.self.now.sources.items in
    let values : Items = items_in later c.args.self.now.values.items in
    let stacks : Stacks = stacks_of later c.args.self.now in
    let bindings : Bindings = items_of later c.args.self.now.scope in
    let there : c.len.result ≡ length sources = search rules in
    let none : drop c.args.next (items_in later sources) ≡ [] = drop-map (item_in later) c.args.next sources ∙ ap (items_in later) (drop_all c.args.next sources (omega (arith, there))) in
    let put : items_in later c.push_atom.new.values.items ≡ values ++ truth_value (not c.args.decisive) =
    c.in_ok-push_atom.ensures later ∙ ap (λ (a : Atomic). values ++ atom a ∷ []) c.truth_atom.ensures in
    ap (λ (v : Items). resume k c.args.self.now.work v (with_sources stacks (items_in later c.cut_off.new.values.items)) bindings forest) put
    ∙ ap (λ (s : Items). resume k c.args.self.now.work (values ++ truth_value (not c.args.decisive)) (with_sources stacks s) bindings forest) (c.cut_off.ensures later)
    ∙ search_ends forest c.args.variable c.args.decisive (joined k c.args.test.now) values (drop c.args.next stacks.sources) bindings
    (λ vs left. resume k c.args.self.now.work vs (with_sources stacks (take c.args.start stacks.sources)) bindings left) none

pub returns : goal.returns
returns c = λ k forest later.
    let sources : List Item = c.args.self.now.sources.items in
    let values : Items = items_in later c.args.self.now.values.items in
    let stacks : Stacks = stacks_of later c.args.self.now in
    let bindings : Bindings = items_of later c.args.self.now.scope in
    let work : List Pending = c.args.self.now.work in
    let x = item_in later c.in_ok-item.item in
    let down : List Pending = Decide (record { variable = c.args.variable; decisive = c.args.decisive; first = c.count_of-first.result; next = c.args.next + 1; start = c.args.start; test = c.args.test }) ∷ work in
    let there : c.len.result ≡ length sources = search rules in
    let put : c.push-3.new.self ≡ Evaluate c.args.test ∷ Unbind 1 ∷ down =
    c.in_ok-push-3.ensures.ok ∙ ap (λ (w : List Pending). Evaluate c.args.test ∷ w) (c.in_ok-push-2.ensures.ok ∙ ap (λ (w : List Pending). Unbind 1 ∷ w) c.in_ok-push.ensures.ok) in
    let source = next_source later sources c.args.next c.in_ok-item.item c.index.result.now (omega (arith, there)) c.index.ensures c.in_ok-item.ensures.cases in
    ap (λ (w : List Pending). resume k w values stacks (items_of later c.bind.new.self) forest) put
    ∙ ap (λ scope. resume k (Evaluate c.args.test ∷ Unbind 1 ∷ down) values stacks (items_of later scope) forest) c.in_ok-bind.ensures
    ∙ next_test forest c.args.variable c.args.decisive (joined k c.args.test.now) values c.count_of-first.result x (drop (c.args.next + 1) stacks.sources) (drop c.args.next stacks.sources) bindings
    (λ vs left. resume k work vs (with_sources stacks (take c.args.start stacks.sources)) bindings left) source (c.count_of-first.ensures later)

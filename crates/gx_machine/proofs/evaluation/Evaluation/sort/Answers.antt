use Rattle.std.proofs.Common.{◌≡◌, ◌∷◌, ℕ, List, Option, length, map, drop, rules, ap, sym, ◌∙◌}
use Rattle.std.proofs.lemmas.List.{length-map, drop-map}
use Rattle.gx_facets.specs.declared.Atomic.{Atomic}
use Rattle.gx_model.specs.Item.{Items}
use Rattle.gx_sorting.specs.declared.keys.KeyOrder.{KeyOrder}
use Rattle.gx_core.specs.ExpressionView.{order_of_key}
use Rattle.gx_core.specs.Outcome.{after}
use Rattle.gx_core.specs.Meaning.{Bindings}
use Rattle.gx_joins.specs.JoinedMeaning.{joined_meaning as joined}
use Rattle.gx_store.specs.Items.{items_in}
use Rattle.gx_machine.specs.declared.blocks.BlockWork.TheVariants.{Return}
use Rattle.gx_machine.specs.declared.evaluation.Pending.{Pending}
use Rattle.gx_machine.specs.declared.evaluation.Pending.TheVariants.{Block}
use Rattle.gx_machine.specs.FoundTuples.{Row, row_in, before_block, numbers_in_order, returned_for, with_found}
use Rattle.gx_machine.specs.Resume.{Stacks, resume, items_of, stacks_of}
use Rattle.gx_machine.proofs.BlockResuming.{where_put, returns_begin}
use Rattle.gx_machine.proofs.evaluation.Evaluation.sort.Goals as goal

pub returns : goal.returns
returns c = λ k forest later.
    let values : Items = items_in later c.args.self.now.values.items in
    let stacks : Stacks = stacks_of later c.args.self.now in
    let bindings : Bindings = items_of later c.args.self.now.scope in
    let work : List Pending = c.args.self.now.work in
    let orders : List KeyOrder = map order_of_key c.args.rest.keys.now in
    let keys : List (Option Atomic) = drop c.args.first_key stacks.found.keys in
    let rows : List Bindings = drop c.args.first_row stacks.found.rows in
    let start : ℕ = c.len-start.result in
    let count : ℕ = length c.elements_from-count.result.now in
    let counted : count ≡ length rows =
    ap length (c.elements_from-count.ensures ∙ ap (λ (rs : List Row). drop c.args.first_row rs) c.as_slice-2.ensures.value)
    ∙ sym (length-map (drop c.args.first_row c.args.self.now.tuples.rows.items) (row_in later)) ∙ ap length (sym (drop-map (row_in later) c.args.first_row c.args.self.now.tuples.rows.items)) in
    let own : c.in_ok-numbers.numbers.items ≡ numbers_in_order orders keys (length rows) =
    c.in_ok-numbers.ensures ∙ ap (λ (ks : List (Option Atomic)). numbers_in_order orders ks count) (c.elements_from-own_keys.ensures ∙ ap (λ (ks : List (Option Atomic)). drop c.args.first_key ks) c.as_slice.ensures.value) ∙ ap (λ (n : ℕ). numbers_in_order orders keys n) counted in
    let begins : start ≡ length stacks.found.numbers = search rules in
    where_put c.push.result (λ (w : List Pending). resume k w values (with_found stacks (record { keys = c.truncate.new.self.items; rows = stacks.found.rows; numbers = c.append.new.self.items })) bindings forest) _ _ _ c.push.ensures.ok
    (ap (λ (ks : List (Option Atomic)). resume k (Block (Return start start c.args.first_row) c.args.rest ∷ work) values (with_found stacks (record { keys = ks; rows = stacks.found.rows; numbers = c.append.new.self.items })) bindings forest) c.truncate.ensures.items
    ∙ returns_begin (joined k c.args.rest.body.now) bindings values rows c.in_ok-numbers.numbers.items c.append.new.self.items c.args.first_key c.args.first_row start stacks forest (λ vs beside left. resume k work vs beside bindings left) c.in_ok-append.ensures.items begins
    ∙ ap (λ (ns : List ℕ). after (returned_for (joined k c.args.rest.body.now) bindings values rows ns forest) (λ vs left. resume k work vs (with_found stacks (before_block stacks.found c.args.first_key c.args.first_row)) bindings left)) own)

use Rattle.std.proofs.Common.{◌≡◌, ◌+◌, ◌<◌, ◌++◌, ◌∷◌, ℕ, List, Some, None, length, map, take, drop, arith, rules, refl, ap, sym, ◌∙◌}
use Rattle.std.specs.Prelude.{option_copied, slice_get}
use Rattle.std.proofs.lemmas.List.{length-map, drop-map, take-map, drop_all}
use Rattle.gx_model.specs.Item.{Items}
use Rattle.gx_core.specs.Meaning.{Bindings}
use Rattle.gx_joins.specs.JoinedMeaning.{joined_meaning as joined}
use Rattle.gx_store.specs.Items.{items_in}
use Rattle.gx_machine.specs.declared.blocks.BlockWork.TheVariants.{Return}
use Rattle.gx_machine.specs.declared.evaluation.Pending.{Pending}
use Rattle.gx_machine.specs.declared.evaluation.Pending.TheVariants.{Block, Evaluate, Unbind}
use Rattle.gx_machine.specs.BoundItems.{bound_items}
use Rattle.gx_machine.specs.FoundTuples.{Row, row_in, before_returns, with_found}
use Rattle.gx_machine.specs.Resume.{Stacks, resume, items_of, stacks_of}
use Rattle.gx_machine.proofs.BlockResuming.{next_number, row_found, returns_end, no_row, returns_go_on}
use Rattle.gx_machine.proofs.evaluation.Evaluation.return_next.Goals as goal

pub returns-then-next-len-clause-value : goal.returns-then-next-len-clause-value
returns-then-next-len-clause-value c = λ k forest later.
    let values : Items = items_in later c.args.self.now.values.items in
    let stacks : Stacks = stacks_of later c.args.self.now in
    let bindings : Bindings = items_of later c.args.self.now.scope in
    let work : List Pending = c.args.self.now.work in
    let numbers : List ℕ = stacks.found.numbers in
    let there : c.len.result ≡ length numbers = search rules in
    let rows : map (row_in later) c.truncate-then-next-len.new.self.items ≡ take c.args.first_row stacks.found.rows =
    ap (map (row_in later)) c.truncate-then-next-len.ensures.items ∙ sym (take-map (row_in later) c.args.first_row c.args.self.now.tuples.rows.items) in
    ap (λ (rs : List Bindings). resume k work values (with_found stacks (record { keys = stacks.found.keys; rows = rs; numbers = c.truncate.new.self.items })) bindings forest) rows
    ∙ ap (λ (ns : List ℕ). resume k work values (with_found stacks (record { keys = stacks.found.keys; rows = take c.args.first_row stacks.found.rows; numbers = ns })) bindings forest) c.truncate.ensures.items
    ∙ returns_end (joined k c.args.rest.body.now) bindings values (drop c.args.first_row stacks.found.rows) (drop c.args.next numbers) (with_found stacks (before_returns stacks.found c.args.start c.args.first_row)) forest
    (λ vs beside left. resume k work vs beside bindings left) (drop_all c.args.next numbers (omega (arith, there)))

pub returns-in_default-clause-failed : goal.returns-in_default-clause-failed
returns-in_default-clause-failed c = λ k forest later.
    let values : Items = items_in later c.args.self.now.values.items in
    let stacks : Stacks = stacks_of later c.args.self.now in
    let bindings : Bindings = items_of later c.args.self.now.scope in
    let numbers : List ℕ = stacks.found.numbers in
    let number : ℕ = c.index-number.result.now in
    let own : List Row = drop c.args.first_row c.args.self.now.tuples.rows.items in
    let there : c.len.result ≡ length numbers = search rules in
    let within : c.args.next < length numbers = omega (arith, there) in
    let none : slice_get (drop c.args.first_row stacks.found.rows) number ≡ None =
    row_found later own number (drop c.args.first_row stacks.found.rows) None (drop-map (row_in later) c.args.first_row c.args.self.now.tuples.rows.items)
    (sym (c.row_at.ensures ∙ ap (λ (rs : List Row). slice_get rs number) (c.elements_from-rows.ensures ∙ ap (λ (rs : List Row). drop c.args.first_row rs) c.as_slice.ensures.value)) ∙ ap option_copied c.in_default.is) in
    no_row (joined k c.args.rest.body.now) bindings values (drop c.args.first_row stacks.found.rows) number (drop (c.args.next + 1) numbers) (drop c.args.next numbers) forest
    (λ vs left. resume k c.args.self.now.work vs (with_found stacks (before_returns stacks.found c.args.start c.args.first_row)) bindings left) (next_number numbers c.args.next number within c.index-number.ensures) none

pub returns-clause-value : goal.returns-clause-value
returns-clause-value c = λ k forest later.
    let values : Items = items_in later c.args.self.now.values.items in
    let stacks : Stacks = stacks_of later c.args.self.now in
    let bindings : Bindings = items_of later c.args.self.now.scope in
    let work : List Pending = c.args.self.now.work in
    let numbers : List ℕ = stacks.found.numbers in
    let number : ℕ = c.index-number.result.now in
    let count : ℕ = c.len-count.result in
    let bound : Bindings = items_of later c.in-Some.row.now.items in
    let own : List Row = drop c.args.first_row c.args.self.now.tuples.rows.items in
    let there : c.len.result ≡ length numbers = search rules in
    let within : c.args.next < length numbers = omega (arith, there) in
    let found : slice_get (drop c.args.first_row stacks.found.rows) number ≡ Some bound =
    row_found later own number (drop c.args.first_row stacks.found.rows) (Some c.in-Some.row.now) (drop-map (row_in later) c.args.first_row c.args.self.now.tuples.rows.items)
    (sym (c.row_at.ensures ∙ ap (λ (rs : List Row). slice_get rs number) (c.elements_from-rows.ensures ∙ ap (λ (rs : List Row). drop c.args.first_row rs) c.as_slice.ensures.value)) ∙ ap option_copied c.in-Some.is) in
    let counted : count ≡ length bound = (let n : count ≡ length c.in-Some.row.now.items = search rules in n) ∙ sym (length-map c.in-Some.row.now.items (λ binding. (binding.0, bound_items later binding.1))) in
    let scope : items_of later c.bind_row.new.scope ≡ bound ++ bindings = c.in_ok-bind_row.ensures later ∙ ap (λ row. items_of later row ++ bindings) c.as_slice-2.ensures.value in
    let behind : List Pending = Unbind count ∷ Block (Return (c.args.next + 1) c.args.start c.args.first_row) c.args.rest ∷ work in
    ap (λ (w : List Pending). resume k w values stacks (items_of later c.bind_row.new.scope) forest)
    (c.in_ok-push-3.ensures.ok ∙ ap (λ (w : List Pending). Evaluate c.args.rest.body ∷ w) (c.in_ok-push-2.ensures.ok ∙ ap (λ (w : List Pending). Unbind count ∷ w) c.in_ok-push.ensures.ok))
    ∙ ap (λ (b : Bindings). resume k (Evaluate c.args.rest.body ∷ behind) values stacks b forest) scope
    ∙ returns_go_on (joined k c.args.rest.body.now) bindings values (drop c.args.first_row stacks.found.rows) bound number count (drop (c.args.next + 1) numbers) (drop c.args.next numbers) forest
    (λ vs left. resume k work vs (with_found stacks (before_returns stacks.found c.args.start c.args.first_row)) bindings left)
    (λ vs b left. resume k (Block (Return (c.args.next + 1) c.args.start c.args.first_row) c.args.rest ∷ work) vs stacks b left)
    (next_number numbers c.args.next number within c.index-number.ensures) found counted (λ vs left. refl)

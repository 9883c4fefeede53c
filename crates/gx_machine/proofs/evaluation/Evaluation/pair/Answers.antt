use Rattle.std.proofs.Common.{◌≡◌, ◌+◌, ◌<◌, ◌∷◌, [], ◌++◌, ℕ, List, None, Some, length, take, drop, arith, rules, ap, sym, ◌∙◌}
use Rattle.std.specs.Prelude.{option_map, option_copied, slice_get}
use Rattle.std.proofs.lemmas.List.{drop_all}
use Rattle.std.proofs.lemmas.Option.{slice_get-map}
use Rattle.gx_model.specs.Item.{Items, Item as PlainItem}
use Rattle.gx_core.specs.Meaning.{Bindings}
use Rattle.gx_store.specs.declared.item.Item.{Item}
use Rattle.gx_store.specs.Items.{item_in, items_in}
use Rattle.gx_machine.specs.declared.joining.JoinWork.TheVariants.{Pairs, Probe}
use Rattle.gx_machine.specs.declared.joining.Join.{Join as Joined}
use Rattle.gx_machine.specs.declared.evaluation.Pending.{Pending}
use Rattle.gx_machine.specs.declared.evaluation.Pending.TheVariants.{Join, Unbind, Evaluate}
use Rattle.gx_machine.specs.Resume.{Stacks, resume, items_of, stacks_of}
use Rattle.gx_machine.proofs.BlockResuming.{next_number}
use Rattle.gx_machine.proofs.JoinResuming.{rows_end, no_item, rows_go_on}
use Rattle.gx_machine.proofs.evaluation.Evaluation.pair.Goals as goal

pub returns-then-row-len-clause-value : goal.returns-then-row-len-clause-value
returns-then-row-len-clause-value c = λ k forest later.
    let values : Items = items_in later c.args.self.now.values.items in
    let stacks : Stacks = stacks_of later c.args.self.now in
    let bindings : Bindings = items_of later c.args.self.now.scope in
    let work : List Pending = c.args.self.now.work in
    let there : c.len.result ≡ length c.args.rows.items = search rules in
    ap (λ (w : List Pending). resume k w values stacks bindings forest)
    (c.in_ok-push-2.ensures.ok ∙ ap (λ (w : List Pending). Unbind 1 ∷ w) c.in_ok-push.ensures.ok)
    ∙ rows_end k c.args.join.value c.args.table.value c.args.sides c.args.next (drop c.args.row c.args.rows.items) values stacks bindings forest (λ vs beside left. resume k work vs beside (drop 1 bindings) left)
    (drop_all c.args.row c.args.rows.items (omega (arith, there)))

pub returns-in_default-clause-failed : goal.returns-in_default-clause-failed
returns-in_default-clause-failed c = λ k forest later.
    let values : Items = items_in later c.args.self.now.values.items in
    let stacks : Stacks = stacks_of later c.args.self.now in
    let bindings : Bindings = items_of later c.args.self.now.scope in
    let work : List Pending = c.args.self.now.work in
    let row : ℕ = c.index.result.now in
    let there : c.len.result ≡ length c.args.rows.items = search rules in
    let right : items_in later c.cut_at.result.1.now ≡ drop c.args.sides.right stacks.sources = c.cut_at.ensures.rest later ∙ ap (λ (xs : List Item). drop c.args.sides.right (items_in later xs)) c.as_slice.ensures.value in
    let none : slice_get (drop c.args.sides.right stacks.sources) row ≡ None =
    ap (λ (ys : Items). slice_get ys row) (sym right) ∙ slice_get-map (item_in later) c.cut_at.result.1.now row ∙ ap (option_map (item_in later)) (sym c.item_at.ensures ∙ ap option_copied c.in_default.is) in
    no_item k c.args.join.value c.args.table.value c.args.sides c.args.next row (drop (c.args.row + 1) c.args.rows.items) (drop c.args.row c.args.rows.items) values stacks bindings forest (λ vs beside left. resume k work vs beside (drop 1 bindings) left)
    (next_number c.args.rows.items c.args.row row (omega (arith, there)) c.index.ensures) none

pub returns-clause-value : goal.returns-clause-value
returns-clause-value c = λ k forest later.
    let values : Items = items_in later c.args.self.now.values.items in
    let stacks : Stacks = stacks_of later c.args.self.now in
    let bindings : Bindings = items_of later c.args.self.now.scope in
    let work : List Pending = c.args.self.now.work in
    let row : ℕ = c.index.result.now in
    let y : PlainItem = item_in later c.in_ok-item.item in
    let pairs : Pending = Join (Pairs c.args.table c.args.sides c.args.next c.args.rows (c.args.row + 1)) c.args.join in
    let there : c.len.result ≡ length c.args.rows.items = search rules in
    let right : items_in later c.cut_at.result.1.now ≡ drop c.args.sides.right stacks.sources = c.cut_at.ensures.rest later ∙ ap (λ (xs : List Item). drop c.args.sides.right (items_in later xs)) c.as_slice.ensures.value in
    let some : slice_get (drop c.args.sides.right stacks.sources) row ≡ Some y =
    ap (λ (ys : Items). slice_get ys row) (sym right) ∙ slice_get-map (item_in later) c.cut_at.result.1.now row ∙ ap (option_map (item_in later)) (sym c.item_at.ensures ∙ ap option_copied c.in-Some.is)
    ∙ ap (λ (z : Item). Some (item_in later z)) (sym c.in_ok-item.ensures.cases) in
    ap (λ (w : List Pending). resume k w values stacks (items_of later c.bind.new.self) forest)
    (c.in_ok-push-5.ensures.ok ∙ ap (λ (w : List Pending). Evaluate c.deref-2.result.now.result ∷ w) (c.in_ok-push-4.ensures.ok ∙ ap (λ (w : List Pending). Unbind 1 ∷ w) c.in_ok-push-3.ensures.ok))
    ∙ ap (λ (j : Joined). resume k (Evaluate j.result ∷ Unbind 1 ∷ pairs ∷ work) values stacks (items_of later c.bind.new.self) forest) c.deref-2.ensures
    ∙ ap (λ scope. resume k (Evaluate c.args.join.value.result ∷ Unbind 1 ∷ pairs ∷ work) values stacks (items_of later scope) forest) c.in_ok-bind.ensures
    ∙ ap (λ (j : Joined). resume k (Evaluate c.args.join.value.result ∷ Unbind 1 ∷ pairs ∷ work) values stacks ((j.right, y ∷ []) ∷ bindings) forest) c.deref.ensures
    ∙ rows_go_on k c.args.join.value c.args.table.value c.args.sides c.args.next row (drop (c.args.row + 1) c.args.rows.items) (drop c.args.row c.args.rows.items) y values stacks bindings forest (λ vs beside left. resume k work vs beside (drop 1 bindings) left)
    (next_number c.args.rows.items c.args.row row (omega (arith, there)) c.index.ensures) some

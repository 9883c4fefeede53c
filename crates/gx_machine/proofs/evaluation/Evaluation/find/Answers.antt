use Rattle.std.proofs.Common.{◌≡◌, List, ℕ, None, Some, take, drop, ap, sym, ◌∙◌}
use Rattle.gx_atomic.specs.declared.join_key.JoinKey.{JoinKey}
use Rattle.gx_model.specs.Forest.{Forest}
use Rattle.gx_model.specs.Item.{Items}
use Rattle.gx_core.specs.Outcome.{Outcome}
use Rattle.gx_core.specs.Meaning.{Bindings}
use Rattle.gx_joins.specs.HashJoin.{keys_of_items as keys_of}
use Rattle.gx_join_table.specs.Joining.{rows_with_a_key}
use Rattle.gx_store.specs.Items.{items_in}
use Rattle.gx_machine.specs.declared.evaluation.Pending.{Pending}
use Rattle.gx_machine.specs.Joining.{found_left}
use Rattle.gx_machine.specs.Resume.{Stacks, resume, items_of, stacks_of}
use Rattle.gx_machine.proofs.JoinResuming.{keys_in, no_keys, some_keys}
use Rattle.gx_machine.proofs.evaluation.Evaluation.find.Goals as goal

pub returns-in_default-clause-failed : goal.returns-in_default-clause-failed
returns-in_default-clause-failed g c = λ k forest later.
    let values : Items = items_in later c.args.self.now.values.items in
    no_keys (keys_of (drop c.args.first values)) _ (ap keys_of (sym (c.values_from.ensures later)) ∙ c.in_ok-keys.ensures later ∙ ap keys_in c.in_default.is)

pub returns-clause-value : goal.returns-clause-value
returns-clause-value g c = λ k forest later.
    let values : Items = items_in later c.args.self.now.values.items in
    let front : Items = take c.args.first values in
    let stacks : Stacks = stacks_of later c.args.self.now in
    let bindings : Bindings = items_of later c.args.self.now.scope in
    let work : List Pending = c.args.self.now.work in
    let table : List (List JoinKey) = c.args.table.value in
    let keys : List JoinKey = c.in-Some.keys.items in
    let next : Items → Stacks → Forest → Outcome Items = λ vs beside left. resume k work vs beside (drop 1 bindings) left in
    let found : keys_of (drop c.args.first values) ≡ Some keys = ap keys_of (sym (c.values_from.ensures later)) ∙ c.in_ok-keys.ensures later ∙ ap keys_in c.in-Some.is in
    let rows : c.in_ok-rows.rows.items ≡ rows_with_a_key keys table = c.in_ok-rows.ensures.rows ∙ ap (rows_with_a_key c.as_slice.result.now) c.deref.ensures ∙ ap (λ (ks : List JoinKey). rows_with_a_key ks table) c.as_slice.ensures.value in
    ap (λ (w : List Pending). resume k w (items_in later c.cut_off.new.values.items) stacks bindings forest) c.in_ok-push.ensures.ok
    ∙ ap (λ (ns : List ℕ). found_left k c.args.join.value table c.args.sides c.args.next ns (items_in later c.cut_off.new.values.items) stacks bindings forest next) rows
    ∙ ap (λ (v : Items). found_left k c.args.join.value table c.args.sides c.args.next (rows_with_a_key keys table) v stacks bindings forest next) (c.cut_off.ensures later)
    ∙ some_keys (keys_of (drop c.args.first values)) keys (λ ks. found_left k c.args.join.value table c.args.sides c.args.next (rows_with_a_key ks table) front stacks bindings forest next) found

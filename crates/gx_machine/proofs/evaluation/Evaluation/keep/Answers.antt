use Rattle.std.proofs.Common.{◌≡◌, ◌++◌, ◌∷◌, [], List, None, Some, take, drop, ap, sym, ◌∙◌}
use Rattle.gx_atomic.specs.declared.join_key.JoinKey.{JoinKey}
use Rattle.gx_model.specs.Forest.{Forest}
use Rattle.gx_model.specs.Item.{Items}
use Rattle.gx_core.specs.Outcome.{Outcome}
use Rattle.gx_core.specs.Meaning.{Bindings}
use Rattle.gx_joins.specs.HashJoin.{keys_of_items as keys_of}
use Rattle.gx_store.specs.Items.{items_in}
use Rattle.gx_machine.specs.declared.evaluation.Pending.{Pending}
use Rattle.gx_machine.specs.Joining.{rows_left}
use Rattle.gx_machine.specs.Resume.{Stacks, resume, items_of, stacks_of}
use Rattle.gx_machine.proofs.BlockResuming.{where_put}
use Rattle.gx_machine.proofs.JoinResuming.{keys_in, no_keys, some_keys}
use Rattle.gx_machine.proofs.evaluation.Evaluation.keep.Goals as goal

pub returns-in_default-clause-failed : goal.returns-in_default-clause-failed
returns-in_default-clause-failed g c = λ k forest later.
    let values : Items = items_in later c.args.self.now.values.items in
    no_keys (keys_of (drop c.args.first values)) _ (ap keys_of (sym (c.values_from.ensures later)) ∙ c.in_ok-keys.ensures later ∙ ap keys_in c.in_default.is)

pub returns-clause-value : goal.returns-clause-value
returns-clause-value g c = λ k forest later.
    let values : Items = items_in later c.args.self.now.values.items in
    let front : Items = take c.args.first values in
    let stacks : Stacks = stacks_of later c.args.self.now in
    let bindings : Bindings = items_of later c.args.self.now.scope in
    let work : List Pending = c.args.self.now.work in
    let next : Items → Stacks → Forest → Outcome Items = λ vs beside left. resume k work vs beside bindings left in
    let found : keys_of (drop c.args.first values) ≡ Some c.in-Some.keys.items = ap keys_of (sym (c.values_from.ensures later)) ∙ c.in_ok-keys.ensures later ∙ ap keys_in c.in-Some.is in
    ap (λ (w : List Pending). resume k w (items_in later c.cut_off.new.values.items) stacks bindings forest) c.in_ok-push.ensures.ok
    ∙ ap (λ (t : List (List JoinKey)). rows_left k c.args.join.value t c.args.sides c.args.next (items_in later c.cut_off.new.values.items) stacks bindings forest next) c.in_ok-add.ensures.added
    ∙ ap (λ (t : List (List JoinKey)). rows_left k c.args.join.value (t ++ c.in-Some.keys.items ∷ []) c.args.sides c.args.next (items_in later c.cut_off.new.values.items) stacks bindings forest next) c.deref_mut.ensures.value
    ∙ ap (λ (v : Items). rows_left k c.args.join.value (c.args.table.value ++ c.in-Some.keys.items ∷ []) c.args.sides c.args.next v stacks bindings forest next) (c.cut_off.ensures later)
    ∙ some_keys (keys_of (drop c.args.first values)) c.in-Some.keys.items (λ keys. rows_left k c.args.join.value (c.args.table.value ++ keys ∷ []) c.args.sides c.args.next front stacks bindings forest next) found

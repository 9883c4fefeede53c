use Rattle.std.proofs.Common.{◌≡◌, ◌∷◌, [], List, Option, Some, take, drop, ap, sym, ◌∙◌}
use Rattle.gx_facets.specs.declared.Atomic.{Atomic}
use Rattle.gx_model.specs.Item.{Items}
use Rattle.gx_core.specs.Blocks.{key_of}
use Rattle.gx_core.specs.Meaning.{Bindings}
use Rattle.gx_store.specs.Items.{items_in}
use Rattle.gx_machine.specs.declared.evaluation.Pending.{Pending}
use Rattle.gx_machine.specs.FoundTuples.{with_found, with_keys}
use Rattle.gx_machine.specs.Resume.{Stacks, resume, items_of, stacks_of}
use Rattle.gx_machine.proofs.BlockResuming.{none_is_given, key_taken}
use Rattle.gx_machine.proofs.evaluation.Evaluation.take_key.Goals as goal

pub returns-in_default-clause-failed : goal.returns-in_default-clause-failed
returns-in_default-clause-failed c = λ k forest later rest.
    let values : Items = items_in later c.args.self.now.values.items in
    none_is_given (key_of (drop c.args.first values)) _ (ap key_of (sym (c.values_from-value.ensures later)) ∙ sym (c.in_ok-key.ensures later) ∙ c.in_default.is)

pub returns-clause-value : goal.returns-clause-value
returns-clause-value c = λ k forest later rest.
    let values : Items = items_in later c.args.self.now.values.items in
    let stacks : Stacks = stacks_of later c.args.self.now in
    let bindings : Bindings = items_of later c.args.self.now.scope in
    let work : List Pending = c.args.self.now.work in
    let taken : key_of (drop c.args.first values) ≡ Some c.in-Some.key = ap key_of (sym (c.values_from-value.ensures later)) ∙ sym (c.in_ok-key.ensures later) ∙ c.in-Some.is in
    ap (λ (keys : List (Option Atomic)). resume k work (items_in later c.cut_off.new.values.items) (with_found stacks (record { keys = keys; rows = stacks.found.rows; numbers = stacks.found.numbers })) bindings forest) c.in_ok-push.ensures.items
    ∙ ap (λ (v : Items). resume k work v (with_found stacks (with_keys stacks.found (c.in-Some.key ∷ []))) bindings forest) (c.cut_off.ensures later)
    ∙ key_taken (key_of (drop c.args.first values)) c.in-Some.key (take c.args.first values) stacks forest (λ vs beside left. resume k work vs beside bindings left) taken

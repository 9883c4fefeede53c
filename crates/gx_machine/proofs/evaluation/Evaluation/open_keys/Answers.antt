use Rattle.std.proofs.Common.{◌≡◌, ◌∷◌, ℕ, List, rules, ap, ◌∙◌}
use Rattle.std.proofs.lemmas.List.{nil_from_length}
use Rattle.gx_model.specs.Item.{Items}
use Rattle.gx_core.specs.Meaning.{Bindings}
use Rattle.gx_joins.specs.JoinedMeaning.{joined_meaning as joined}
use Rattle.gx_store.specs.Items.{items_in}
use Rattle.gx_machine.specs.declared.blocks.BlockWork.TheVariants.{TakeKey}
use Rattle.gx_machine.specs.declared.evaluation.Pending.{Pending}
use Rattle.gx_machine.specs.declared.evaluation.Pending.TheVariants.{Block}
use Rattle.gx_machine.specs.Resume.{Stacks, resume, items_of, stacks_of}
use Rattle.gx_machine.proofs.BlockResuming.{where_both, keys_end, keys_open_at}
use Rattle.gx_machine.proofs.evaluation.Evaluation.open_keys.Goals as goal

pub returns-in_default : goal.returns-in_default
returns-in_default c = λ k forest later.
    let values : Items = items_in later c.args.self.now.values.items in
    let stacks : Stacks = stacks_of later c.args.self.now in
    let bindings : Bindings = items_of later c.args.self.now.scope in
    keys_end (joined k) c.args.rest.keys.now bindings values stacks forest (λ vs beside left. resume k c.args.self.now.work vs beside bindings left) (nil_from_length c.args.rest.keys.now c.in_default.ensures.cases)

pub returns : goal.returns
returns c = λ k forest later.
    let values : Items = items_in later c.args.self.now.values.items in
    let stacks : Stacks = stacks_of later c.args.self.now in
    let bindings : Bindings = items_of later c.args.self.now.scope in
    let first : ℕ = c.count_of-first.result in
    let keys : c.args.rest.keys.now ≡ c.in-Some.key.now ∷ c.in-Some.others.now = search rules in
    where_both c.push-3.result (λ (w : List Pending). resume k w values stacks bindings forest) _ _ _ _ _ c.push-3.ensures.ok
    (c.in_ok-push-2.ensures.ok ∙ ap (λ (w : List Pending). Block (TakeKey first) c.args.rest ∷ w) c.in_ok-push.ensures.ok)
    (keys_open_at (joined k) c.args.rest.keys.now c.in-Some.others.now c.in-Some.key.now bindings values first stacks forest (λ vs beside left. resume k c.args.self.now.work vs beside bindings left) keys (c.count_of-first.ensures later))

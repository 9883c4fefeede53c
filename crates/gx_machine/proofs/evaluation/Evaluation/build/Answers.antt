use Rattle.std.proofs.Common.{◌≡◌, ◌+◌, ◌∷◌, [], ◌++◌, List, length, arith, rules, ap, ◌∙◌}
use Rattle.gx_model.specs.Item.{Items, Item as PlainItem}
use Rattle.gx_core.specs.Meaning.{Bindings}
use Rattle.gx_store.specs.declared.item.Item.{Item}
use Rattle.gx_store.specs.Items.{item_in, items_in}
use Rattle.gx_machine.specs.declared.joining.JoinWork.TheVariants.{Keep}
use Rattle.gx_machine.specs.declared.joining.Join.{Join as Joined}
use Rattle.gx_machine.specs.declared.evaluation.Pending.{Pending}
use Rattle.gx_machine.specs.declared.evaluation.Pending.TheVariants.{Join, Unbind, Evaluate}
use Rattle.gx_machine.specs.Resume.{Stacks, resume, items_of, stacks_of}
use Rattle.gx_machine.proofs.LaterItems.{next_source}
use Rattle.gx_machine.proofs.BlockResuming.{where_both}
use Rattle.gx_machine.proofs.JoinResuming.{row_is_added}
use Rattle.gx_machine.proofs.evaluation.Evaluation.build.Goals as goal

pub returns : goal.returns
returns c = λ k forest later.
    let sources : List Item = c.args.self.now.sources.items in
    let values : Items = items_in later c.args.self.now.values.items in
    let stacks : Stacks = stacks_of later c.args.self.now in
    let bindings : Bindings = items_of later c.args.self.now.scope in
    let work : List Pending = c.args.self.now.work in
    let y : PlainItem = item_in later c.in_ok-item.item in
    let keep : Pending = Join (Keep c.args.table c.args.sides (c.args.next + 1) c.count_of-first.result) c.args.join in
    let there : c.len.result ≡ length sources = search rules in
    let source = next_source later sources c.args.next c.in_ok-item.item c.index.result.now (omega (arith, there)) c.index.ensures c.in_ok-item.ensures.cases in
    where_both c.push-4.result (λ (w : List Pending). resume k w values stacks (items_of later c.bind.new.self) forest) _ _ _ _ _ c.push-4.ensures.ok
    (c.in_ok-push-2.ensures.ok ∙ ap (λ (w : List Pending). Unbind 1 ∷ w) c.in_ok-push.ensures.ok)
    (ap (λ (j : Joined). resume k (Evaluate j.right_key ∷ Unbind 1 ∷ keep ∷ work) values stacks (items_of later c.bind.new.self) forest) c.deref-2.ensures
    ∙ ap (λ scope. resume k (Evaluate c.args.join.value.right_key ∷ Unbind 1 ∷ keep ∷ work) values stacks (items_of later scope) forest) c.in_ok-bind.ensures
    ∙ ap (λ (j : Joined). resume k (Evaluate c.args.join.value.right_key ∷ Unbind 1 ∷ keep ∷ work) values stacks ((j.right, y ∷ []) ∷ bindings) forest) c.deref.ensures
    ∙ row_is_added k c.args.join.value c.args.table.value c.args.sides c.args.next y values c.count_of-first.result stacks bindings forest (λ vs beside left. resume k work vs beside bindings left)
    (c.count_of-first.ensures later) source)

use Rattle.std.proofs.Common.{◌≡◌, ◌+◌, ◌∷◌, [], ◌++◌, List, length, take, drop, arith, rules, ap, sym, ◌∙◌}
use Rattle.std.proofs.lemmas.List.{drop-map, drop_all}
use Rattle.gx_model.specs.Item.{Items, Item as PlainItem}
use Rattle.gx_core.specs.Meaning.{Bindings}
use Rattle.gx_store.specs.declared.item.Item.{Item}
use Rattle.gx_store.specs.Items.{item_in, items_in}
use Rattle.gx_machine.specs.declared.joining.JoinWork.TheVariants.{Find}
use Rattle.gx_machine.specs.declared.joining.Join.{Join as Joined}
use Rattle.gx_machine.specs.declared.evaluation.Pending.{Pending}
use Rattle.gx_machine.specs.declared.evaluation.Pending.TheVariants.{Join, Evaluate}
use Rattle.gx_machine.specs.Resume.{Stacks, with_sources, resume, items_of, stacks_of}
use Rattle.gx_machine.proofs.LaterItems.{next_source}
use Rattle.gx_machine.proofs.BlockResuming.{where_both}
use Rattle.gx_machine.proofs.JoinResuming.{pairs_end, left_is_found}
use Rattle.gx_machine.proofs.evaluation.Evaluation.probe.Goals as goal

pub returns-then-next-left : goal.returns-then-next-left
returns-then-next-left c = λ k forest later.
    let left : List Item = c.cut_at.result.0.now in
    let values : Items = items_in later c.args.self.now.values.items in
    let stacks : Stacks = stacks_of later c.args.self.now in
    let bindings : Bindings = items_of later c.args.self.now.scope in
    let work : List Pending = c.args.self.now.work in
    let before : items_in later left ≡ take c.args.sides.right stacks.sources = c.cut_at.ensures.front later ∙ ap (λ (xs : List Item). take c.args.sides.right (items_in later xs)) c.as_slice.ensures.value in
    let none : drop c.args.next (take c.args.sides.right stacks.sources) ≡ [] =
    ap (drop c.args.next) (sym before) ∙ drop-map (item_in later) c.args.next left ∙ ap (items_in later) (drop_all c.args.next left (omega (arith, c.if-next-left.true))) in
    ap (λ (s : Items). resume k work values (with_sources stacks s) bindings forest) (c.cut_off.ensures later)
    ∙ pairs_end k c.args.join.value c.args.table.value c.args.sides c.args.next values stacks bindings forest (λ vs beside left. resume k work vs beside bindings left) none

pub returns : goal.returns
returns c = λ k forest later.
    let left : List Item = c.cut_at.result.0.now in
    let values : Items = items_in later c.args.self.now.values.items in
    let stacks : Stacks = stacks_of later c.args.self.now in
    let bindings : Bindings = items_of later c.args.self.now.scope in
    let work : List Pending = c.args.self.now.work in
    let x : PlainItem = item_in later c.in_ok-item.item in
    let find : Pending = Join (Find c.args.table c.args.sides (c.args.next + 1) c.count_of-first.result) c.args.join in
    let before : items_in later left ≡ take c.args.sides.right stacks.sources = c.cut_at.ensures.front later ∙ ap (λ (xs : List Item). take c.args.sides.right (items_in later xs)) c.as_slice.ensures.value in
    let source : drop c.args.next (take c.args.sides.right stacks.sources) ≡ x ∷ drop (c.args.next + 1) (take c.args.sides.right stacks.sources) =
    ap (drop c.args.next) (sym before)
    ∙ next_source later left c.args.next c.in_ok-item.item c.index-left-next.result (omega (arith, c.if-next-left.false)) c.index-left-next.is c.in_ok-item.ensures.cases
    ∙ ap (λ (v : Items). x ∷ drop (c.args.next + 1) v) before in
    where_both c.push-2.result (λ (w : List Pending). resume k w values stacks (items_of later c.bind.new.self) forest) _ _ _ _ _ c.push-2.ensures.ok
    c.in_ok-push.ensures.ok
    (ap (λ (j : Joined). resume k (Evaluate j.left_key ∷ find ∷ work) values stacks (items_of later c.bind.new.self) forest) c.deref-2.ensures
    ∙ ap (λ scope. resume k (Evaluate c.args.join.value.left_key ∷ find ∷ work) values stacks (items_of later scope) forest) c.in_ok-bind.ensures
    ∙ ap (λ (j : Joined). resume k (Evaluate c.args.join.value.left_key ∷ find ∷ work) values stacks ((j.left, x ∷ []) ∷ bindings) forest) c.deref.ensures
    ∙ left_is_found k c.args.join.value c.args.table.value c.args.sides c.args.next x values c.count_of-first.result stacks bindings forest (λ vs beside left. resume k work vs beside bindings left)
    (c.count_of-first.ensures later) source)

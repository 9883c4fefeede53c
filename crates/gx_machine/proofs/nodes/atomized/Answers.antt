use Rattle.std.proofs.Common.{◌≡◌, ℕ, suc, ◌∷◌, append-nil, List, drop, Some, ap, sym, ◌∙◌, add-one}
use Rattle.std.proofs.lemmas.List.{drop_all}
use Rattle.std.proofs.lemmas.Result.{err_from_is_err_and}
use Rattle.gx_model.specs.Atomization.{atomized, joined_values}
use Rattle.gx_model.specs.Item.{Items}
use Rattle.gx_store.specs.declared.item.Item.{Item}
use Rattle.gx_store.specs.Items.{item_in, items_in}
use Rattle.gx_machine.proofs.LaterItems.{items_from}
use Rattle.gx_machine.proofs.NodeOperators.{one_more_typed, one_fails}
use Rattle.gx_machine.proofs.nodes.atomized.Goals as goal

pub returns-in_err-push_typed-clause-failed : goal.returns-in_err-push_typed-clause-failed
returns-in_err-push_typed-clause-failed c = λ later x.
    let s = c.args.schemas.now in
    let forest = c.args.store.now in
    let items : List Item = c.args.items.now in
    let typed : Items = items_in later c.loop-item.typed.items in
    let i : ℕ = c.loop-item.item-index in
    let all : joined_values (Some typed) (atomized s forest (item_in later c.item-item.result ∷ items_in later (drop (suc i) items))) ≡ atomized s forest (items_in later items) =
    ap (λ (v : Items). joined_values (Some typed) (atomized s forest v)) (sym (items_from later items i c.item-item.result c.loop-item-test.true c.item-item.is)) ∙ c.loop-item.invariant later x in
    let p = err_from_is_err_and c.from_residual-in_err-push_typed.result c.from_residual-in_err-push_typed.ensures.1 in
    rw (p.1, p.2)
    (one_fails s forest (item_in later c.item-item.result) typed (items_in later (drop (suc i) items)) (atomized s forest (items_in later items)) _ all (c.in_err-push_typed.ensures.failed later x))

pub loop-item-preserved : goal.loop-item-preserved
loop-item-preserved c = λ later x.
    let s = c.args.schemas.now in
    let forest = c.args.store.now in
    let items : List Item = c.args.items.now in
    let typed : Items = items_in later c.loop-item.typed.items in
    let now : Items = items_in later c.push_typed.new.typed.items in
    let i : ℕ = c.loop-item.item-index in
    ap (λ (n : ℕ). joined_values (Some now) (atomized s forest (items_in later (drop n items)))) (add-one i)
    ∙ one_more_typed s forest (item_in later c.item-item.result) typed now (items_in later (drop (suc i) items)) (c.in_ok-push_typed.ensures.value later x)
    ∙ ap (λ (v : Items). joined_values (Some typed) (atomized s forest v)) (sym (items_from later items i c.item-item.result c.loop-item-test.true c.item-item.is))
    ∙ c.loop-item.invariant later x

pub returns-clause-value : goal.returns-clause-value
returns-clause-value c = λ later x.
    let s = c.args.schemas.now in
    let forest = c.args.store.now in
    let typed : Items = items_in later c.loop-item.typed.items in
    sym (c.loop-item.invariant later x) ∙ ap (λ (xs : List Item). joined_values (Some typed) (atomized s forest (items_in later xs))) (drop_all c.loop-item.item-index c.args.items.now c.loop-item-test.false)
    ∙ ap (λ (v : Items). Some v) (append-nil typed)

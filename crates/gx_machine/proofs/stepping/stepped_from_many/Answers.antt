use Rattle.std.proofs.Common.{◌≡◌, ℕ, suc, ◌+◌, add-one, ◌++◌, ◌∷◌, [], List, map, drop, ap, sym, subst, ◌∙◌}
use Rattle.std.proofs.lemmas.Result.{err_from_is_err_and}
use Rattle.gx_model.specs.Item.{Item as PlainItem, Items, node}
use Rattle.gx_core.specs.Outcome.{gives}
use Rattle.gx_core.specs.Paths.{stepped}
use Rattle.gx_core.specs.PathLaws.{stepped_from_each}
use Rattle.gx_store.specs.declared.item.Item.{Item}
use Rattle.gx_store.specs.declared.number.NodeId.{NodeId}
use Rattle.gx_store.specs.Items.{item_in, items_in}
use Rattle.gx_store.specs.Places.{node_places}
use Rattle.gx_machine.specs.Failing.{FailsSo}
use Rattle.gx_machine.proofs.LaterItems.{items_from}
use Rattle.gx_machine.proofs.ManySteps.{nodes_behind, one_more_step, one_step_fails}
use Rattle.gx_machine.proofs.Resuming.{fails_also}
use Rattle.gx_machine.proofs.stepping.stepped_from_many.Goals as goal

pub returns-in_err-more-clause-failed : goal.returns-in_err-more-clause-failed
returns-in_err-more-clause-failed c = λ later done x.
    let s = c.args.schemas.now in
    let axis = c.args.axis in
    let asks = c.args.test.now in
    let forest = c.args.store.now in
    let items : List Item = c.args.operand.now in
    let i : ℕ = c.loop-item.item-index in
    let here : PlainItem = item_in later c.item-item.result in
    let front : Items = done ++ map node (node_places later c.loop-item.found.items) in
    let rest : Items = items_in later (drop (suc i) items) in
    let p = err_from_is_err_and c.from_residual.result c.from_residual.ensures.1 in
    rw (p.1, p.2)
    (fails_also _ (stepped_from_each s axis asks done (items_in later items) forest) (stepped_from_each s axis asks front (here ∷ rest) forest)
    (sym (c.loop-item.invariant later done x)
    ∙ ap (λ (v : Items). stepped_from_each s axis asks front v forest) (items_from later items i c.item-item.result c.loop-item-test.true c.item-item.is))
    (one_step_fails s axis asks front here rest forest _
    (subst (λ (xs : List Item). FailsSo c.in_err-more.field-0.0 (stepped s axis asks (items_in later xs) forest)) c.from_ref.ensures.value (c.in_err-more.ensures.failed later x))))

pub loop-item-preserved : goal.loop-item-preserved
loop-item-preserved c = λ later done x.
    let s = c.args.schemas.now in
    let axis = c.args.axis in
    let asks = c.args.test.now in
    let forest = c.args.store.now in
    let items : List Item = c.args.operand.now in
    let i : ℕ = c.loop-item.item-index in
    let here : PlainItem = item_in later c.item-item.result in
    let before : List NodeId = c.loop-item.found.items in
    let more : List NodeId = c.in_ok-more.more.items in
    let front : Items = done ++ map node (node_places later before) in
    let rest : Items = items_in later (drop (suc i) items) in
    let step : stepped s axis asks (here ∷ []) forest ≡ gives (map node (node_places later more)) forest =
    subst (λ (xs : List Item). stepped s axis asks (items_in later xs) forest ≡ gives (map node (node_places later more)) forest) c.from_ref.ensures.value (c.in_ok-more.ensures.value later x) in
    ap (λ (ns : List NodeId). stepped_from_each s axis asks (done ++ map node (node_places later ns)) (items_in later (drop (i + 1) items)) forest) c.in_ok-append.ensures.items
    ∙ ap (λ (n : ℕ). stepped_from_each s axis asks (done ++ map node (node_places later (before ++ more))) (items_in later (drop n items)) forest) (add-one i)
    ∙ ap (λ (v : Items). stepped_from_each s axis asks v rest forest) (nodes_behind later done before more)
    ∙ sym (one_more_step s axis asks front (map node (node_places later more)) here rest forest step)
    ∙ ap (λ (v : Items). stepped_from_each s axis asks front v forest) (sym (items_from later items i c.item-item.result c.loop-item-test.true c.item-item.is))
    ∙ c.loop-item.invariant later done x

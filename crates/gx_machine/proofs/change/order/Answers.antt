use Rattle.std.proofs.Common.{◌≡◌, ◌++◌, List, map, drop, take, ap, sym, subst, ◌∙◌}
use Rattle.std.proofs.lemmas.Result.{err_from_is_err_and}
use Rattle.gx_model.specs.Forest.{PlainNode}
use Rattle.gx_model.specs.Item.{Items, node}
use Rattle.gx_core.specs.Outcome.{gives}
use Rattle.gx_core.specs.Paths.{put_in_order}
use Rattle.gx_store.specs.Items.{items_in}
use Rattle.gx_store.specs.Places.{node_places}
use Rattle.gx_machine.proofs.NodeOperators.{order_stays, order_changes}
use Rattle.gx_machine.proofs.Resuming.{fails_also}
use Rattle.gx_machine.proofs.change.order.Goals as goal

pub returns-in_err-nodes-clause-failed : goal.returns-in_err-nodes-clause-failed
returns-in_err-nodes-clause-failed c = λ k later x.
    let forest = c.args.store.now in
    let rest : items_in later c.values_from-operand.result.now ≡ drop c.args.first (items_in later c.args.values.now.items) = c.values_from-operand.ensures later in
    let p = err_from_is_err_and c.from_residual.result c.from_residual.ensures.1 in
    rw (p.1, p.2) (fails_also _ _ _ (ap (λ (v : Items). put_in_order v forest) (sym rest)) (c.in_err-nodes.ensures.failed later x))

pub returns-in_default-clause-value : goal.returns-in_default-clause-value
returns-in_default-clause-value c = λ k later x.
    let forest = c.args.store.now in
    let rest : items_in later c.values_from-operand.result.now ≡ drop c.args.first (items_in later c.args.values.now.items) = c.values_from-operand.ensures later in
    order_stays k c.args.first (items_in later c.args.values.now.items) forest
    (subst (λ (v : Items). put_in_order v forest ≡ gives v forest) rest (rw c.in_default.is at (c.in_ok-nodes.ensures.value later x)))

pub returns-clause-value : goal.returns-clause-value
returns-clause-value c = λ k later x.
    let forest = c.args.store.now in
    let first = c.args.first in
    let values : Items = items_in later c.args.values.now.items in
    let places : List PlainNode = node_places later c.in-Some.nodes.items in
    let rest : items_in later c.values_from-operand.result.now ≡ drop first values = c.values_from-operand.ensures later in
    let ordered : put_in_order (drop first values) forest ≡ gives (map node places) forest =
    subst (λ (v : Items). put_in_order v forest ≡ gives (map node places) forest) rest (rw c.in-Some.is at (c.in_ok-nodes.ensures.value later x)) in
    order_changes k first values places forest ordered
    ∙ ap (λ (v : Items). gives v forest)
    (sym (c.in_ok-append_nodes.ensures later ∙ ap (λ (v : Items). v ++ map node (node_places later c.as_slice.result.now)) (c.cut_off.ensures later)
    ∙ ap (λ ns. take first values ++ map node (node_places later ns)) c.as_slice.ensures.value))

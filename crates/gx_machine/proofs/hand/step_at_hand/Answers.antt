use Rattle.std.proofs.Common.{◌≡◌, List, Option, Some, map, ap, sym, ◌∙◌}
use Rattle.gx_model.specs.Forest.{PlainNode}
use Rattle.gx_model.specs.Item.{Items, node}
use Rattle.gx_core.specs.Bindings.{look_up}
use Rattle.gx_core.specs.Outcome.{gives, given}
use Rattle.gx_core.specs.Paths.{stepped}
use Rattle.gx_nodes.specs.Entries.{place_of_number}
use Rattle.gx_store.specs.Items.{items_in}
use Rattle.gx_machine.specs.Resume.{items_of}
use Rattle.gx_machine.proofs.AtHand.{if_some}
use Rattle.gx_machine.proofs.LaterItems.{found_items}
use Rattle.gx_machine.proofs.NodeOperators.{step_from_node}
use Rattle.gx_machine.proofs.hand.step_at_hand.Goals as goal

pub returns : goal.returns
returns c = λ later x.
    let s = c.args.schemas.now in
    let forest = c.args.store.now in
    let xs : Items = items_in later c.as_slice.result.now in
    let found : look_up (items_of later c.args.scope.now) c.args.number ≡ Some xs = found_items later c.args.scope.now c.args.number c.in-Some.bound.now xs c.in-Some.ensures (c.as_slice.ensures later) in
    if_some c.node_at_hand.result (c.node_at_hand.ensures later)
    (λ hand e.
    ap (λ (o : Option Items). given o (λ ys. stepped s c.args.axis c.args.test.now ys forest)) found
    ∙ step_from_node s c.args.axis c.args.test.now xs forest (place_of_number later c.in-Some-only_node.node.number) (sym (c.in-Some-only_node.ensures later))
    ∙ ap (λ (ps : List PlainNode). gives (map node ps) forest) (sym (c.in_ok-found.ensures later x))
    ∙ ap (λ (v : Items). gives v forest) e)

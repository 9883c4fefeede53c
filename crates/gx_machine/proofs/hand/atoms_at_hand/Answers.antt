use Rattle.std.proofs.Common.{◌≡◌, Some, ap, sym, ◌∙◌}
use Rattle.gx_core.specs.Outcome.{gives}
use Rattle.gx_core.specs.Meaning.{Context, Bindings}
use Rattle.gx_joins.specs.JoinedMeaning.{joined_meaning as joined}
use Rattle.gx_model.specs.Item.{Items}
use Rattle.gx_nodes.specs.Entries.{place_of_number}
use Rattle.gx_machine.specs.BoundItems.{hand_items}
use Rattle.gx_machine.specs.OneItem.{only_node}
use Rattle.gx_machine.specs.Resume.{context_with, items_of}
use Rattle.gx_machine.proofs.AtHand.{if_both, if_found, node_is_typed}
use Rattle.gx_machine.proofs.NodeOperators.{data_at_hand}
use Rattle.gx_machine.proofs.hand.atoms_at_hand.Goals as goal

pub returns-in-Some-only_node : goal.returns-in-Some-only_node
returns-in-Some-only_node c = λ calls later x.
    let k : Context = context_with c.args.schemas.now calls in
    let forest = c.args.store.now in
    let xs : Items = hand_items later c.in-Some.hand in
    let bindings : Bindings = items_of later c.args.scope.now in
    let e : joined k c.args.operand.now bindings forest ≡ gives xs forest = rw c.in-Some.is at (c.in_ok-hand.ensures calls later x) in
    let alone : only_node xs ≡ Some (place_of_number later c.in-Some-only_node.node.number) = ap only_node (sym (c.as_slice.ensures later)) ∙ sym (c.in-Some-only_node.ensures later) in
    if_found c.typed_at_hand.result (c.typed_at_hand.ensures later x)
    (λ hand t. node_is_typed k forest (joined k c.args.operand.now) xs (hand_items later hand) (place_of_number later c.in-Some-only_node.node.number) bindings e alone t)

pub returns-in-None : goal.returns-in-None
returns-in-None c = λ calls later x.
    let k : Context = context_with c.args.schemas.now calls in
    let forest = c.args.store.now in
    let bindings : Bindings = items_of later c.args.scope.now in
    let e : joined k c.args.operand.now bindings forest ≡ gives (hand_items later c.in-Some.hand) forest = rw c.in-Some.is at (c.in_ok-hand.ensures calls later x) in
    if_both c.atoms_alone.result (c.atoms_alone.ensures.alone later) (c.atoms_alone.ensures.same later)
    (λ hand alone same. data_at_hand k forest (joined k c.args.operand.now) (hand_items later hand) bindings (e ∙ ap (λ (v : Items). gives v forest) (sym same)) alone)

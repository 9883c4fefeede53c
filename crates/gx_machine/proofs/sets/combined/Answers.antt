use Rattle.std.proofs.Common.{List, ap, sym, ◌∙◌}
use Rattle.gx_model.specs.DocumentOrder.{in_document_order}
use Rattle.gx_model.specs.Forest.{PlainNode}
use Rattle.gx_core.specs.CombiningNodes.{combined}
use Rattle.gx_core.specs.Paths.{places_of}
use Rattle.gx_store.specs.Items.{items_in}
use Rattle.gx_store.specs.Places.{node_places}
use Rattle.gx_machine.proofs.NodeOperators.{sets_of_nodes, others_are_no_sets}
use Rattle.gx_machine.proofs.sets.combined.Goals as goal

pub returns-then-not-are_nodes-clause-failed : goal.returns-then-not-are_nodes-clause-failed
returns-then-not-are_nodes-clause-failed c = λ later x.
    others_are_no_sets c.args.operator (items_in later c.args.left.now) (items_in later c.args.right.now) c.args.store.now (sym (c.are_nodes.ensures later) ∙ c.if-not-are_nodes.true)

pub returns-clause-value : goal.returns-clause-value
returns-clause-value c = λ later x.
    let forest = c.args.store.now in
    let operator = c.args.operator in
    sets_of_nodes operator (items_in later c.args.left.now) (items_in later c.args.right.now) forest (node_places later c.in_ok-nodes.nodes.items) (sym (c.are_nodes.ensures later) ∙ c.if-not-are_nodes.false)
    (c.in_ok-nodes.ensures later x
    ∙ ap (λ (ns : List PlainNode). in_document_order forest (combined operator ns (node_places later c.in_ok-second.second.items))) (c.in_ok-first.ensures later)
    ∙ ap (λ (ns : List PlainNode). in_document_order forest (combined operator (places_of (items_in later c.args.left.now)) ns)) (c.in_ok-second.ensures later))

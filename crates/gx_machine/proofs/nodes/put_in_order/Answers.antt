use Rattle.std.proofs.Common.{ap, sym, ◌∙◌}
use Rattle.gx_model.specs.DocumentOrder.{in_document_order}
use Rattle.gx_store.specs.Items.{items_in}
use Rattle.gx_store.specs.Places.{node_places}
use Rattle.gx_machine.proofs.NodeOperators.{nodes_ordered, mixed_are_wrong, atoms_ordered}
use Rattle.gx_machine.proofs.nodes.put_in_order.Goals as goal

pub returns-then-all_nodes-clause-value : goal.returns-then-all_nodes-clause-value
returns-then-all_nodes-clause-value c = λ later x.
    nodes_ordered (items_in later c.args.operand.now) c.args.store.now (node_places later c.distinct_order.result.items) (sym (c.all_nodes.ensures later) ∙ c.if-all_nodes.true)
    (c.distinct_order.ensures later x ∙ ap (in_document_order c.args.store.now) (c.in_ok-nodes.ensures later))

pub returns-then-any_node-clause-failed : goal.returns-then-any_node-clause-failed
returns-then-any_node-clause-failed c = λ later x.
    mixed_are_wrong (items_in later c.args.operand.now) c.args.store.now (sym (c.all_nodes.ensures later) ∙ c.if-all_nodes.false) (sym (c.any_node.ensures later) ∙ c.if-any_node.true)

pub returns-clause-value : goal.returns-clause-value
returns-clause-value c = λ later x.
    atoms_ordered (items_in later c.args.operand.now) c.args.store.now (sym (c.all_nodes.ensures later) ∙ c.if-all_nodes.false) (sym (c.any_node.ensures later) ∙ c.if-any_node.false)

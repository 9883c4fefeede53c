use Rattle.std.proofs.Common.{ap, sym, ◌∙◌}
use Rattle.std.specs.List.{list_all}
use Rattle.gx_core.specs.Paths.{is_node}
use Rattle.gx_store.specs.Items.{items_in}
use Rattle.gx_machine.proofs.NodeOperators.{nodes_stay, others_are_wrong}
use Rattle.gx_machine.proofs.change.check_nodes.Goals as goal

pub returns-then-all_nodes-clause-value : goal.returns-then-all_nodes-clause-value
returns-then-all_nodes-clause-value c = λ k forest later.
    nodes_stay k c.args.first (items_in later c.args.values.now.items) forest
    (ap (list_all is_node) (sym (c.values_from-operand.ensures later)) ∙ sym (c.all_nodes.ensures later) ∙ c.if-all_nodes.true)

pub returns-else-all_nodes-clause-failed : goal.returns-else-all_nodes-clause-failed
returns-else-all_nodes-clause-failed c = λ k forest later.
    others_are_wrong k c.args.first (items_in later c.args.values.now.items) forest
    (ap (list_all is_node) (sym (c.values_from-operand.ensures later)) ∙ sym (c.all_nodes.ensures later) ∙ c.if-all_nodes.false)

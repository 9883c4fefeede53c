use Rattle.std.proofs.Common.{Bool, ◌&&◌, ap, sym, ◌∙◌}
use Rattle.std.specs.List.{list_all}
use Rattle.gx_core.specs.Paths.{is_node}
use Rattle.gx_store.specs.Items.{items_in}
use Rattle.gx_machine.proofs.sets.are_nodes.Goals as goal

pub returns-then-all_nodes : goal.returns-then-all_nodes
returns-then-all_nodes c = λ later.
    c.all_nodes-then-all_nodes.ensures later ∙ sym (ap (λ (b : Bool). b && list_all is_node (items_in later c.args.right.now)) (sym (c.all_nodes.ensures later) ∙ c.if-all_nodes.true))

pub returns-else-all_nodes : goal.returns-else-all_nodes
returns-else-all_nodes c = λ later.
    c.if-all_nodes.false ∙ sym (ap (λ (b : Bool). b && list_all is_node (items_in later c.args.right.now)) (sym (c.all_nodes.ensures later) ∙ c.if-all_nodes.false))

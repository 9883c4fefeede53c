use Rattle.std.proofs.Common.{sym, ◌∙◌}
use Rattle.gx_static.proofs.NodeTypes.{one_node_is_included}
use Rattle.gx_static.proofs.nodes.is_one_node_or_none.Goals as goal

pub returns : goal.returns
returns c = λ h. one_node_is_included c.args.schemas.now c.args.t.now c.types-types.ensures.invariant.grounded (sym c.has_one_node_item.ensures ∙ h)

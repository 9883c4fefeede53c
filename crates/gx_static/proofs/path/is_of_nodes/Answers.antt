use Rattle.std.proofs.Common.{sym, ◌∙◌}
use Rattle.gx_static.proofs.NodeTypes.{nodes_are_included}
use Rattle.gx_static.proofs.path.is_of_nodes.Goals as goal

pub returns : goal.returns
returns c = λ h. nodes_are_included c.args.schemas.now c.args.t.now c.types-types.ensures.invariant.grounded (sym c.is_all_nodes.ensures ∙ h)

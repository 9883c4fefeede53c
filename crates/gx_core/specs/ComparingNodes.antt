-- Comparisons of nodes (XQuery 1.0, section 3.5.3).
use Rattle.std.specs.Prelude.{Bool}
use Rattle.gx_model.specs.Forest.{Forest, PlainNode}
use Rattle.gx_model.specs.Item.{Item, node, Items}
use Rattle.gx_model.specs.DocumentOrder.{comes_before, same_node}
use Rattle.gx_core.specs.declared.expression.NodeComparison.{NodeComparison}
use Rattle.gx_core.specs.declared.expression.NodeComparison.TheVariants.{Is, Before, After}
use Rattle.gx_core.specs.Outcome.{Outcome, gives, wrong}
use Rattle.gx_core.specs.Operands.{on_two}
use Rattle.gx_core.specs.Comparing.{truth_value}

abbrev pub node_comparison : NodeComparison → PlainNode → PlainNode → Bool
node_comparison Is a b = same_node a b
node_comparison Before a b = comes_before a b
node_comparison After a b = comes_before b a

-- an atomic value is a type error
abbrev pub compared_nodes : NodeComparison → Item → Item → Forest → Outcome Items
compared_nodes op (node a) (node b) forest = gives (truth_value (node_comparison op a b)) forest
compared_nodes op _ _ forest = wrong

abbrev pub nodes_compared : NodeComparison → Items → Items → Forest → Outcome Items
nodes_compared op xs ys forest = on_two xs ys forest (compared_nodes op)

-- Combinations of sequences of nodes (XQuery 1.0, section 3.3.3).
use Rattle.std.specs.Prelude.{◌&&◌, not, List, ◌++◌, map, filter, if◌then◌else◌}
use Rattle.std.specs.List.{list_all, list_any}
use Rattle.gx_model.specs.Forest.{Forest, PlainNode}
use Rattle.gx_model.specs.Item.{node, Items}
use Rattle.gx_model.specs.DocumentOrder.{same_node, in_document_order}
use Rattle.gx_core.specs.declared.expression.NodeCombination.{NodeCombination}
use Rattle.gx_core.specs.declared.expression.NodeCombination.TheVariants.{Union, Intersect, Except}
use Rattle.gx_core.specs.Outcome.{Outcome, gives, wrong}
use Rattle.gx_core.specs.Paths.{is_node, places_of}

-- the nodes of either sequence, those of the first that occur in the second, and those of the first that do not
abbrev pub combined : NodeCombination → (first second : List PlainNode) → List PlainNode
combined Union first second = first ++ second
combined Intersect first second = filter (λ n. list_any (same_node n) second) first
combined Except first second = filter (λ n. not (list_any (same_node n) second)) first

-- in document order, each once; an atomic value in an operand is a type error
abbrev pub nodes_combined : NodeCombination → Items → Items → Forest → Outcome Items
nodes_combined op xs ys forest =
    if list_all is_node xs && list_all is_node ys
    then gives (map node (in_document_order forest (combined op (places_of xs) (places_of ys)))) forest else wrong

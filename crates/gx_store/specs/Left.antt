-- The nodes that are left of the children, the attributes or the descendants of a node.
use Rattle.std.specs.Prelude.{ℕ, List, map}
use Rattle.gx_model.specs.Forest.{Forest}
use Rattle.gx_tree.specs.PlainTree.{PlainTree}
use Rattle.gx_nodes.specs.Entries.{entry_in}
use Rattle.gx_nodes.specs.Hops.{hops}
use Rattle.gx_store.specs.declared.children.Group.{Group}
use Rattle.gx_store.specs.declared.children.Group.TheVariants.{Attributes, Children, Descendants}
use Rattle.gx_store.specs.declared.number.NodeId.{NodeId}
use Rattle.gx_store.specs.Stored.{below_in, attributes_at}

abbrev pub numbered : ℕ → NodeId
numbered n = record { number = n }

-- what is left out behind a node of a group: all below a child, and the attributes of a descendant
abbrev pub left_out : Group → Forest → ℕ → ℕ
left_out Attributes forest = λ n. 0
left_out Children forest = below_in forest
left_out Descendants forest = attributes_at forest

-- the nodes of a group from a number on
abbrev pub nodes_left : Group → Forest → ℕ → ℕ → List NodeId
nodes_left group forest next end = map numbered (hops (left_out group forest) next end)

abbrev pub children_left : Forest → ℕ → ℕ → List NodeId
children_left = nodes_left Children

abbrev pub attributes_left : ℕ → ℕ → List NodeId
attributes_left next end = map numbered (hops (λ n. 0) next end)

abbrev pub descendants_left : Forest → ℕ → ℕ → List NodeId
descendants_left = nodes_left Descendants

-- the trees of nodes
abbrev pub trees_numbered : Forest → List NodeId → List PlainTree
trees_numbered forest = map (λ m. (entry_in forest m.number).tree)

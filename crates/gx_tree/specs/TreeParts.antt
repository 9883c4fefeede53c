-- The children of a tree are smaller than it.
use Rattle.std.specs.Prelude.{◌+◌, ◌≤◌, List, [], ◌∷◌, max}
use Rattle.std.proofs.Common.{arith}
use denote.Param.Weighed.{most}
use Rattle.gx_tree.specs.declared.tree.TreeNode.{TreeNode}
use Rattle.gx_tree.specs.declared.tree.TreeNode.TheVariants.{Document, Element, Attribute, Text}
use Rattle.gx_tree.specs.declared.tree.Tree.TheDeep.{deep-TreeNode}
use Rattle.gx_tree.specs.PlainTree.{PlainTree, tree_size, trees_size, trees_of}
use Rattle.gx_tree.specs.TreeView.{plain_tree_of}

-- no tree of a list is larger than all of them together
pub most_le-trees_size : (ts : List PlainTree) → most (λ t. tree_size t + 1) ts ≤ 1 + trees_size (trees_of ts)
most_le-trees_size [] = omega arith
most_le-trees_size (t ∷ ts) = omega (arith, most_le-trees_size ts)

pub child_trees_are_smaller : (n : TreeNode) → max (deep-TreeNode n) 0 ≤ tree_size (plain_tree_of n)
child_trees_are_smaller (Document children) = omega (arith, most_le-trees_size children.items)
child_trees_are_smaller (Element name kind attributes children) = omega (arith, most_le-trees_size children.items)
child_trees_are_smaller (Attribute a) = omega arith
child_trees_are_smaller (Text t) = omega arith

-- The plain tree that a node stands for.
use Rattle.gx_tree.specs.declared.tree.TreeNode.{TreeNode}
use Rattle.gx_tree.specs.declared.tree.TreeNode.TheVariants.{Document, Element, Attribute, Text}
use Rattle.gx_tree.specs.PlainTree.{PlainTree, document, element, attribute, text, trees_of}

abbrev pub plain_tree_of : TreeNode → PlainTree
plain_tree_of (Document children) = document (trees_of children.items)
plain_tree_of (Element name kind attributes children) = element name kind attributes.items (trees_of children.items)
plain_tree_of (Attribute a) = attribute a
plain_tree_of (Text t) = text t

-- The string value of a node.
use Rattle.std.specs.Prelude.{ℕ, List, [], ◌∷◌, ◌++◌}
use Rattle.gx_tree.specs.PlainTree.{PlainTree, PlainTrees, document, element, attribute, text, no_trees, a_tree}

-- the texts that a node holds, one after another; of an attribute its value
abbrev mutual
  pub string_value : PlainTree → List ℕ
  string_value (document ts) = string_values ts
  string_value (element name kind attributes ts) = string_values ts
  string_value (attribute a) = a.value
  string_value (text t) = t

  pub string_values : PlainTrees → List ℕ
  string_values no_trees = []
  string_values (a_tree t ts) = string_value t ++ string_values ts

-- the node and all nodes that are its descendants, in document order
abbrev mutual
  pub self_and_descendants : PlainTree → List PlainTree
  self_and_descendants (document ts) = document ts ∷ all_descendants ts
  self_and_descendants (element name kind attributes ts) = element name kind attributes ts ∷ all_descendants ts
  self_and_descendants (attribute a) = attribute a ∷ []
  self_and_descendants (text t) = text t ∷ []

  pub all_descendants : PlainTrees → List PlainTree
  all_descendants no_trees = []
  all_descendants (a_tree t ts) = self_and_descendants t ++ all_descendants ts

-- the contents of the text nodes among these nodes
abbrev pub text_contents : List PlainTree → List (List ℕ)
text_contents [] = []
text_contents (text t ∷ ts) = t ∷ text_contents ts
text_contents (_ ∷ ts) = text_contents ts

-- the texts one after another
abbrev pub texts_joined : List (List ℕ) → List ℕ
texts_joined [] = []
texts_joined (t ∷ ts) = t ++ texts_joined ts

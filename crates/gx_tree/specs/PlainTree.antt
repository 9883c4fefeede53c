-- A tree of nodes, as the definitions see it.
use Rattle.std.specs.Prelude.{ℕ, ◌+◌, List, [], ◌∷◌}
use Rattle.gx_base.specs.declared.name.Name.{Name}
use Rattle.gx_base.specs.declared.type_name.TypeName.{TypeName}
use Rattle.gx_tree.specs.declared.attribute.Attribute.{Attribute}

-- a node with all that it holds
mutual
  pub data PlainTree : Type 0 where
    document : (children : PlainTrees) → PlainTree
    element : (name : Name) (kind : TypeName) (attributes : List Attribute) (children : PlainTrees) → PlainTree
    attribute : Attribute → PlainTree
    text : List ℕ → PlainTree

  pub data PlainTrees : Type 0 where
    no_trees : PlainTrees
    a_tree : (first : PlainTree) (others : PlainTrees) → PlainTrees

-- the trees of a list
abbrev pub trees_of : List PlainTree → PlainTrees
trees_of [] = no_trees
trees_of (t ∷ ts) = a_tree t (trees_of ts)

-- how many nodes there are, attributes of elements not counted
abbrev mutual
  pub tree_size : PlainTree → ℕ
  tree_size (document ts) = 1 + trees_size ts
  tree_size (element name kind attributes ts) = 1 + trees_size ts
  tree_size (attribute a) = 1
  tree_size (text t) = 1

  pub trees_size : PlainTrees → ℕ
  trees_size no_trees = 0
  trees_size (a_tree t ts) = tree_size t + trees_size ts

-- the children of a document or an element are elements and texts, at every depth
abbrev mutual
  pub IsProper : PlainTree → Type 0
  IsProper (document ts) = AreContent ts
  IsProper (element name kind attributes ts) = AreContent ts
  IsProper (attribute a) = Unit {0}
  IsProper (text t) = Unit {0}

  pub AreContent : PlainTrees → Type 0
  AreContent no_trees = Unit {0}
  AreContent (a_tree t ts) = IsContent t × AreContent ts

  pub IsContent : PlainTree → Type 0
  IsContent (document ts) = ⊥
  IsContent (element name kind attributes ts) = AreContent ts
  IsContent (attribute a) = ⊥
  IsContent (text t) = Unit {0}

-- they in a list again
abbrev pub list_of : PlainTrees → List PlainTree
list_of no_trees = []
list_of (a_tree t ts) = t ∷ list_of ts

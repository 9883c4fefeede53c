-- Trees of a store in the making: copies of nodes, of which some children are not copied yet.
use Rattle.std.specs.Prelude.{◌≡◌, ℕ, suc, ◌+◌, ◌*◌, ◌<◌, ◌≤◌, List, [], ◌∷◌, ◌++◌, map, Option, None, Some}
use Rattle.gx_base.specs.declared.type_name.Builtin.{Builtin as BuiltinType}
use Rattle.gx_base.specs.declared.type_name.TypeName.{TypeName}
use Rattle.gx_base.specs.declared.type_name.TypeName.TheVariants.{Builtin}
use Rattle.gx_tree.specs.declared.attribute.Attribute.{Attribute}
use Rattle.gx_tree.specs.Erasure.{erased, erased_attribute}
use Rattle.gx_tree.specs.PlainTree.{PlainTree, list_of}
use Rattle.gx_model.specs.Forest.{Forest}
use Rattle.gx_nodes.specs.Entries.{count_below, count_in, entry_in}
use Rattle.gx_nodes.specs.Near.{inner_trees}
use Rattle.gx_store.specs.declared.to_tree.Annotations.{Annotations}
use Rattle.gx_store.specs.declared.to_tree.Annotations.TheVariants.{Kept, Erased}
use Rattle.gx_store.specs.declared.to_tree.Copying.{Copying}
use Rattle.gx_store.specs.Left.{children_left, trees_numbered}

-- a tree with its types or without

abbrev pub tree_as : Annotations → PlainTree → PlainTree
tree_as Kept t = t
tree_as Erased t = erased t

abbrev pub attribute_as : Annotations → Attribute → Attribute
attribute_as Kept a = a
attribute_as Erased a = erased_attribute a

abbrev pub kind_as : Annotations → BuiltinType → TypeName → TypeName
kind_as Kept without kind = kind
kind_as Erased without kind = Builtin without

-- the copy of the node of a number
abbrev pub copy_of : Annotations → Forest → ℕ → PlainTree
copy_of annotations forest n = tree_as annotations (entry_in forest n).tree

-- the children of a node that are left
abbrev pub trees_to_copy : Forest → Copying → List PlainTree
trees_to_copy forest c = trees_numbered forest (children_left forest c.next c.end)

-- the first children are copied; the next copies are to be these, and behind them those of what is left
pub record IsCopying (annotations : Annotations) (forest : Forest) (between : List PlainTree) (c : Copying) : Type 0 where
  pub there : c.node.number < count_in forest
  pub within : c.end ≤ count_in forest
  pub whole : c.copied.items ++ (between ++ map (tree_as annotations) (trees_to_copy forest c)) ≡ map (tree_as annotations) (list_of (inner_trees (entry_in forest c.node.number).tree))

-- the nodes round a node that is copied, the innermost first; the outermost is that of a number
abbrev pub AreRound : Annotations → Forest → (root : ℕ) → (inner : ℕ) → List Copying → Type 0
AreRound annotations forest root inner [] = inner ≡ root
AreRound annotations forest root inner (c ∷ outer) = IsCopying annotations forest (copy_of annotations forest inner ∷ []) c × AreRound annotations forest root c.node.number outer

abbrev pub AreCopying : Annotations → Forest → (root : ℕ) → List Copying → Type 0
AreCopying annotations forest root [] = ⊥
AreCopying annotations forest root (c ∷ outer) = IsCopying annotations forest [] c × AreRound annotations forest root c.node.number outer

-- how much is left to do

abbrev pub weight : List PlainTree → ℕ
weight [] = 0
weight (t ∷ ts) = 2 * suc (count_below t) + weight ts

abbrev pub left_to_copy : Forest → List Copying → ℕ
left_to_copy forest [] = 0
left_to_copy forest (c ∷ outer) = suc (weight (trees_to_copy forest c)) + left_to_copy forest outer

-- the whole is copied, or else there is more to do
abbrev pub IsCopiedOr : (more : Type 0) → PlainTree → Option PlainTree → Type 0
IsCopiedOr more copy None = more
IsCopiedOr more copy (Some t) = t ≡ copy

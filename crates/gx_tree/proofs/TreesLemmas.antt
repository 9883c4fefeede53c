-- Lists of trees.
use Rattle.std.proofs.Common.{◌≡◌, ℕ, zero, suc, ◌<◌, ◌≤◌, List, [], ◌∷◌, length, get_or, refl, sym, ◌∙◌, ap, map, arith}
use Rattle.gx_tree.specs.PlainTree.{PlainTree, a_tree, trees_of, list_of, tree_size, trees_size}
use Rattle.gx_tree.specs.Erasure.{erased, erased_all}

-- no tree of a list is larger than the list
pub item_le-trees_size : (ts : List PlainTree) (i : ℕ) (t : PlainTree) → i < length ts → t ≡ get_or ts i t → tree_size t ≤ trees_size (trees_of ts)
item_le-trees_size [] i t below here = absurd (omega arith)
item_le-trees_size (u ∷ us) zero t below here = omega (arith, ap tree_size here)
item_le-trees_size (u ∷ us) (suc i) t below here = omega (arith, item_le-trees_size us i t (omega arith) here)

-- the erased trees of a list, one by one
pub erased_all_trees : (ts : List PlainTree) → erased_all (trees_of ts) ≡ trees_of (map erased ts)
erased_all_trees [] = refl
erased_all_trees (t ∷ ts) = ap (a_tree (erased t)) (erased_all_trees ts)

-- a list is what its trees make
pub list_of-trees_of : (ts : List PlainTree) → list_of (trees_of ts) ≡ ts
list_of-trees_of [] = refl
list_of-trees_of (t ∷ ts) = ap (λ us. t ∷ us) (list_of-trees_of ts)

pub same_from_trees : (ts us : List PlainTree) → trees_of ts ≡ trees_of us → ts ≡ us
same_from_trees ts us e = sym (list_of-trees_of ts) ∙ ap list_of e ∙ list_of-trees_of us

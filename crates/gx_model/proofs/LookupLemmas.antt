-- The parts of trees.
use Rattle.std.proofs.Common.{◌≡◌, List, [], ◌∷◌, None, length, refl, ap}
use Rattle.gx_tree.specs.PlainTree.{PlainTree, document, element, attribute, text, trees_of, list_of}
use Rattle.gx_model.specs.Belongs.{only_element}

-- the trees of a list are those of the list
pub children_back : (ts : List PlainTree) → list_of (trees_of ts) ≡ ts
children_back [] = refl
children_back (t ∷ ts) = ap (λ us. t ∷ us) (children_back ts)

-- no one element stands among no trees or several
pub no_single_element : (ts : List PlainTree) → (length ts ≡ 1 → ⊥) → None ≡ only_element (trees_of ts)
no_single_element [] h = refl
no_single_element (t ∷ []) h = absurd (h refl)
no_single_element (document ds ∷ u ∷ us) h = refl
no_single_element (element n k l ds ∷ u ∷ us) h = refl
no_single_element (attribute a ∷ u ∷ us) h = refl
no_single_element (text x ∷ u ∷ us) h = refl

-- All nodes of a tree that stands under a path, as far as they are sought.
use Rattle.std.specs.Prelude.{ℕ, suc, Bool, ◌&&◌, List, [], ◌∷◌, ◌++◌}
use Rattle.gx_tree.specs.declared.attribute.Attribute.{Attribute}
use Rattle.gx_tree.specs.PlainTree.{PlainTree, PlainTrees, document, element, attribute, text, no_trees, a_tree}
use Rattle.gx_model.specs.Location.{Location, along}
use Rattle.gx_model.specs.Stepping.{kept_if, attribute_along}

abbrev pub sought_at : (Location → Bool) → (PlainTree → Bool) → Location → PlainTree → List Location
sought_at leads test location t = kept_if (leads location && test t) location

abbrev pub sought_attributes : (Location → Bool) → (PlainTree → Bool) → List ℕ → ℕ → List Attribute → List Location
sought_attributes leads test path position [] = []
sought_attributes leads test path position (a ∷ others) =
    sought_at leads test (attribute_along path position) (attribute a) ++ sought_attributes leads test path (suc position) others

abbrev mutual
  pub sought_in : (Location → Bool) → (PlainTree → Bool) → List ℕ → PlainTree → List Location
  sought_in leads test path (document ts) = sought_at leads test (along path) (document ts) ++ ([] ++ sought_among leads test path 0 ts)
  sought_in leads test path (element name kind list ts) =
      sought_at leads test (along path) (element name kind list ts) ++ (sought_attributes leads test path 0 list ++ sought_among leads test path 0 ts)
  sought_in leads test path (attribute a) = sought_at leads test (along path) (attribute a) ++ []
  sought_in leads test path (text t) = sought_at leads test (along path) (text t) ++ []

  pub sought_among : (Location → Bool) → (PlainTree → Bool) → List ℕ → ℕ → PlainTrees → List Location
  sought_among leads test path position no_trees = []
  sought_among leads test path position (a_tree t ts) = sought_in leads test (path ++ position ∷ []) t ++ sought_among leads test path (suc position) ts

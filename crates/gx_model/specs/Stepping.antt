-- What a step along an axis finds without a look at all nodes.
use Rattle.std.specs.Prelude.{ℕ, suc, Bool, List, [], ◌∷◌, ◌++◌, Option, None, Some, is_some, if◌then◌else◌}
use Rattle.gx_tree.specs.declared.attribute.Attribute.{Attribute}
use Rattle.gx_tree.specs.PlainTree.{PlainTree, attribute}
use Rattle.gx_model.specs.Forest.{children_of, own_attributes, tree_at}
use Rattle.gx_model.specs.Location.{Location, along, located}
use Rattle.gx_model.specs.Axes.{passes_there}

-- one location, if it passes
abbrev pub kept_if : Bool → Location → List Location
kept_if passes location = if passes then location ∷ [] else []

-- what is found at the end of a path
abbrev pub found_at : Option PlainTree → (PlainTree → List Location) → List Location
found_at None chosen = []
found_at (Some t) chosen = chosen t

-- the children of the node at a path, from a position on
abbrev pub passing_children : (PlainTree → Bool) → (path : List ℕ) → ℕ → List PlainTree → List Location
passing_children test path position [] = []
passing_children test path position (t ∷ ts) = kept_if (test t) (along (path ++ position ∷ [])) ++ passing_children test path (suc position) ts

abbrev pub children_found : (PlainTree → Bool) → Location → PlainTree → List Location
children_found test from t =
    if is_some from.attribute then [] else found_at (tree_at t from.path) (λ u. passing_children test from.path 0 (children_of u))

-- the attributes of the node at a path, from a position on
abbrev pub attribute_along : List ℕ → ℕ → Location
attribute_along path position = record { path = path; attribute = Some position }

abbrev pub passing_attributes : (PlainTree → Bool) → (path : List ℕ) → ℕ → List Attribute → List Location
passing_attributes test path position [] = []
passing_attributes test path position (a ∷ others) =
    kept_if (test (attribute a)) (attribute_along path position) ++ passing_attributes test path (suc position) others

abbrev pub attributes_found : (PlainTree → Bool) → Location → PlainTree → List Location
attributes_found test from t =
    if is_some from.attribute then [] else found_at (tree_at t from.path) (λ u. passing_attributes test from.path 0 (own_attributes u))

-- the node itself
abbrev pub self_found : (PlainTree → Bool) → Location → PlainTree → List Location
self_found test from t = kept_if (passes_there test (located t from)) from

-- a path with one more position in front, if there is one
abbrev pub behind_step : ℕ → Option (List ℕ) → Option (List ℕ)
behind_step m None = None
behind_step m (Some path) = Some (m ∷ path)

-- the path without its last position, if it has one
abbrev pub path_up : List ℕ → Option (List ℕ)
path_up [] = None
path_up (n ∷ []) = Some []
path_up (m ∷ n ∷ path) = behind_step m (path_up (n ∷ path))

-- the path of the parent
abbrev pub parent_path : Location → Option (List ℕ)
parent_path from = if is_some from.attribute then Some from.path else path_up from.path

abbrev pub found_along : (PlainTree → Bool) → Option (List ℕ) → PlainTree → List Location
found_along test None t = []
found_along test (Some path) t = kept_if (passes_there test (tree_at t path)) (along path)

abbrev pub parent_found : (PlainTree → Bool) → Location → PlainTree → List Location
parent_found test from t = found_along test (parent_path from) t

-- Nodes that are found in a tree, with their shapes.
use Rattle.std.proofs.Common.{◌≡◌, ℕ, suc, ◌+◌, Bool, true, false, List, [], ◌∷◌, ◌++◌, map, Option, None, Some, refl, ◌∙◌, ap, subst, arith}
use Rattle.std.specs.List.{slice_get, flat_map}
use Rattle.std.specs.Option.{option_map}
use Rattle.gx_types.specs.declared.shape.Shape.{Shape}
use Rattle.gx_types.specs.SchemaSet.{SchemaSet}
use Rattle.gx_tree.specs.declared.attribute.Attribute.{Attribute}
use Rattle.gx_tree.specs.PlainTree.{PlainTree, attribute}
use Rattle.gx_model.specs.Forest.{Forest, then_found, children_of, own_attributes, tree_at, attribute_at}
use Rattle.gx_model.specs.Item.{node}
use Rattle.gx_model.specs.Belongs.{shape_of, HaveShapes}
use Rattle.gx_model.specs.Location.{Location, along, located, node_of_tree}
use Rattle.gx_model.specs.NodeTest.{KindTest, meets}
use Rattle.gx_model.specs.Stepping.{kept_if, passing_children, attribute_along, passing_attributes}
use Rattle.gx_steptype.proofs.Testing.{kept}
use Rattle.gx_steptype.proofs.OwnAttributes.{attribute_shape}
use Rattle.gx_steptype.proofs.PassingShapes.{passing}

-- there are nodes of these shapes at these locations
abbrev pub Found : PlainTree → List Location → List Shape → Type 0
Found t [] [] = Unit {0}
Found t (l ∷ ls) (s ∷ ss) = (option_map shape_of (located t l) ≡ Some s) × Found t ls ss
Found t [] (s ∷ ss) = ⊥
Found t (l ∷ ls) [] = ⊥

pub found_kept : (t : PlainTree) (b : Bool) (l : Location) (s : Shape) (ls : List Location) (ss : List Shape)
    → option_map shape_of (located t l) ≡ Some s → Found t ls ss → Found t (kept_if b l ++ ls) (kept b s ++ ss)
found_kept t true l s ls ss e f = (e, f)
found_kept t false l s ls ss e f = f

pub one_kept : (t : PlainTree) (b : Bool) (l : Location) (s : Shape) → option_map shape_of (located t l) ≡ Some s → Found t (kept_if b l) (kept b s)
one_kept t true l s e = (e, tt)
one_kept t false l s e = tt

-- they are items of these shapes in a forest with the tree
pub found_have_shapes : (s : SchemaSet) (forest : Forest) (number : ℕ) (t : PlainTree) → slice_get forest number ≡ Some t
    → (ls : List Location) (ss : List Shape) → Found t ls ss → HaveShapes s forest (map node (map (node_of_tree number) ls)) ss
found_have_shapes s forest number t e [] [] f = tt
found_have_shapes s forest number t e (l ∷ ls) (x ∷ ss) f =
    (ap (λ (o : Option PlainTree). option_map shape_of (then_found o (λ u. then_found (tree_at u l.path) (attribute_at l.attribute)))) e ∙ f.0, tt, found_have_shapes s forest number t e ls ss f.1)
found_have_shapes s forest number t e [] (x ∷ ss) f = absurd f
found_have_shapes s forest number t e (l ∷ ls) [] f = absurd f

-- paths

behind_child : (path more : List ℕ) → ((c : PlainTree) → tree_at c (path ++ more) ≡ then_found (tree_at c path) (λ u. tree_at u more))
    → (o : Option PlainTree) → then_found o (λ c. tree_at c (path ++ more)) ≡ then_found (then_found o (λ c. tree_at c path)) (λ u. tree_at u more)
behind_child path more next None = refl
behind_child path more next (Some c) = next c

pub tree_behind : (path more : List ℕ) (t : PlainTree) → tree_at t (path ++ more) ≡ then_found (tree_at t path) (λ u. tree_at u more)
tree_behind [] more t = refl
tree_behind (n ∷ path) more t = behind_child path more (tree_behind path more) (slice_get (children_of t) n)

abbrev pub node_passes : SchemaSet → KindTest → PlainTree → Bool
node_passes s test t = meets s test (shape_of t)

pub children_have : (s : SchemaSet) (test : KindTest) (t u : PlainTree) (path : List ℕ) → tree_at t path ≡ Some u → (k : ℕ) (ts : List PlainTree)
    → ((i : ℕ) → slice_get (children_of u) (k + i) ≡ slice_get ts i)
    → Found t (passing_children (node_passes s test) path k ts) (flat_map (passing s test) (map shape_of ts))
children_have s test t u path e k [] h = tt
children_have s test t u path e k (c ∷ ts) h =
    let here : slice_get (children_of u) k ≡ Some c = subst (λ n. slice_get (children_of u) n ≡ Some c) (omega arith) (h 0) in
    found_kept t (node_passes s test c) (along (path ++ k ∷ [])) (shape_of c) (passing_children (node_passes s test) path (suc k) ts) (flat_map (passing s test) (map shape_of ts))
    (ap (λ (o : Option PlainTree). option_map shape_of (then_found o (attribute_at None))) (
    tree_behind path (k ∷ []) t
    ∙ ap (λ (o : Option PlainTree). then_found o (λ v. tree_at v (k ∷ []))) e
    ∙ ap (λ (o : Option PlainTree). then_found o (λ v. Some v)) here
    ))
    (children_have s test t u path e (suc k) ts (λ i. subst (λ n. slice_get (children_of u) n ≡ slice_get ts i) (omega arith) (h (suc i))))

pub attributes_have : (s : SchemaSet) (test : KindTest) (t u : PlainTree) (path : List ℕ) → tree_at t path ≡ Some u → (k : ℕ) (l : List Attribute)
    → ((i : ℕ) → slice_get (own_attributes u) (k + i) ≡ slice_get l i)
    → Found t (passing_attributes (node_passes s test) path k l) (flat_map (passing s test) (map attribute_shape l))
attributes_have s test t u path e k [] h = tt
attributes_have s test t u path e k (a ∷ l) h =
    let here : slice_get (own_attributes u) k ≡ Some a = subst (λ n. slice_get (own_attributes u) n ≡ Some a) (omega arith) (h 0) in
    found_kept t (node_passes s test (attribute a)) (attribute_along path k) (attribute_shape a) (passing_attributes (node_passes s test) path (suc k) l) (flat_map (passing s test) (map attribute_shape l))
    (ap (λ (o : Option PlainTree). option_map shape_of (then_found o (attribute_at (Some k)))) e
    ∙ ap (λ (o : Option Attribute). option_map shape_of (option_map attribute o)) here)
    (attributes_have s test t u path e (suc k) l (λ i. subst (λ n. slice_get (own_attributes u) n ≡ slice_get l i) (omega arith) (h (suc i))))

-- Steps to children, attributes, the node itself and the parent keep their types.
use Rattle.std.proofs.Common.{◌≡◌, ℕ, List, [], ◌∷◌, ◌++◌, map, Option, None, Some, refl, sym, ◌∙◌, ap, subst, arith}
use Rattle.std.specs.List.{slice_get, flat_map}
use Rattle.std.specs.Option.{option_map}
use Rattle.gx_types.specs.declared.item_type.ItemType.{ItemType}
use Rattle.gx_types.specs.declared.item_type.ItemType.TheVariants as items
use Rattle.gx_types.specs.declared.shape.Shape.{Shape}
use Rattle.gx_types.specs.declared.step.Axis.{Axis}
use Rattle.gx_types.specs.declared.step.Axis.TheVariants as axes
use Rattle.gx_types.specs.SchemaSet.{SchemaSet}
use Rattle.gx_types.specs.SchemaInvariant.{IsSchemaSet}
use Rattle.gx_types.specs.Derivation.{bases_of}
use Rattle.gx_types.specs.Grounded.{Grounded}
use Rattle.gx_types.specs.ItemTakes.{ItemTakes}
use Rattle.gx_types.specs.Takes.{Takes}
use Rattle.gx_tree.specs.declared.attribute.Attribute.{Attribute}
use Rattle.gx_tree.specs.PlainTree.{PlainTree}
use Rattle.gx_model.specs.Forest.{then_found, children_of, own_attributes, tree_at, attribute_at}
use Rattle.gx_model.specs.Honest.{IsHonestTree}
use Rattle.gx_model.specs.Belongs.{shape_of}
use Rattle.gx_model.specs.Location.{Location, along, located}
use Rattle.gx_model.specs.NodeTest.{KindTest}
use Rattle.gx_model.specs.Axes.{leads_to, passes_there, locations_on}
use Rattle.gx_model.specs.Stepping.{kept_if, found_at, passing_children, passing_attributes, behind_step, path_up, parent_path, found_along}
use Rattle.gx_model.proofs.AxisLemmas.{children_are_found, attributes_are_found, self_is_found, parent_is_found}
use Rattle.gx_steptype.specs.StepType.{item_step, child_type, parent_type}
use Rattle.gx_steptype.proofs.Testing.{tested_takes}
use Rattle.gx_steptype.proofs.FormedShapes.{IsFormed}
use Rattle.gx_steptype.proofs.PassingShapes.{passing, all_tested, one_tested}
use Rattle.gx_steptype.proofs.OwnAttributes.{attribute_shape}
use Rattle.gx_steptype.proofs.HonestNodes.{child_is_honest, shape_is_formed, all_children_are_formed, honest_at}
use Rattle.gx_steptype.proofs.FarWays.{at}
use Rattle.gx_steptype.proofs.FoundNodes.{Found, one_kept, tree_behind, node_passes, children_have, attributes_have}
use Rattle.gx_steptype.proofs.ChildTypes.{child_takes, no_parent, parent_takes}
use Rattle.gx_steptype.proofs.AttributeTypes.{attributes_take}

-- what a step finds from a place where a node of this shape stands
pub record StepTakes (s : SchemaSet) (test : KindTest) (axis : Axis) (t : PlainTree) (from : Location) (x : Shape) : Type 0 where
  pub out : List Shape
  pub found : Found t (locations_on (leads_to axis from) (node_passes s test) t) out
  pub takes : (kind : ItemType) → ItemTakes s kind x → Takes s (item_step s axis test kind) out

-- children

pub child_step : (s : SchemaSet) → IsSchemaSet s → (test : KindTest) (t u : PlainTree) (path : List ℕ) → tree_at t path ≡ Some u → IsHonestTree s u → StepTakes s test axes.Child t (at path None) (shape_of u)
child_step s is test t u path e h = record {
  out = flat_map (passing s test) (map shape_of (children_of u));
  found =
      subst (λ (ls : List Location). Found t ls (flat_map (passing s test) (map shape_of (children_of u))))
      (sym (ap (λ (o : Option PlainTree). found_at o (λ v. passing_children (node_passes s test) path 0 (children_of v))) e) ∙ children_are_found (node_passes s test) (at path None) t)
      (children_have s test t u path e 0 (children_of u) (λ i. ap (slice_get (children_of u)) (omega arith)));
  takes = λ kind i. all_tested s is.grounded test (child_type s kind) (map shape_of (children_of u)) (all_children_are_formed s is u h.typed) (child_takes s is u h kind i);
}

-- attributes

pub attribute_step : (s : SchemaSet) → IsSchemaSet s → (test : KindTest) (t u : PlainTree) (path : List ℕ) → tree_at t path ≡ Some u → IsHonestTree s u → StepTakes s test axes.Attribute t (at path None) (shape_of u)
attribute_step s is test t u path e h = record {
  out = flat_map (passing s test) (map attribute_shape (own_attributes u));
  found =
      subst (λ (ls : List Location). Found t ls (flat_map (passing s test) (map attribute_shape (own_attributes u))))
      (sym (ap (λ (o : Option PlainTree). found_at o (λ v. passing_attributes (node_passes s test) path 0 (own_attributes v))) e) ∙ attributes_are_found (node_passes s test) (at path None) t)
      (attributes_have s test t u path e 0 (own_attributes u) (λ i. ap (slice_get (own_attributes u)) (omega arith)));
  takes = λ kind i. attributes_take s test is u h kind i;
}

-- an attribute has no children and no attributes

no_child_of : (s : SchemaSet) (test : KindTest) (kind : ItemType) (a : Attribute) → ItemTakes s kind (attribute_shape a) → Takes s (item_step s axes.Child test kind) []
no_child_of s test (items.Attribute w t) a i = refl
no_child_of s test (items.Element w t) a i = absurd i
no_child_of s test items.Text a i = absurd i
no_child_of s test (items.Document None) a i = absurd i
no_child_of s test (items.Document (Some e)) a i = absurd i
no_child_of s test (items.Atom t) a i = absurd i

no_attribute_of : (s : SchemaSet) (test : KindTest) (kind : ItemType) (a : Attribute) → ItemTakes s kind (attribute_shape a) → Takes s (item_step s axes.Attribute test kind) []
no_attribute_of s test (items.Attribute w t) a i = refl
no_attribute_of s test (items.Element w t) a i = absurd i
no_attribute_of s test items.Text a i = absurd i
no_attribute_of s test (items.Document None) a i = absurd i
no_attribute_of s test (items.Document (Some e)) a i = absurd i
no_attribute_of s test (items.Atom t) a i = absurd i

pub child_step_from_attribute : (s : SchemaSet) (test : KindTest) (t : PlainTree) (path : List ℕ) (n : ℕ) (a : Attribute) → StepTakes s test axes.Child t (at path (Some n)) (attribute_shape a)
child_step_from_attribute s test t path n a = record {
  out = [];
  found = subst (λ (ls : List Location). Found t ls []) (children_are_found (node_passes s test) (at path (Some n)) t) tt;
  takes = λ kind i. no_child_of s test kind a i;
}

pub attribute_step_from_attribute : (s : SchemaSet) (test : KindTest) (t : PlainTree) (path : List ℕ) (n : ℕ) (a : Attribute) → StepTakes s test axes.Attribute t (at path (Some n)) (attribute_shape a)
attribute_step_from_attribute s test t path n a = record {
  out = [];
  found = subst (λ (ls : List Location). Found t ls []) (attributes_are_found (node_passes s test) (at path (Some n)) t) tt;
  takes = λ kind i. no_attribute_of s test kind a i;
}

-- the node itself

pub self_stands : (s : SchemaSet) (test : KindTest) (t v : PlainTree) (path : List ℕ) (own : Option ℕ) → located t (at path own) ≡ Some v
    → Found t (locations_on (leads_to axes.SelfAxis (at path own)) (node_passes s test) t) (passing s test (shape_of v))
self_stands s test t v path own e =
    subst (λ (ls : List Location). Found t ls (passing s test (shape_of v)))
    (sym (ap (λ (o : Option PlainTree). kept_if (passes_there (node_passes s test) o) (at path own)) e) ∙ self_is_found (node_passes s test) (at path own) t)
    (one_kept t (node_passes s test v) (at path own) (shape_of v) (ap (option_map shape_of) e))

pub self_step : (s : SchemaSet) → Grounded (bases_of s) → (test : KindTest) (t v : PlainTree) (path : List ℕ) (own : Option ℕ) → located t (at path own) ≡ Some v → IsFormed s (shape_of v)
    → StepTakes s test axes.SelfAxis t (at path own) (shape_of v)
self_step s g test t v path own e p = record {
  out = passing s test (shape_of v);
  found = self_stands s test t v path own e;
  takes = λ kind i. tested_takes s g test kind (shape_of v) p i;
}

-- the parent

pub parent_is : (s : SchemaSet) → Grounded (bases_of s) → (test : KindTest) (t w : PlainTree) (from : Location) (path : List ℕ) (x : Shape) → parent_path from ≡ Some path → tree_at t path ≡ Some w
    → IsFormed s (shape_of w) → ((kind : ItemType) → ItemTakes s kind x → Takes s (parent_type kind) (shape_of w ∷ [])) → StepTakes s test axes.Parent t from x
parent_is s g test t w from path x e f p h = record {
  out = passing s test (shape_of w);
  found =
      subst (λ (ls : List Location). Found t ls (passing s test (shape_of w)))
      (sym (ap (λ (o : Option (List ℕ)). found_along (node_passes s test) o t) e ∙ ap (λ (o : Option PlainTree). kept_if (passes_there (node_passes s test) o) (along path)) f)
      ∙ parent_is_found (node_passes s test) from t)
      (one_kept t (node_passes s test w) (along path) (shape_of w) (ap (λ (o : Option PlainTree). option_map shape_of (then_found o (attribute_at None))) f));
  takes = λ kind i. one_tested s g test (parent_type kind) (shape_of w) p (h kind i);
}

no_parent_step : (s : SchemaSet) → Grounded (bases_of s) → (test : KindTest) (t : PlainTree) (from : Location) (x : Shape) → parent_path from ≡ None → StepTakes s test axes.Parent t from x
no_parent_step s g test t from x e = record {
  out = [];
  found =
      subst (λ (ls : List Location). Found t ls [])
      (sym (ap (λ (o : Option (List ℕ)). found_along (node_passes s test) o t) e) ∙ parent_is_found (node_passes s test) from t) tt;
  takes = λ kind i. all_tested s g test (parent_type kind) [] tt (no_parent s kind);
}

-- the path of the parent, with one position more, is the path
pub record EndsIn (path up : List ℕ) : Type 0 where
  pub position : ℕ
  pub is : path ≡ up ++ position ∷ []

up_behind : (m : ℕ) (path up : List ℕ) → ((q : List ℕ) → path_up path ≡ Some q → EndsIn path q) → (o : Option (List ℕ)) → path_up path ≡ o → behind_step m o ≡ Some up → EndsIn (m ∷ path) up
up_behind m path up next None f k = absurd (cc)
up_behind m path up next (Some q) f k =
    let r = next q f in
    let same : m ∷ q ≡ up = cc in
    subst (EndsIn (m ∷ path)) same (record { position = r.position; is = ap (λ p. m ∷ p) r.is })

up_is : (path up : List ℕ) → path_up path ≡ Some up → EndsIn path up
up_is [] up e = absurd (cc)
up_is (n ∷ []) up e = let same : [] ≡ up = cc in subst (EndsIn (n ∷ [])) same (record { position = n; is = refl })
up_is (m ∷ n ∷ path) up e = up_behind m (n ∷ path) up (λ q f. up_is (n ∷ path) q f) (path_up (n ∷ path)) refl e

-- what stands one position below a path
below : (t w u : PlainTree) (up : List ℕ) (n : ℕ) → tree_at t up ≡ Some w → tree_at t (up ++ n ∷ []) ≡ Some u → slice_get (children_of w) n ≡ Some u
below t w u up n e f = through (slice_get (children_of w) n) refl
    (sym (ap (λ (o : Option PlainTree). then_found o (λ v. tree_at v (n ∷ []))) e) ∙ sym (tree_behind up (n ∷ []) t) ∙ f)
  where
    through : (o : Option PlainTree) → slice_get (children_of w) n ≡ o → then_found o (λ c. Some c) ≡ Some u → slice_get (children_of w) n ≡ Some u
    through None g k = absurd (cc)
    through (Some c) g k = g ∙ k

nothing_there : {A : Type 0} (x : A) → None ≡ Some x → ⊥
nothing_there x e = absurd (cc)

parent_in_tree : (s : SchemaSet) → IsSchemaSet s → (test : KindTest) (t u : PlainTree) (path up : List ℕ) → IsHonestTree s t → tree_at t path ≡ Some u → path_up path ≡ Some up → EndsIn path up
    → (o : Option PlainTree) → tree_at t up ≡ o → StepTakes s test axes.Parent t (at path None) (shape_of u)
parent_in_tree s is test t u path up h e f r None k =
    absurd (nothing_there u (sym (ap (λ (o : Option PlainTree). then_found o (λ v. tree_at v (r.position ∷ []))) k) ∙ sym (tree_behind up (r.position ∷ []) t) ∙ ap (tree_at t) (sym r.is) ∙ e))
parent_in_tree s is test t u path up h e f r (Some w) k =
    let i = honest_at s up t w h k in
    let there : slice_get (children_of w) r.position ≡ Some u = below t w u up r.position k (ap (tree_at t) (sym r.is) ∙ e) in
    let c = child_is_honest s w r.position u i there in
    parent_is s is.grounded test t w (at path None) up (shape_of u) f k (shape_is_formed s is w i.typed) (λ kind j. parent_takes s is.grounded w u r.position i there c.content kind j)

parent_by_path : (s : SchemaSet) → IsSchemaSet s → (test : KindTest) (t u : PlainTree) (path : List ℕ) → IsHonestTree s t → tree_at t path ≡ Some u → (o : Option (List ℕ)) → path_up path ≡ o
    → StepTakes s test axes.Parent t (at path None) (shape_of u)
parent_by_path s is test t u path h e None f = no_parent_step s is.grounded test t (at path None) (shape_of u) f
parent_by_path s is test t u path h e (Some up) f = parent_in_tree s is test t u path up h e f (up_is path up f) (tree_at t up) refl

pub parent_step : (s : SchemaSet) → IsSchemaSet s → (test : KindTest) (t u : PlainTree) (path : List ℕ) → IsHonestTree s t → tree_at t path ≡ Some u → StepTakes s test axes.Parent t (at path None) (shape_of u)
parent_step s is test t u path h e = parent_by_path s is test t u path h e (path_up path) refl

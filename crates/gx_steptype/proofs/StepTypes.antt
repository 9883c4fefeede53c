-- Steps keep their types.
use Rattle.std.proofs.Common.{◌≡◌, ℕ, List, [], ◌∷◌, map, Option, None, Some, refl, sym, ◌∙◌, ap, subst}
use Rattle.std.specs.List.{slice_get}
use Rattle.std.specs.Option.{option_map}
use Rattle.gx_types.specs.declared.shape.Shape.{Shape}
use Rattle.gx_types.specs.declared.step.Axis.{Axis}
use Rattle.gx_types.specs.declared.step.Axis.TheVariants as axes
use Rattle.gx_types.specs.declared.step.Test.{Test}
use Rattle.gx_types.specs.SchemaSet.{SchemaSet}
use Rattle.gx_types.specs.SchemaInvariant.{IsSchemaSet}
use Rattle.gx_types.specs.SequenceType.{SequenceType}
use Rattle.gx_types.specs.ItemTakes.{ItemTakes}
use Rattle.gx_types.specs.Takes.{Takes}
use Rattle.gx_types.proofs.PublicLaws.{limited_takes_type}
use Rattle.gx_type_laws.proofs.Items.{all_items_hold}
use Rattle.gx_tree.specs.declared.attribute.Attribute.{Attribute}
use Rattle.gx_tree.specs.PlainTree.{PlainTree, attribute}
use Rattle.gx_model.specs.Forest.{Forest, PlainNode, then_found, own_attributes, tree_at, attribute_at}
use Rattle.gx_model.specs.Honest.{IsHonestTree, IsHonest}
use Rattle.gx_model.specs.Item.{node}
use Rattle.gx_model.specs.Belongs.{shape_of, item_shape, HaveShapes, Belongs}
use Rattle.gx_model.specs.Location.{Location, located, location_of}
use Rattle.gx_model.specs.NodeTest.{KindTest, asked}
use Rattle.gx_model.specs.Axes.{is_attribute_axis, leads_to, locations_on, nodes_in_tree, on_axis}
use Rattle.gx_steptype.specs.Replaced.{replaced_items}
use Rattle.gx_steptype.specs.StepType.{item_step, step_type}
use Rattle.gx_steptype.specs.StepLaws.{StepsKeepTheirTypes}
use Rattle.gx_steptype.proofs.Replacing.{Serves, replaced_takes, append_nil}
use Rattle.gx_steptype.proofs.OwnAttributes.{attribute_shape}
use Rattle.gx_steptype.proofs.HonestNodes.{shape_is_formed, attribute_is_formed, tree_is_honest, honest_at}
use Rattle.gx_steptype.proofs.FarWays.{at}
use Rattle.gx_steptype.proofs.FarSteps.{descendant_step, descendant_or_self_step, descendant_step_from_attribute, descendant_or_self_step_from_attribute, ancestor_step, ancestor_or_self_step}
use Rattle.gx_steptype.proofs.NearSteps.{StepTakes, child_step, attribute_step, child_step_from_attribute, attribute_step_from_attribute, self_step, parent_is, parent_step}
use Rattle.gx_steptype.proofs.FoundNodes.{found_have_shapes, node_passes}
use Rattle.gx_steptype.proofs.ChildTypes.{owner_takes}

-- from each node on each axis

attribute_stands : (t u : PlainTree) (path : List ℕ) (n : ℕ) (a : Attribute) → tree_at t path ≡ Some u → slice_get (own_attributes u) n ≡ Some a → located t (at path (Some n)) ≡ Some (attribute a)
attribute_stands t u path n a e f = ap (λ (o : Option PlainTree). then_found o (attribute_at (Some n))) e ∙ ap (option_map attribute) f

from_node : (s : SchemaSet) → IsSchemaSet s → (test : KindTest) (axis : Axis) (t u : PlainTree) (path : List ℕ) → IsHonestTree s t → tree_at t path ≡ Some u
    → StepTakes s test axis t (at path None) (shape_of u)
from_node s is test axes.Child t u path h e = child_step s is test t u path e (honest_at s path t u h e)
from_node s is test axes.Attribute t u path h e = attribute_step s is test t u path e (honest_at s path t u h e)
from_node s is test axes.SelfAxis t u path h e =
    self_step s is.grounded test t u path None (ap (λ (o : Option PlainTree). then_found o (attribute_at None)) e) (shape_is_formed s is u (honest_at s path t u h e).typed)
from_node s is test axes.Parent t u path h e = parent_step s is test t u path h e
from_node s is test axes.Descendant t u path h e = descendant_step s is test t u path (honest_at s path t u h e) e
from_node s is test axes.DescendantOrSelf t u path h e = descendant_or_self_step s is test t u path (honest_at s path t u h e) e
from_node s is test axes.Ancestor t u path h e = ancestor_step s is test t u path None (shape_of u) h e refl
from_node s is test axes.AncestorOrSelf t u path h e =
    ancestor_or_self_step s is test t u u path None h e refl (ap (λ (o : Option PlainTree). then_found o (attribute_at None)) e) (shape_is_formed s is u (honest_at s path t u h e).typed)

from_attribute : (s : SchemaSet) → IsSchemaSet s → (test : KindTest) (axis : Axis) (t u : PlainTree) (path : List ℕ) (n : ℕ) (a : Attribute) → IsHonestTree s t → tree_at t path ≡ Some u
    → slice_get (own_attributes u) n ≡ Some a → StepTakes s test axis t (at path (Some n)) (attribute_shape a)
from_attribute s is test axes.Child t u path n a h e f = child_step_from_attribute s test t path n a
from_attribute s is test axes.Attribute t u path n a h e f = attribute_step_from_attribute s test t path n a
from_attribute s is test axes.SelfAxis t u path n a h e f =
    self_step s is.grounded test t (attribute a) path (Some n)
    (attribute_stands t u path n a e f) (attribute_is_formed s is u n a (honest_at s path t u h e).typed f)
from_attribute s is test axes.Parent t u path n a h e f =
    let i = honest_at s path t u h e in
    parent_is s is.grounded test t u (at path (Some n)) path (attribute_shape a) refl e (shape_is_formed s is u i.typed) (λ kind j. owner_takes s is.grounded u a n i f kind j)
from_attribute s is test axes.Descendant t u path n a h e f = descendant_step_from_attribute s test t path n (attribute_shape a)
from_attribute s is test axes.DescendantOrSelf t u path n a h e f =
    descendant_or_self_step_from_attribute s is.grounded test t (attribute a) path n (attribute_stands t u path n a e f) (attribute_is_formed s is u n a (honest_at s path t u h e).typed f)
from_attribute s is test axes.Ancestor t u path n a h e f = ancestor_step s is test t u path (Some n) (attribute_shape a) h e (a, f, refl)
from_attribute s is test axes.AncestorOrSelf t u path n a h e f =
    ancestor_or_self_step s is test t u (attribute a) path (Some n) h e (a, f, refl) (attribute_stands t u path n a e f) (attribute_is_formed s is u n a (honest_at s path t u h e).typed f)

attribute_place : (s : SchemaSet) → IsSchemaSet s → (test : KindTest) (axis : Axis) (t u v : PlainTree) (path : List ℕ) (n : ℕ) → IsHonestTree s t → tree_at t path ≡ Some u
    → (o : Option Attribute) → slice_get (own_attributes u) n ≡ o → option_map attribute o ≡ Some v → StepTakes s test axis t (at path (Some n)) (shape_of v)
attribute_place s is test axis t u v path n h f None k l = absurd (cc)
attribute_place s is test axis t u v path n h f (Some a) k l =
    let same : attribute a ≡ v = cc in
    subst (λ (w : PlainTree). StepTakes s test axis t (at path (Some n)) (shape_of w)) same (from_attribute s is test axis t u path n a h f k)

place_in_tree : (s : SchemaSet) → IsSchemaSet s → (test : KindTest) (axis : Axis) (t v : PlainTree) (path : List ℕ) → IsHonestTree s t
    → (o : Option PlainTree) → tree_at t path ≡ o → (own : Option ℕ) → then_found o (attribute_at own) ≡ Some v → StepTakes s test axis t (at path own) (shape_of v)
place_in_tree s is test axis t v path h None f own k = absurd (cc)
place_in_tree s is test axis t v path h (Some u) f None k =
    let same : u ≡ v = cc in
    subst (λ (w : PlainTree). StepTakes s test axis t (at path None) (shape_of w)) same (from_node s is test axis t u path h f)
place_in_tree s is test axis t v path h (Some u) f (Some n) k = attribute_place s is test axis t u v path n h f (slice_get (own_attributes u) n) refl k

from_place : (s : SchemaSet) → IsSchemaSet s → (test : KindTest) (axis : Axis) (t v : PlainTree) (path : List ℕ) (own : Option ℕ) → IsHonestTree s t → located t (at path own) ≡ Some v
    → StepTakes s test axis t (at path own) (shape_of v)
from_place s is test axis t v path own h e = place_in_tree s is test axis t v path h (tree_at t path) refl own e

-- in a forest

-- the type of a step takes what the step gives from a node that the context takes
in_context : (s : SchemaSet) (test : KindTest) (axis : Axis) (t : PlainTree) (from : Location) (x : Shape) (context : SequenceType) → (step : StepTakes s test axis t from x) → Takes s context (x ∷ [])
    → Takes s (replaced_items (item_step s axis test) context) step.out
in_context s test axis t from x context step h =
    subst (Takes s (replaced_items (item_step s axis test) context)) (append_nil step.out)
    (replaced_takes s (λ y. y ≡ x) (λ y. step.out) (item_step s axis test) context
    (all_items_hold (Serves s (λ y. y ≡ x) (λ y. step.out) (item_step s axis test)) (λ kind y e i. step.takes kind (subst (ItemTakes s kind) e i)) context)
    (x ∷ []) (refl, tt) h)

step_in_tree : (s : SchemaSet) (forest : Forest) (from : PlainNode) (axis : Axis) (test : Test) (context : SequenceType) (x : Shape) (t : PlainTree) → slice_get forest from.tree ≡ Some t
    → StepTakes s (asked s (is_attribute_axis axis) test) axis t (location_of from) x → Takes s context (x ∷ [])
    → Belongs s forest (map node (on_axis s forest from axis test)) (step_type s axis test context)
step_in_tree s forest from axis asks context x t e step h = record {
  seen = step.out;
  shaped =
      subst (λ (o : Option PlainTree). HaveShapes s forest (map node (nodes_in_tree o from.tree (locations_on (leads_to axis (location_of from)) (node_passes s (asked s (is_attribute_axis axis) asks))))) step.out)
      (sym e)
      (found_have_shapes s forest from.tree t e (locations_on (leads_to axis (location_of from)) (node_passes s (asked s (is_attribute_axis axis) asks)) t) step.out step.found);
  taken = limited_takes_type s (replaced_items (item_step s axis (asked s (is_attribute_axis axis) asks)) context) step.out (in_context s (asked s (is_attribute_axis axis) asks) axis t (location_of from) x context step h);
}

-- the shape of a node in a forest is that of what stands there
pub record StandsThere (forest : Forest) (from : PlainNode) (x : Shape) : Type 0 where
  pub root : PlainTree
  pub in_forest : slice_get forest from.tree ≡ Some root
  pub there : PlainTree
  pub found : located root (location_of from) ≡ Some there
  pub shape : shape_of there ≡ x

there_in_tree : (forest : Forest) (from : PlainNode) (x : Shape) (t : PlainTree) (o : Option PlainTree) → slice_get forest from.tree ≡ Some t → located t (location_of from) ≡ o → option_map shape_of o ≡ Some x
    → StandsThere forest from x
there_in_tree forest from x t None f g k = absurd (cc)
there_in_tree forest from x t (Some v) f g k = let same : shape_of v ≡ x = cc in record { root = t; in_forest = f; there = v; found = g; shape = same }

there_in_forest : (forest : Forest) (from : PlainNode) (x : Shape) (o : Option PlainTree) → slice_get forest from.tree ≡ o → option_map shape_of (then_found o (λ t. located t (location_of from))) ≡ Some x
    → StandsThere forest from x
there_in_forest forest from x None f k = absurd (cc)
there_in_forest forest from x (Some t) f k = there_in_tree forest from x t (located t (location_of from)) f refl k

stands_there : (forest : Forest) (from : PlainNode) (x : Shape) → item_shape forest (node from) ≡ Some x → StandsThere forest from x
stands_there forest from x e = there_in_forest forest from x (slice_get forest from.tree) refl e

step_of_shapes : (s : SchemaSet) (forest : Forest) (from : PlainNode) (axis : Axis) (test : Test) (context : SequenceType) → IsSchemaSet s → IsHonest s forest
    → (seen : List Shape) → HaveShapes s forest (node from ∷ []) seen → Takes s context seen → Belongs s forest (map node (on_axis s forest from axis test)) (step_type s axis test context)
step_of_shapes s forest from axis asks context is honest [] h k = absurd h
step_of_shapes s forest from axis asks context is honest (x ∷ []) h k =
    let there = stands_there forest from x h.0 in
    let root = tree_is_honest s forest from.tree there.root honest there.in_forest in
    step_in_tree s forest from axis asks context x there.root there.in_forest
    (subst (StepTakes s (asked s (is_attribute_axis axis) asks) axis there.root (location_of from)) there.shape
    (from_place s is (asked s (is_attribute_axis axis) asks) axis there.root there.there from.path from.attribute root there.found))
    k
step_of_shapes s forest from axis asks context is honest (x ∷ y ∷ seen) h k = absurd h.2

pub steps_keep_their_types : StepsKeepTheirTypes
steps_keep_their_types s forest from axis asks context is honest belongs =
    step_of_shapes s forest from axis asks context is honest belongs.seen belongs.shaped belongs.taken

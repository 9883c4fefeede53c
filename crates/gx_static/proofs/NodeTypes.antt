-- Types whose item types are of nodes are types of nodes.
use Rattle.std.proofs.Common.{◌≡◌, true, ◌&&◌, None, Some, List, [], ◌∷◌, inl, inr, refl}
use Rattle.std.proofs.lemmas.Bool.{and_parts}
use Rattle.gx_base.specs.declared.type_name.Builtin.TheVariants.{AnyType, AnySimple}
use Rattle.gx_base.specs.declared.type_name.TypeName.TheVariants as names
use Rattle.gx_types.specs.declared.item_type.ItemType.{ItemType}
use Rattle.gx_types.specs.declared.item_type.ItemType.TheVariants as items
use Rattle.gx_types.specs.declared.shape.Shape.{Shape}
use Rattle.gx_types.specs.declared.shape.Shape.TheVariants as shapes
use Rattle.gx_types.specs.SchemaSet.{SchemaSet}
use Rattle.gx_types.specs.Derivation.{bases_of}
use Rattle.gx_types.specs.Grounded.{Grounded}
use Rattle.gx_types.specs.ItemTakes.{ItemTakes}
use Rattle.gx_types.specs.Prime.{items_of}
use Rattle.gx_types.specs.SequenceType.{SequenceType}
use Rattle.gx_types.specs.Takes.{Takes, EachShape}
use Rattle.gx_types.proofs.PublicLaws.{derivation_is_a_preorder}
use Rattle.gx_types.proofs.DerivationTest.{derives_when_tested}
use Rattle.gx_include.specs.Decision.{is_included}
use Rattle.gx_include.proofs.Deciding.{inclusion_is_decided}
use Rattle.gx_steptype.specs.StepType.{node_type}
use Rattle.gx_static.specs.Rule.{all_items, is_at_most_one, is_node_item, optional_node, nodes_type}
use Rattle.gx_static.proofs.DemandLaws.{shapes_of, each_kind, each_starred, short_taken, no_more_than_one}

-- the type of a node takes each shape that such an item type takes
node_taken : (s : SchemaSet) (kind : ItemType) (shape : Shape) → is_node_item s kind ≡ true → ItemTakes s kind shape → Takes s node_type (shape ∷ [])
node_taken s (items.Element wanted k) (shapes.Elem name t) e h =
    inl (inl (inr (shapes.Elem name t, refl, (refl, derivation_is_a_preorder.transitive s t k (names.Builtin AnyType) h.1 (derives_when_tested s k (names.Builtin AnyType) e)))))
node_taken s (items.Element wanted k) _ e h = absurd h
node_taken s (items.Attribute wanted k) (shapes.Attr name t) e h =
    inl (inr (shapes.Attr name t, refl, (refl, derivation_is_a_preorder.transitive s t k (names.Builtin AnySimple) h.1 (derives_when_tested s k (names.Builtin AnySimple) e))))
node_taken s (items.Attribute wanted k) _ e h = absurd h
node_taken s items.Text shapes.Text e h = inr (shapes.Text, refl, tt)
node_taken s items.Text _ e h = absurd h
node_taken s (items.Document element) (shapes.Doc child) e h = inl (inl (inl (shapes.Doc child, refl, tt)))
node_taken s (items.Document None) _ e h = absurd h
node_taken s (items.Document (Some element)) _ e h = absurd h
node_taken s (items.Atom k) shape e h = absurd (cc)

-- each shape that a type takes whose item types are of nodes
nodes_taken : (s : SchemaSet) (t : SequenceType) (list : List Shape) → all_items (is_node_item s) t ≡ true → Takes s t list → EachShape (λ shape. Takes s node_type (shape ∷ [])) list
nodes_taken s t list e takes =
    shapes_of s (is_node_item s) (λ kind. Unit {0}) (λ shape. Takes s node_type (shape ∷ [])) t list (λ kind shape known passes taken. node_taken s kind shape passes taken) (each_kind (λ kind. Unit {0}) (items_of t) (λ kind. tt)) e takes

pub nodes_are_included : (s : SchemaSet) (t : SequenceType) → Grounded (bases_of s) → all_items (is_node_item s) t ≡ true → is_included s t nodes_type ≡ true
nodes_are_included s t g e = (inclusion_is_decided s t nodes_type g).1 (λ list formed takes. each_starred s node_type list (nodes_taken s t list e takes))

pub one_node_is_included : (s : SchemaSet) (t : SequenceType) → Grounded (bases_of s) → (is_at_most_one t && all_items (is_node_item s) t) ≡ true → is_included s t optional_node ≡ true
one_node_is_included s t g e =
    let p = and_parts (is_at_most_one t) (all_items (is_node_item s) t) e in
    (inclusion_is_decided s t optional_node g).1 (λ list formed takes. short_taken s node_type list (no_more_than_one s t list p.0 takes) (nodes_taken s t list p.1 takes))

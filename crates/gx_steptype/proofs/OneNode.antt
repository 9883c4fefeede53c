-- A choice of item types of nodes is a type of one node.
use Rattle.std.proofs.Common.{◌≡◌, true, Option, None, Some, is_some, List, [], ◌∷◌, inl, inr, refl}
use Rattle.gx_base.specs.declared.name.Name.{Name}
use Rattle.gx_base.specs.declared.type_name.Builtin.{Builtin}
use Rattle.gx_base.specs.declared.type_name.Builtin.TheVariants.{AnyType, AnySimple}
use Rattle.gx_base.specs.declared.type_name.TypeName.{TypeName}
use Rattle.gx_base.specs.declared.type_name.TypeName.TheVariants as names
use Rattle.gx_types.specs.declared.item_type.ItemType.{ItemType}
use Rattle.gx_types.specs.declared.item_type.ItemType.TheVariants as items
use Rattle.gx_types.specs.declared.shape.Shape.{Shape}
use Rattle.gx_types.specs.declared.shape.Shape.TheVariants as shapes
use Rattle.gx_types.specs.SchemaSet.{SchemaSet, declaration_of}
use Rattle.gx_types.specs.Derivation.{bases_of, is_derived}
use Rattle.gx_types.specs.Grounded.{Grounded}
use Rattle.gx_types.specs.ItemTakes.{ItemTakes}
use Rattle.gx_types.specs.SequenceType.{SequenceType, item, either}
use Rattle.gx_types.specs.Takes.{Takes}
use Rattle.gx_types.proofs.PublicLaws.{derivation_is_a_preorder, all_types_are_derived_from_any_type}
use Rattle.gx_types.proofs.DerivationTest.{derives_when_tested, tested_when_derives}
use Rattle.gx_include.specs.Decision.{is_included}
use Rattle.gx_include.specs.Inclusion.{IsIncluded}
use Rattle.gx_include.proofs.Deciding.{inclusion_is_decided}
use Rattle.gx_steptype.specs.StepType.{node_type}
use Rattle.gx_steptype.proofs.SimpleKinds.{is_declared_too}

-- an item type whose shapes node() takes is included in it
item_included : (s : SchemaSet) (kind : ItemType) → Grounded (bases_of s) → ((shape : Shape) → ItemTakes s kind shape → Takes s node_type (shape ∷ [])) → is_included s (item kind) node_type ≡ true
item_included s kind g taken =
    (inclusion_is_decided s (item kind) node_type g).1 (λ list formed takes. taken_list list takes)
  where
    taken_list : (list : List Shape) → Takes s (item kind) list → Takes s node_type list
    taken_list list (shape, is, took) = rw is (taken shape took)

element_taken : (s : SchemaSet) (name : Option Name) (kind : TypeName) → is_derived s kind (names.Builtin AnyType) ≡ true → (shape : Shape) → ItemTakes s (items.Element name kind) shape → Takes s node_type (shape ∷ [])
element_taken s name kind e (shapes.Elem given t) h =
    inl (inl (inr (shapes.Elem given t, refl, (refl, derivation_is_a_preorder.transitive s t kind (names.Builtin AnyType) h.1 (derives_when_tested s kind (names.Builtin AnyType) e)))))
element_taken s name kind e _ h = absurd h

attribute_taken : (s : SchemaSet) (name : Option Name) (kind : TypeName) → is_derived s kind (names.Builtin AnySimple) ≡ true → (shape : Shape) → ItemTakes s (items.Attribute name kind) shape
    → Takes s node_type (shape ∷ [])
attribute_taken s name kind e (shapes.Attr given t) h =
    inl (inr (shapes.Attr given t, refl, (refl, derivation_is_a_preorder.transitive s t kind (names.Builtin AnySimple) h.1 (derives_when_tested s kind (names.Builtin AnySimple) e))))
attribute_taken s name kind e _ h = absurd h

text_taken : (s : SchemaSet) (shape : Shape) → ItemTakes s items.Text shape → Takes s node_type (shape ∷ [])
text_taken s shapes.Text h = inr (shapes.Text, refl, tt)
text_taken s _ h = absurd h

document_taken : (s : SchemaSet) (element : Option (Option Name × TypeName)) (shape : Shape) → ItemTakes s (items.Document element) shape → Takes s node_type (shape ∷ [])
document_taken s element (shapes.Doc child) h = inl (inl (inl (shapes.Doc child, refl, tt)))
document_taken s None _ h = absurd h
document_taken s (Some element) _ h = absurd h

pub element_included : (s : SchemaSet) (name : Option Name) (kind : TypeName) → Grounded (bases_of s) → is_derived s kind (names.Builtin AnyType) ≡ true → is_included s (item (items.Element name kind)) node_type ≡ true
element_included s name kind g e = item_included s (items.Element name kind) g (element_taken s name kind e)

pub attribute_included : (s : SchemaSet) (name : Option Name) (kind : TypeName) → Grounded (bases_of s) → is_derived s kind (names.Builtin AnySimple) ≡ true → is_included s (item (items.Attribute name kind)) node_type ≡ true
attribute_included s name kind g e = item_included s (items.Attribute name kind) g (attribute_taken s name kind e)

pub text_included : (s : SchemaSet) → Grounded (bases_of s) → is_included s (item items.Text) node_type ≡ true
text_included s g = item_included s items.Text g (text_taken s)

pub document_included : (s : SchemaSet) (element : Option (Option Name × TypeName)) → Grounded (bases_of s) → is_included s (item (items.Document element)) node_type ≡ true
document_included s element g = item_included s (items.Document element) g (document_taken s element)

-- a choice of two such types

both_included : (s : SchemaSet) (a b t : SequenceType) → IsIncluded s a t → IsIncluded s b t → IsIncluded s (either a b) t
both_included s a b t i j list formed (inl h) = i list formed h
both_included s a b t i j list formed (inr h) = j list formed h

pub choice_included : (s : SchemaSet) (a b : SequenceType) → Grounded (bases_of s) → is_included s a node_type ≡ true → is_included s b node_type ≡ true → is_included s (either a b) node_type ≡ true
choice_included s a b g e f =
    (inclusion_is_decided s (either a b) node_type g).1 (both_included s a b node_type ((inclusion_is_decided s a node_type g).0 e) ((inclusion_is_decided s b node_type g).0 f))

-- each built-in type and each declared one is derived from xs:anyType

pub builtin_is_any : (s : SchemaSet) (b : Builtin) → Grounded (bases_of s) → is_derived s (names.Builtin b) (names.Builtin AnyType) ≡ true
builtin_is_any s b g = tested_when_derives s (names.Builtin b) (names.Builtin AnyType) g (all_types_are_derived_from_any_type.builtin s b)

pub declared_is_any : (s : SchemaSet) (kind : TypeName) → Grounded (bases_of s) → is_some (declaration_of s kind) ≡ true → is_derived s kind (names.Builtin AnyType) ≡ true
declared_is_any s kind g e = tested_when_derives s kind (names.Builtin AnyType) g (all_types_are_derived_from_any_type.declared s kind g (is_declared_too s kind (declaration_of s kind) refl e))

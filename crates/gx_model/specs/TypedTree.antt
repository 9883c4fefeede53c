-- Trees whose elements keep to their types (XML Schema 1.0 part 1, sections 3.3.4, 3.4.4 and 3.14.4).
use Rattle.std.specs.Prelude.{◌≡◌, ◌⊎◌, true, List, [], ◌∷◌, Some}
use Rattle.std.specs.Bool.{IsTrue}
use Rattle.std.specs.List.{list_any}
use Rattle.gx_base.specs.Name.{same_name}
use Rattle.gx_base.specs.declared.type_name.Builtin.TheVariants.{UntypedAtomic}
use Rattle.gx_base.specs.declared.type_name.TypeName.{TypeName}
use Rattle.gx_base.specs.declared.type_name.TypeName.TheVariants.{Builtin}
use Rattle.gx_tree.specs.PlainTree.{PlainTree, PlainTrees, document, element, attribute, text, no_trees, a_tree}
use Rattle.gx_tree.specs.Erasure.{IsUntyped}
use Rattle.gx_tree.specs.OwnNames.{HaveOwnNames}
use Rattle.gx_tree.specs.StringValue.{string_values}
use Rattle.gx_tree.specs.declared.attribute.Attribute.{Attribute}
use Rattle.gx_types.specs.SchemaSet.{SchemaSet, declaration_of}
use Rattle.gx_types.specs.SchemaInvariant.{HoldsOfEach, is_named_type, is_simple_type}
use Rattle.gx_types.specs.Takes.{Takes}
use Rattle.gx_types.specs.declared.declaration.AttributeUse.{AttributeUse}
use Rattle.gx_types.specs.declared.shape.Shape.{Shape}
use Rattle.gx_model.specs.Belongs.{shape_of}
use Rattle.gx_model.specs.DeclaredContent.{content_model, has_values, uses_allowed, use_named, is_valued}

-- the type of an attribute is a declared simple type, or a built-in type that declarations may name, and its value is one of that type
pub record IsTypedAttribute (schemas : SchemaSet) (a : Attribute) : Type 0 where
  pub simple : IsTrue (is_simple_type schemas a.kind)
  pub value : is_valued schemas a.kind a.value ≡ true

-- an attribute is allowed, with the type that it has
pub record IsAllowedAttribute (schemas : SchemaSet) (uses : List AttributeUse) (a : Attribute) : Type 0 where
  pub use_of_it : AttributeUse
  pub allowed : use_named uses a.name ≡ Some use_of_it
  pub kind : a.kind ≡ use_of_it.kind
  pub typed : IsTypedAttribute schemas a

-- a required attribute is there
abbrev pub IsGivenWhereRequired : List Attribute → AttributeUse → Type 0
IsGivenWhereRequired attributes given = given.required ≡ true → list_any (λ (a : Attribute). same_name given.name a.name) attributes ≡ true

abbrev pub shapes_of_trees : PlainTrees → List Shape
shapes_of_trees no_trees = []
shapes_of_trees (a_tree t ts) = shape_of t ∷ shapes_of_trees ts

-- an element keeps to its type, apart from what its children keep to
pub record KeepsToType (schemas : SchemaSet) (kind : TypeName) (attributes : List Attribute) (ts : PlainTrees) : Type 0 where
  -- the type is declared, or a built-in type that declarations may name
  pub known : IsTrue (is_named_type schemas kind)
  -- its attributes are allowed, the required ones are there, and no two have equal names
  pub allowed : HoldsOfEach (IsAllowedAttribute schemas (uses_allowed (declaration_of schemas kind))) attributes
  pub required : HoldsOfEach (IsGivenWhereRequired attributes) (uses_allowed (declaration_of schemas kind))
  pub distinct : HaveOwnNames attributes
  -- its content takes the children
  pub children : Takes schemas (content_model (declaration_of schemas kind)) (shapes_of_trees ts)
  -- its string value is one of the type, where that has simple values
  pub value : has_values (declaration_of schemas kind) ≡ true → is_valued schemas kind (string_values ts) ≡ true

-- so do all elements of a tree
abbrev mutual
  pub IsWellTyped : SchemaSet → PlainTree → Type 0
  IsWellTyped schemas (document ts) = AreWellTyped schemas ts
  IsWellTyped schemas (element name kind attributes ts) = KeepsToType schemas kind attributes ts × AreWellTyped schemas ts
  IsWellTyped schemas (attribute a) = Unit {0}
  IsWellTyped schemas (text x) = Unit {0}

  pub AreWellTyped : SchemaSet → PlainTrees → Type 0
  AreWellTyped schemas no_trees = Unit {0}
  AreWellTyped schemas (a_tree t ts) = IsWellTyped schemas t × AreWellTyped schemas ts

-- the elements of a tree keep to their types, but for those that are xs:untyped, whose attributes are xs:untypedAtomic, and all elements
-- below xs:untyped as well; an attribute by itself is xs:untypedAtomic or typed (XQuery 1.0 and XPath 2.0 Data Model, sections 6.2 and 6.3)
abbrev mutual
  pub IsTyped : SchemaSet → PlainTree → Type 0
  IsTyped schemas (document ts) = AreTyped schemas ts
  IsTyped schemas (element name kind attributes ts) = IsUntyped (element name kind attributes ts) ⊎ (KeepsToType schemas kind attributes ts × AreTyped schemas ts)
  IsTyped schemas (attribute a) = (a.kind ≡ Builtin UntypedAtomic) ⊎ IsTypedAttribute schemas a
  IsTyped schemas (text x) = Unit {0}

  pub AreTyped : SchemaSet → PlainTrees → Type 0
  AreTyped schemas no_trees = Unit {0}
  AreTyped schemas (a_tree t ts) = IsTyped schemas t × AreTyped schemas ts

-- What the declarations of schemas keep to (XML Schema 1.0 part 1, sections 3.3.6, 3.4.6, 3.8.6 and 3.14.6).
use Rattle.std.specs.Prelude.{◌≡◌, nat_le, Bool, true, false, ◌||◌, not, List, [], ◌∷◌, map, Option, None, Some, is_some, ◌⊎◌}
use Rattle.std.specs.Bool.{IsTrue}
use Rattle.std.specs.List.{list_any}
use Rattle.gx_base.specs.Name.{same_name}
use Rattle.gx_base.specs.declared.type_name.Builtin.{Builtin}
use Rattle.gx_base.specs.declared.type_name.Builtin.TheVariants.{AnyType, AnySimple, Str}
use Rattle.gx_base.specs.declared.type_name.TypeName.{TypeName}
use Rattle.gx_base.specs.declared.type_name.TypeName.TheVariants as names
use Rattle.gx_types.specs.BuiltinOrder.{builtin_number}
use Rattle.gx_types.specs.SameItemType.{same_type_name}
use Rattle.gx_types.specs.declared.declaration.AttributeUse.{AttributeUse}
use Rattle.gx_types.specs.declared.declaration.Content.{Content}
use Rattle.gx_types.specs.declared.declaration.Content.TheVariants as contents
use Rattle.gx_types.specs.declared.declaration.Declared.{Declared}
use Rattle.gx_types.specs.declared.declaration.GlobalElement.{GlobalElement}
use Rattle.gx_types.specs.declared.item_type.ItemType.{ItemType}
use Rattle.gx_types.specs.declared.item_type.ItemType.TheVariants as items
use Rattle.gx_types.specs.SchemaSet.{SchemaSet, declared_types, declaration_of}
use Rattle.gx_types.specs.Derivation.{bases_of, DerivesFrom}
use Rattle.gx_types.specs.Grounded.{Grounded}
use Rattle.gx_types.specs.Prime.{items_of}

-- kinds of types

-- a built-in type that declarations may name: one from xs:string on
abbrev pub is_nameable : Builtin → Bool
is_nameable builtin = nat_le (builtin_number Str) (builtin_number builtin)

abbrev pub is_atomic_content : Content → Bool
is_atomic_content (contents.Atomic facets) = true
is_atomic_content _ = false

-- the item type of a list
abbrev pub item_of_list : Content → Option TypeName
item_of_list (contents.List item facets) = Some item
item_of_list _ = None

abbrev pub is_simple_content : Content → Bool
is_simple_content (contents.Atomic facets) = true
is_simple_content (contents.List item facets) = true
is_simple_content _ = false

-- what a test says of the content of a declared type
abbrev pub content_is : Option Declared → (Content → Bool) → Bool
content_is None test = false
content_is (Some declared) test = test declared.content

abbrev pub is_atomic_type : SchemaSet → TypeName → Bool
is_atomic_type schemas (names.Builtin builtin) = is_nameable builtin
is_atomic_type schemas t = content_is (declaration_of schemas t) is_atomic_content

abbrev pub is_simple_type : SchemaSet → TypeName → Bool
is_simple_type schemas (names.Builtin builtin) = is_nameable builtin
is_simple_type schemas t = content_is (declaration_of schemas t) is_simple_content

-- a type that a declaration may name: a built-in one from xs:string on, or a declared one
abbrev pub is_named_type : SchemaSet → TypeName → Bool
is_named_type schemas (names.Builtin builtin) = is_nameable builtin
is_named_type schemas t = is_some (declaration_of schemas t)

-- a type is a list of items of a type from which this one is derived
abbrev pub IsListOver : SchemaSet → TypeName → TypeName → Type 0
IsListOver schemas item base =
    (declared : Declared) × (other : TypeName) × (declaration_of schemas base ≡ Some declared) × (item_of_list declared.content ≡ Some other)
    × DerivesFrom schemas item other

-- lists

-- something holds of each of a list
abbrev pub HoldsOfEach : {A : Type 0} → (A → Type 0) → List A → Type 0
HoldsOfEach Fact [] = Unit {0}
HoldsOfEach Fact (x ∷ xs) = Fact x × HoldsOfEach Fact xs

-- no two of a list are the same
abbrev pub AreDistinctBy : {A : Type 0} → (A → A → Bool) → List A → Type 0
AreDistinctBy same [] = Unit {0}
AreDistinctBy same (x ∷ xs) = (list_any (same x) xs ≡ false) × AreDistinctBy same xs

-- one declaration

abbrev pub is_built_in : TypeName → Bool
is_built_in (names.Builtin builtin) = true
is_built_in _ = false

-- the base of a type with this content
abbrev pub BaseFits : SchemaSet → Content → TypeName → Type 0
BaseFits schemas (contents.Atomic facets) base = IsTrue (is_atomic_type schemas base)
BaseFits schemas (contents.List item facets) base = (base ≡ names.Builtin AnySimple) ⊎ IsListOver schemas item base
BaseFits schemas (contents.Simple kind facets) base = (base ≡ names.Builtin AnyType) ⊎ IsTrue (is_named_type schemas base)
BaseFits schemas (contents.Complex mixed model) base = (base ≡ names.Builtin AnyType) ⊎ IsTrue (is_named_type schemas base)

-- a content model holds elements with names, and texts where it is mixed
abbrev pub IsModelItem : SchemaSet → (mixed : Bool) → ItemType → Type 0
IsModelItem schemas mixed (items.Element (Some name) kind) = IsTrue (is_named_type schemas kind)
IsModelItem schemas mixed items.Text = IsTrue mixed
IsModelItem schemas mixed _ = ⊥

-- two elements of one name have one type
abbrev pub have_one_type : ItemType → ItemType → Bool
have_one_type (items.Element (Some a) t) (items.Element (Some b) u) = not (same_name a b) || same_type_name t u
have_one_type _ _ = true

abbrev pub DeclaresOneTypeAName : List ItemType → Type 0
DeclaresOneTypeAName [] = Unit {0}
DeclaresOneTypeAName (kind ∷ kinds) = HoldsOfEach (λ other. IsTrue (have_one_type kind other)) kinds × DeclaresOneTypeAName kinds

abbrev pub ContentFits : SchemaSet → Content → Type 0
ContentFits schemas (contents.Atomic facets) = Unit {0}
ContentFits schemas (contents.List item facets) = IsTrue (is_atomic_type schemas item)
ContentFits schemas (contents.Simple kind facets) = IsTrue (is_simple_type schemas kind)
ContentFits schemas (contents.Complex mixed model) = HoldsOfEach (IsModelItem schemas mixed) (items_of model) × DeclaresOneTypeAName (items_of model)

pub record IsDeclarationOf (schemas : SchemaSet) (declared : Declared) : Type 0 where
  pub named : is_built_in declared.name ≡ false
  pub base : BaseFits schemas declared.content declared.base
  pub content : ContentFits schemas declared.content
  pub attributes : HoldsOfEach (λ (attribute : AttributeUse). IsTrue (is_simple_type schemas attribute.kind)) declared.attributes
  pub distinct : AreDistinctBy same_name (map (λ (attribute : AttributeUse). attribute.name) declared.attributes)

-- all declarations

pub record IsSchemaSet (schemas : SchemaSet) : Type 0 where
  -- the bases of declared types end at built-in types
  pub grounded : Grounded (bases_of schemas)
  pub types : HoldsOfEach (IsDeclarationOf schemas) schemas.types
  pub distinct : AreDistinctBy same_type_name (declared_types schemas)
  pub elements : HoldsOfEach (λ (element : GlobalElement). IsTrue (is_named_type schemas element.kind)) schemas.elements
  pub distinct_elements : AreDistinctBy same_name (map (λ (element : GlobalElement). element.name) schemas.elements)

-- Lists of types that are read and not faulty.
use Rattle.std.proofs.Common.{◌≡◌, ℕ, ◌<◌, Bool, true, false, List, length, map, Option, None, Some, slice_get}
use Rattle.std.specs.Bool.{IsTrue}
use Rattle.gx_base.specs.Name.{same_name}
use Rattle.gx_base.specs.declared.type_name.TypeName.{TypeName}
use Rattle.gx_types.specs.SameItemType.{same_type_name}
use Rattle.gx_types.specs.SchemaInvariant.{AreDistinctBy, ContentFits, HoldsOfEach, is_built_in, is_nameable, is_simple_type}
use Rattle.gx_types.specs.SchemaSet.{SchemaSet}
use Rattle.gx_types.specs.declared.declaration.GlobalElement.{GlobalElement}
use Rattle.gx_schema_components.specs.declared.component.Base.{Base}
use Rattle.gx_schema_components.specs.declared.component.Base.TheVariants.{Builtin, Declared}
use Rattle.gx_schema_simple.specs.CircularTypes.{HasNoCircle}
use Rattle.gx_schema_simple.specs.Laws.{AreConsistent}
use Rattle.gx_schema_simple.specs.declared.type_form.TypeForm.{TypeForm}
use Rattle.gx_schema_simple.specs.declared.type_form.TypeForm.TheVariants as forms
use Rattle.gx_types.specs.declared.declaration.AttributeUse.{AttributeUse}
use Rattle.gx_types.specs.declared.declaration.Declared.{Declared as DeclaredType}
use Rattle.gx_schema_syntax.specs.declared.written.WrittenFacet.{WrittenFacet}
use Rattle.gx_schema_content.specs.declared.effective.Effective.{Effective}
use Rattle.gx_schema_simple.specs.Varieties.{variety_of}
use Rattle.gx_schema.specs.DerivationFaults.{has_complex_content}
use Rattle.gx_schema.specs.SchemaTypes.{TypeMeanings, declared_complex, schema_types}

-- a base is a built-in type that may be named, or one of so many declared types
abbrev pub IsReadBase : (count : ℕ) → Base → Type 0
IsReadBase count (Builtin builtin) = IsTrue (is_nameable builtin)
IsReadBase count (Declared number) = number < count

-- a type names what is read
abbrev pub IsReadForm : (count : ℕ) → TypeForm → Type 0
IsReadForm count (forms.Restriction place base facets) = IsReadBase count base
IsReadForm count (forms.List place item) = IsReadBase count item
IsReadForm count (forms.SimpleContent base facets) = IsReadBase count base
IsReadForm count (forms.ComplexContent None) = Unit {0}
IsReadForm count (forms.ComplexContent (Some base)) = IsReadBase count base

-- a simple type has one of these forms
abbrev pub is_simple_form : Option TypeForm → Bool
is_simple_form (Some (forms.Restriction place base facets)) = true
is_simple_form (Some (forms.List place item)) = true
is_simple_form _ = false

-- simple content does not rest on a type with complex content
abbrev pub HasSimpleBases : List TypeForm → Type 0
HasSimpleBases types = (number : ℕ) (base : Base) (facets : List WrittenFacet) → slice_get types number ≡ Some (forms.SimpleContent base facets) → (other : ℕ) → base ≡ Declared other →
    has_complex_content (slice_get types other) ≡ false

-- types with their names: none is faulty or stands on a circle
pub record AreReadTypes (declared : List TypeName) (types : List TypeForm) : Type 0 where
  pub sized : length declared ≡ length types
  pub distinct : AreDistinctBy same_type_name declared
  pub named : (number : ℕ) (name : TypeName) → slice_get declared number ≡ Some name → is_built_in name ≡ false
  pub read : (number : ℕ) (form : TypeForm) → slice_get types number ≡ Some form → IsReadForm (length declared) form
  pub circles : HasNoCircle types
  pub faults : AreConsistent types
  pub simple_bases : HasSimpleBases types

-- the contents and the attributes of types, by number
pub record HeldByTypes : Type 0 where
  pub content : ℕ → Effective
  pub uses : ℕ → List AttributeUse

abbrev pub meanings_with : List TypeForm → HeldByTypes → TypeMeanings
meanings_with types held = record { variety = variety_of types; content = held.content; uses = held.uses }

abbrev pub types_with : List TypeName → List TypeForm → HeldByTypes → List DeclaredType
types_with declared types held = schema_types declared types (meanings_with types held)

-- the schemas that declare these types
abbrev pub schemas_with : List TypeName → List TypeForm → HeldByTypes → List GlobalElement → List (List ℕ) → SchemaSet
schemas_with declared types held elements targets = record { types = types_with declared types held; elements = elements; targets = targets }

-- contents and attributes keep to what schemas ask of those of types
pub record HoldWhatFits (schemas : SchemaSet) (held : HeldByTypes) : Type 0 where
  pub content : (number : ℕ) → ContentFits schemas (declared_complex (held.content number))
  pub attributes : (number : ℕ) → HoldsOfEach (λ (attribute : AttributeUse). IsTrue (is_simple_type schemas attribute.kind)) (held.uses number)
  pub distinct : (number : ℕ) → AreDistinctBy same_name (map (λ (attribute : AttributeUse). attribute.name) (held.uses number))

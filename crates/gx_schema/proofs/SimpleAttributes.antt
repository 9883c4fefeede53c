-- The types that attributes are written with are simple.
use Rattle.std.proofs.Common.{◌≡◌, ◌∙◌, ℕ, zero, suc, Bool, true, false, ◌&&◌, ◌||◌, List, [], ◌∷◌, slice_get, Option, None, Some, refl, sym, ap}
use Rattle.std.specs.List.{list_any}
use Rattle.std.specs.Option.{option_map_or}
use Rattle.std.proofs.lemmas.Bool.{true≢false}
use Rattle.gx_base.specs.declared.type_name.TypeName.TheVariants as names
use Rattle.gx_types.specs.SameItemType.{same_type_name}
use Rattle.gx_types.specs.SchemaInvariant.{HoldsOfEach}
use Rattle.gx_schema_syntax.specs.declared.written.AttributeMember.{AttributeMember}
use Rattle.gx_schema_syntax.specs.declared.written.AttributeMember.TheVariants as members
use Rattle.gx_schema_syntax.specs.declared.written.GlobalDeclaration.{GlobalDeclaration}
use Rattle.gx_schema_syntax.specs.declared.written.GlobalDeclaration.TheVariants as globals
use Rattle.gx_schema_syntax.specs.declared.written.LocalDeclaration.{LocalDeclaration}
use Rattle.gx_schema_syntax.specs.declared.written.LocalDeclaration.TheVariants as locals
use Rattle.gx_schema_syntax.specs.declared.written.SimpleTypeDefinition.TheVariants as simple
use Rattle.gx_schema_syntax.specs.declared.written.TypeDeclaration.{TypeDeclaration}
use Rattle.gx_schema_syntax.specs.declared.written.TypeDefinition.{TypeDefinition}
use Rattle.gx_schema_syntax.specs.declared.written.TypeDefinition.TheVariants as definitions
use Rattle.gx_schema_syntax.specs.declared.written.TypeReference.{TypeReference}
use Rattle.gx_schema_syntax.specs.declared.written.Usage.{Usage}
use Rattle.gx_schema_syntax.specs.declared.written.Usage.TheVariants as usages
use Rattle.gx_schema_syntax.specs.DocumentTree.{DocumentTree}
use Rattle.gx_schema_components.specs.declared.component.ModelGroup.{ModelGroup}
use Rattle.gx_schema_components.specs.DeclaredNames.{declarations_in, types_in}
use Rattle.gx_schema_components.specs.Referred.{Globals}
use Rattle.gx_schema_components.specs.TypeComponents.{form_placed, types_placed}
use Rattle.gx_schema.specs.AttributeTypes.{complex_attribute_type, complex_from, complex_in_document, complex_in_global, complex_in_type, complex_local, complex_member, first_complex_member, first_complex_of, is_complex_declaration, is_complex_definition, is_complex_number, is_complex_type}
use Rattle.gx_schema.specs.FirstFound.{first_found, found_in_definition, found_in_type, place_where}
use Rattle.gx_schema.specs.TypeForms.{form_of_type, forms_of}
use Rattle.gx_schema.proofs.EarlierFound.{left_none, right_none}
use Rattle.gx_schema.proofs.Lists.{first_none, holds_append, holds_behind, holds_front, mapped_none, second_none}
use Rattle.gx_schema.proofs.ReadDeclarations.{HoldsDeclaration, HoldsDefinition, HoldsGlobal, HoldsLocal, HoldsMember, HoldsUse, is_anonymous, is_simple_definition}
use Rattle.gx_schema.proofs.SimpleForms.{is_simple_form}

-- ---- no attribute has a complex type

abbrev pub IsNotComplexType : List DocumentTree → TypeReference → Type 0
IsNotComplexType documents kind = is_complex_type documents kind ≡ false

no_place : (b : Bool) (place : ℕ) → place_where b place ≡ None → b ≡ false
no_place true place e = absurd (cc)
no_place false place e = refl

local_is_not : (documents : List DocumentTree) (place : ℕ) (declaration : LocalDeclaration) → complex_local (is_complex_type documents) place declaration ≡ None → HoldsLocal (IsNotComplexType documents) declaration
local_is_not documents place (locals.Declared name kind) e = no_place (is_complex_type documents kind) place e
local_is_not documents place (locals.Referred reference kind) e = tt

use_is_not : (documents : List DocumentTree) (place : ℕ) (usage : Usage) (declaration : LocalDeclaration) → complex_local (is_complex_type documents) place declaration ≡ None → HoldsUse (IsNotComplexType documents) usage declaration
use_is_not documents place usages.Optional declaration e = local_is_not documents place declaration e
use_is_not documents place usages.Required declaration e = local_is_not documents place declaration e
use_is_not documents place usages.Prohibited declaration e = tt

member_is_not : (documents : List DocumentTree) (member : AttributeMember) → complex_member (is_complex_type documents) member ≡ None → HoldsMember (IsNotComplexType documents) member
member_is_not documents (members.Attribute place usage attribute) e = use_is_not documents place usage attribute e
member_is_not documents (members.Group place reference) e = tt

members_are_not : (documents : List DocumentTree) (list : List AttributeMember) → first_complex_member (is_complex_type documents) list ≡ None → HoldsOfEach (HoldsMember (IsNotComplexType documents)) list
members_are_not documents [] e = tt
members_are_not documents (member ∷ others) e =
    let here = complex_member (is_complex_type documents) member in
    let rest = first_complex_member (is_complex_type documents) others in
    (member_is_not documents member (first_none here rest e), members_are_not documents others (second_none here rest e))

-- ---- two facts of attributes

abbrev pub Both : (Fact Other : TypeReference → Type 0) → TypeReference → Type 0
Both Fact Other kind = Fact kind × Other kind

local_both : (Fact Other : TypeReference → Type 0) (declaration : LocalDeclaration) → HoldsLocal Fact declaration → HoldsLocal Other declaration → HoldsLocal (Both Fact Other) declaration
local_both Fact Other (locals.Declared name kind) h k = (h, k)
local_both Fact Other (locals.Referred reference kind) h k = tt

use_both : (Fact Other : TypeReference → Type 0) (usage : Usage) (declaration : LocalDeclaration) → HoldsUse Fact usage declaration → HoldsUse Other usage declaration → HoldsUse (Both Fact Other) usage declaration
use_both Fact Other usages.Optional declaration h k = local_both Fact Other declaration h k
use_both Fact Other usages.Required declaration h k = local_both Fact Other declaration h k
use_both Fact Other usages.Prohibited declaration h k = tt

member_both : (Fact Other : TypeReference → Type 0) (member : AttributeMember) → HoldsMember Fact member → HoldsMember Other member → HoldsMember (Both Fact Other) member
member_both Fact Other (members.Attribute place usage attribute) h k = use_both Fact Other usage attribute h k
member_both Fact Other (members.Group place reference) h k = tt

members_both : (Fact Other : TypeReference → Type 0) (list : List AttributeMember) → HoldsOfEach (HoldsMember Fact) list → HoldsOfEach (HoldsMember Other) list → HoldsOfEach (HoldsMember (Both Fact Other)) list
members_both Fact Other [] h k = tt
members_both Fact Other (member ∷ others) h k = (member_both Fact Other member h.0 k.0, members_both Fact Other others h.1 k.1)

-- ---- attributes whose types are not complex, besides what else holds of them

module _ (documents : List DocumentTree) (Elements Attributes : TypeReference → Type 0) where
  definition_holds_both : (definition : TypeDefinition) → first_complex_of (is_complex_type documents) definition ≡ None → HoldsDefinition Elements Attributes definition →
      HoldsDefinition Elements (Both Attributes (IsNotComplexType documents)) definition
  definition_holds_both (definitions.Simple definition) e h = tt
  definition_holds_both (definitions.Complex definition) e h = (h.0, members_both Attributes (IsNotComplexType documents) definition.attributes h.1 (members_are_not documents definition.attributes e))

  global_holds_both : (file : ℕ) (g : GlobalDeclaration) → complex_in_global (is_complex_type documents) file g ≡ None → HoldsGlobal Elements Attributes g → HoldsGlobal Elements (Both Attributes (IsNotComplexType documents)) g
  global_holds_both file (globals.Element place name kind) e h = h
  global_holds_both file (globals.Attribute place name kind) e h =
      (h, no_place (is_complex_type documents kind) place (mapped_none (found_in_definition file name) (place_where (is_complex_type documents kind) place) e))
  global_holds_both file (globals.Group place name particle) e h = h
  global_holds_both file (globals.AttributeGroup place name attributes) e h =
      members_both Attributes (IsNotComplexType documents) attributes h
      (members_are_not documents attributes (mapped_none (found_in_definition file name) (first_complex_member (is_complex_type documents) attributes) e))

  types_hold_both : (file : ℕ) (written : List TypeDeclaration) → first_found (complex_in_type (is_complex_type documents) file) written ≡ None → HoldsOfEach (HoldsDeclaration Elements Attributes) written →
      HoldsOfEach (HoldsDeclaration Elements (Both Attributes (IsNotComplexType documents))) written
  types_hold_both file [] e h = tt
  types_hold_both file (declaration ∷ others) e h =
      let here = complex_in_type (is_complex_type documents) file declaration in
      let rest = first_found (complex_in_type (is_complex_type documents) file) others in (
        definition_holds_both declaration.definition (mapped_none (found_in_type file declaration.name) (first_complex_of (is_complex_type documents) declaration.definition) (left_none here rest e)) h.0,
        types_hold_both file others (right_none here rest e) h.1,
      )

  globals_hold_both : (file : ℕ) (written : List GlobalDeclaration) → first_found (complex_in_global (is_complex_type documents) file) written ≡ None → HoldsOfEach (HoldsGlobal Elements Attributes) written →
      HoldsOfEach (HoldsGlobal Elements (Both Attributes (IsNotComplexType documents))) written
  globals_hold_both file [] e h = tt
  globals_hold_both file (g ∷ others) e h =
      let here = complex_in_global (is_complex_type documents) file g in
      let rest = first_found (complex_in_global (is_complex_type documents) file) others in
      (global_holds_both file g (left_none here rest e) h.0, globals_hold_both file others (right_none here rest e) h.1)

  documents_hold_both : (file : ℕ) (others : List DocumentTree) → complex_from (is_complex_type documents) file others ≡ None →
      HoldsOfEach (HoldsDeclaration Elements Attributes) (types_in others) → HoldsOfEach (HoldsGlobal Elements Attributes) (declarations_in others) →
      HoldsOfEach (HoldsDeclaration Elements (Both Attributes (IsNotComplexType documents))) (types_in others) × HoldsOfEach (HoldsGlobal Elements (Both Attributes (IsNotComplexType documents))) (declarations_in others)
  documents_hold_both file [] e h k = (tt, tt)
  documents_hold_both file (document ∷ others) e h k =
      let here = complex_in_document (is_complex_type documents) file document in
      let behind = complex_from (is_complex_type documents) (suc file) others in
      let in_types = first_found (complex_in_type (is_complex_type documents) file) document.types in
      let in_globals = first_found (complex_in_global (is_complex_type documents) file) document.declarations in
      let none = left_none here behind e in
      let rest = documents_hold_both (suc file) others (right_none here behind e) (holds_behind (HoldsDeclaration Elements Attributes) document.types (types_in others) h)
      (holds_behind (HoldsGlobal Elements Attributes) document.declarations (declarations_in others) k) in (
        holds_append (HoldsDeclaration Elements (Both Attributes (IsNotComplexType documents))) document.types (types_in others)
            (types_hold_both file document.types (left_none in_types in_globals none) (holds_front (HoldsDeclaration Elements Attributes) document.types (types_in others) h)) rest.0,
        holds_append (HoldsGlobal Elements (Both Attributes (IsNotComplexType documents))) document.declarations (declarations_in others)
            (globals_hold_both file document.declarations (right_none in_types in_globals none) (holds_front (HoldsGlobal Elements Attributes) document.declarations (declarations_in others) k)) rest.1,
      )

pub simple_attributes : (documents : List DocumentTree) (Elements Attributes : TypeReference → Type 0) → complex_attribute_type documents ≡ None →
    HoldsOfEach (HoldsDeclaration Elements Attributes) (types_in documents) → HoldsOfEach (HoldsGlobal Elements Attributes) (declarations_in documents) →
    HoldsOfEach (HoldsDeclaration Elements (Both Attributes (IsNotComplexType documents))) (types_in documents) × HoldsOfEach (HoldsGlobal Elements (Both Attributes (IsNotComplexType documents))) (declarations_in documents)
simple_attributes documents Elements Attributes e h k = documents_hold_both documents Elements Attributes 0 documents e h k

-- ---- the forms of simple types

form_here : (x : Globals) (first : ℕ) (groups : List ModelGroup) (definition : TypeDefinition) → is_simple_definition definition ≡ true → is_simple_form (Some (form_of_type (form_placed x first groups definition).placed)) ≡ true
form_here x first groups (definitions.Simple (simple.Restriction place base facets)) is = refl
form_here x first groups (definitions.Simple (simple.List place item)) is = refl
form_here x first groups (definitions.Complex definition) is = absurd (true≢false (sym is))

-- a simple type has a simple form
pub form_is_simple : (x : Globals) (first : ℕ) (groups : List ModelGroup) (declarations : List TypeDeclaration) (number : ℕ) (declaration : TypeDeclaration) → slice_get declarations number ≡ Some declaration → is_simple_definition declaration.definition ≡ true →
    is_simple_form (slice_get (forms_of (types_placed x first groups declarations).placed) number) ≡ true
form_is_simple x first groups [] number declaration e is = absurd (cc)
form_is_simple x first groups (other ∷ others) zero declaration e is =
    let same : other ≡ declaration = cc in form_here x first groups other.definition (ap (λ (d : TypeDeclaration). is_simple_definition d.definition) same ∙ is)
form_is_simple x first groups (other ∷ others) (suc number) declaration e is = form_is_simple x first (form_placed x first groups other.definition).groups others number declaration e is

-- a simple type without a name stands at a number
abbrev pub IsSimpleAt : List TypeDeclaration → (anonymous : ℕ) → Type 0
IsSimpleAt declarations anonymous =
    (number : ℕ) × (declaration : TypeDeclaration) × (slice_get declarations number ≡ Some declaration) × (is_simple_definition declaration.definition ≡ true) × (same_type_name declaration.name (names.Anonymous anonymous) ≡ true)

simple_at_by : (anonymous : ℕ) (declaration : TypeDeclaration) (others : List TypeDeclaration) (simple named rest : Bool) → is_simple_definition declaration.definition ≡ simple → same_type_name declaration.name (names.Anonymous anonymous) ≡ named →
    ((simple && named) || rest) ≡ true → (rest ≡ true → IsSimpleAt others anonymous) → IsSimpleAt (declaration ∷ others) anonymous
simple_at_by anonymous declaration others true true rest s n h k = (zero, declaration, refl, s, n)
simple_at_by anonymous declaration others true false rest s n h k = let found = k h in (suc found.0, found.1, found.2, found.3, found.4)
simple_at_by anonymous declaration others false named rest s n h k = let found = k h in (suc found.0, found.1, found.2, found.3, found.4)

pub simple_at : (anonymous : ℕ) (declarations : List TypeDeclaration) → list_any (is_anonymous is_simple_definition anonymous) declarations ≡ true → IsSimpleAt declarations anonymous
simple_at anonymous [] h = absurd (cc)
simple_at anonymous (declaration ∷ others) h =
    simple_at_by anonymous declaration others (is_simple_definition declaration.definition) (same_type_name declaration.name (names.Anonymous anonymous)) (list_any (is_anonymous is_simple_definition anonymous) others) refl refl h
    (simple_at anonymous others)

-- what is not complex is simple
simple_by : (definition : TypeDefinition) → is_complex_definition definition ≡ false → is_simple_definition definition ≡ true
simple_by (definitions.Simple definition) e = refl
simple_by (definitions.Complex definition) e = absurd (true≢false e)

-- a number of a type that is not complex is one of a simple type
pub simple_of_number : (declarations : List TypeDeclaration) (number : ℕ) (declaration : TypeDeclaration) → slice_get declarations number ≡ Some declaration → is_complex_number declarations number ≡ false → is_simple_definition declaration.definition ≡ true
simple_of_number declarations number declaration here e = simple_by declaration.definition (sym (ap (λ (found : Option TypeDeclaration). option_map_or is_complex_declaration found false) here) ∙ e)

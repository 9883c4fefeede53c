-- The types of documents in which everything is read and refers to something name types that are there.
use Rattle.std.proofs.Common.{◌≡◌, ◌∙◌, ℕ, zero, suc, ◌+◌, ◌<◌, Bool, true, false, not, ◌&&◌, List, [], ◌∷◌, ◌++◌, length, map, slice_get, Option, None, Some, refl, sym, ap, subst, arith, if◌then◌else◌}
use Rattle.std.specs.Prelude.{is_some}
use Rattle.std.proofs.lemmas.List.{length-map}
use Rattle.gx_base.specs.declared.name.Name.{Name}
use Rattle.gx_base.specs.declared.type_name.TypeName.{TypeName}
use Rattle.gx_base.specs.declared.type_name.TypeName.TheVariants as names
use Rattle.gx_types.specs.SchemaInvariant.{HoldsOfEach, is_built_in}
use Rattle.gx_qnames.specs.declared.reference.Reference.{Reference}
use Rattle.gx_schema_syntax.specs.declared.written.ContentKind.{ContentKind}
use Rattle.gx_schema_syntax.specs.declared.written.ContentKind.TheVariants as contents
use Rattle.gx_schema_syntax.specs.declared.written.Derivation.{Derivation as WrittenDerivation}
use Rattle.gx_schema_syntax.specs.declared.written.DerivationMethod.{DerivationMethod}
use Rattle.gx_schema_syntax.specs.declared.written.DerivationMethod.TheVariants as methods
use Rattle.gx_schema_syntax.specs.declared.written.SimpleTypeDefinition.{SimpleTypeDefinition}
use Rattle.gx_schema_syntax.specs.declared.written.SimpleTypeDefinition.TheVariants as simple
use Rattle.gx_schema_syntax.specs.declared.written.TypeDeclaration.{TypeDeclaration}
use Rattle.gx_schema_syntax.specs.declared.written.TypeDefinition.{TypeDefinition}
use Rattle.gx_schema_syntax.specs.declared.written.TypeDefinition.TheVariants.{Simple, Complex}
use Rattle.gx_schema_syntax.specs.declared.written.TypeReference.{TypeReference}
use Rattle.gx_schema_syntax.specs.declared.written.TypeReference.TheVariants as types
use Rattle.gx_schema_syntax.specs.declared.written.WrittenFacet.{WrittenFacet}
use Rattle.gx_schema_syntax.specs.DocumentTree.{DocumentTree}
use Rattle.gx_qnames.specs.Words.{is_schema_uri}
use Rattle.gx_schema_components.specs.declared.component.Base.{Base}
use Rattle.gx_schema_components.specs.declared.component.DerivedFrom.{DerivedFrom}
use Rattle.gx_schema_components.specs.declared.component.ModelGroup.{ModelGroup}
use Rattle.gx_schema_components.specs.declared.mention.ComponentKind.{ComponentKind}
use Rattle.gx_schema_components.specs.declared.mention.ComponentKind.TheVariants as kinds
use Rattle.gx_schema_components.specs.Components.{definitions_by, first_inner, globals_of}
use Rattle.gx_schema_components.specs.DeclaredNames.{declared_number, first_type_from, has_type_name, type_names_in, types_in}
use Rattle.gx_schema_components.specs.Mentions.{base_mentions, content_mentions, definition_mentions, members_mentions, simple_type_mentions, type_declaration_mentions, type_mentions}
use Rattle.gx_schema_components.specs.Referred.{Globals, base_of_number, base_referred}
use Rattle.gx_schema_components.specs.TypeComponents.{derivation_by, derivation_of, derived_from, form_placed, simple_type_of, types_placed}
use Rattle.gx_schema_components.specs.Unknown.{Numbering, refers}
use Rattle.gx_schema.specs.SchemaTypes.{type_forms}
use Rattle.gx_schema.specs.TypeForms.{form_of_content, form_of_derivation, form_of_simple_type, form_of_type, forms_of}
use Rattle.gx_schema.proofs.Lists.{holds_front}
use Rattle.gx_schema.proofs.NothingFound.{Refers}
use Rattle.gx_schema.proofs.ReadDeclarations.{IsReadDeclaration, IsReadDefinition, base_written, is_read_base, is_read_derivation}
use Rattle.gx_schema.proofs.SimpleTypes.{IsReadBase, IsReadForm}

-- ---- what a name of a type refers to

abbrev IsFoundName : (number : ℕ) (declared : List TypeName) (found : ℕ) → Type 0
IsFoundName number declared found =
    (behind : ℕ) × (other : Name) × (found ≡ behind + number) × (slice_get declared behind ≡ Some (names.Named other)) × (behind < length declared)

found_behind : (number : ℕ) (kind : TypeName) (others : List TypeName) (found : ℕ) → IsFoundName (suc number) others found → IsFoundName number (kind ∷ others) found
found_behind number kind others found told = (suc told.0, told.1, omega (arith, told.2), told.3, omega (arith, told.4))

found_here : (number : ℕ) (kind : TypeName) (others : List TypeName) (name : Name) (found : ℕ) → has_type_name kind name ≡ true → number ≡ found → IsFoundName number (kind ∷ others) found
found_here number (names.Builtin builtin) others name found e f = absurd (cc)
found_here number (names.Named other) others name found e f = (zero, other, omega (arith, f), refl, omega arith)
found_here number (names.Anonymous n) others name found e f = absurd (cc)

some_number : (one other : ℕ) → ◌≡◌ {A = Option ℕ} (Some one) (Some other) → one ≡ other
some_number one other e = cc

found_type_by : (number : ℕ) (kind : TypeName) (others : List TypeName) (name : Name) (found : ℕ) (t : Bool) → has_type_name kind name ≡ t →
    (if t then Some number else first_type_from (suc number) others name) ≡ Some found → (first_type_from (suc number) others name ≡ Some found → IsFoundName (suc number) others found) →
    IsFoundName number (kind ∷ others) found
found_type_by number kind others name found true f e rest = found_here number kind others name found f (some_number number found e)
found_type_by number kind others name found false f e rest = found_behind number kind others found (rest e)

pub found_type_name : (number : ℕ) (declared : List TypeName) (name : Name) (found : ℕ) → first_type_from number declared name ≡ Some found → IsFoundName number declared found
found_type_name number [] name found e = absurd (cc)
found_type_name number (kind ∷ others) name found e =
    found_type_by number kind others name found (has_type_name kind name) refl e (found_type_name (suc number) others name found)

-- a reference that refers to a type has the number of one
refers_by : (bound uri known : Bool) → (bound && (not uri && known)) ≡ true → known ≡ true
refers_by true false known e = e
refers_by true true known e = absurd (cc)
refers_by false uri known e = absurd (cc)

pub number_of_reference : (numbers : Numbering) (kind : ComponentKind) (reference : Reference) → refers numbers kind reference ≡ true → is_some (numbers kind reference.name) ≡ true
number_of_reference numbers kind reference e = refers_by reference.is_bound (is_schema_uri reference.name.uri) (is_some (numbers kind reference.name)) e

one_reference : (one other : Reference) → types.Declared one ≡ types.Declared other → one ≡ other
one_reference one other e = cc

-- the reference that a type is written with refers to a type
pub reference_refers : (numbers : Numbering) (place : ℕ) (base : TypeReference) (reference : Reference) → base ≡ types.Declared reference → HoldsOfEach (Refers numbers) (type_mentions place base) →
    refers numbers kinds.TypeDefinition reference ≡ true
reference_refers numbers place (types.Builtin builtin) reference e refer = absurd (cc)
reference_refers numbers place (types.Declared other) reference e refer =
    subst (λ (r : Reference). refers numbers kinds.TypeDefinition r ≡ true) (one_reference other reference e) refer.0
reference_refers numbers place (types.Anonymous number) reference e refer = absurd (cc)

base_in_range : (documents : List DocumentTree) (name : Name) (found : Option ℕ) → first_type_from 0 (type_names_in documents) name ≡ found → is_some found ≡ true →
    IsReadBase (length (type_names_in documents)) (base_of_number found)
base_in_range documents name None e known = absurd (cc)
base_in_range documents name (Some number) e known =
    let told = found_type_name 0 (type_names_in documents) name number e in
    grind (arith, told.2, told.4)

base_read : (documents : List DocumentTree) (base : TypeReference) → is_read_base base ≡ true →
    ((reference : Reference) → base ≡ types.Declared reference → refers (declared_number documents) kinds.TypeDefinition reference ≡ true) →
    IsReadBase (length (type_names_in documents)) (base_referred (declared_number documents) base)
base_read documents (types.Builtin builtin) e refer = e
base_read documents (types.Declared reference) e refer =
    base_in_range documents reference.name (first_type_from 0 (type_names_in documents) reference.name) refl (number_of_reference (declared_number documents) kinds.TypeDefinition reference (refer reference refl))
base_read documents (types.Anonymous number) e refer = absurd (cc)

-- ---- the form of a type

simple_form : (documents : List DocumentTree) (definition : SimpleTypeDefinition) → is_read_base (base_written definition) ≡ true →
    HoldsOfEach (Refers (declared_number documents)) (simple_type_mentions definition) →
    IsReadForm (length (type_names_in documents)) (form_of_simple_type (simple_type_of (globals_of documents) definition))
simple_form documents (simple.Restriction at base facets) e refer =
    base_read documents base e (λ reference f. reference_refers (declared_number documents) at base reference f refer)
simple_form documents (simple.List at item) e refer =
    base_read documents item e (λ reference f. reference_refers (declared_number documents) at item reference f refer)

content_form : (count : ℕ) (content : ContentKind) (base : Base) (facets : List WrittenFacet) → IsReadBase count base → IsReadForm count (form_of_content content base facets)
content_form count contents.Simple base facets read = read
content_form count contents.Complex base facets read = read

method_form : (count : ℕ) (method : DerivationMethod) (from : DerivedFrom) (facets : List WrittenFacet) → IsReadBase count from.base → IsReadForm count (form_of_derivation (derivation_by method from) facets)
method_form count methods.Extension from facets read = content_form count from.content from.base facets read
method_form count methods.Restriction from facets read = content_form count from.content from.base facets read

derivation_form : (documents : List DocumentTree) (derivation : Option WrittenDerivation) (facets : List WrittenFacet) → is_read_derivation derivation ≡ true →
    HoldsOfEach (Refers (declared_number documents)) (base_mentions derivation) →
    IsReadForm (length (type_names_in documents)) (form_of_derivation (derivation_of (globals_of documents) derivation) facets)
derivation_form documents None facets e refer = tt
derivation_form documents (Some derivation) facets e refer =
    method_form (length (type_names_in documents)) derivation.method (derived_from (globals_of documents) derivation) facets
    (base_read documents derivation.base e (λ reference f. reference_refers (declared_number documents) derivation.place derivation.base reference f refer))

-- what is read and refers has a form that is read
definition_form : (documents : List DocumentTree) (groups : List ModelGroup) (definition : TypeDefinition) → IsReadDefinition definition →
    HoldsOfEach (Refers (declared_number documents)) (definition_mentions definition) →
    IsReadForm (length (type_names_in documents)) (form_of_type (form_placed (globals_of documents) (first_inner documents) groups definition).placed)
definition_form documents groups (Simple definition) e refer = simple_form documents definition e refer
definition_form documents groups (Complex definition) e refer =
    derivation_form documents definition.derivation definition.facets e
    (holds_front (Refers (declared_number documents)) (base_mentions definition.derivation) (content_mentions definition.particle ++ members_mentions definition.attributes) refer)

abbrev pub IsReadType : List DocumentTree → TypeDeclaration → Type 0
IsReadType documents t = IsReadDeclaration t × HoldsOfEach (Refers (declared_number documents)) (type_declaration_mentions t)

forms_placed : (documents : List DocumentTree) (groups : List ModelGroup) (declarations : List TypeDeclaration) → HoldsOfEach (IsReadType documents) declarations →
    HoldsOfEach (IsReadForm (length (type_names_in documents))) (forms_of (types_placed (globals_of documents) (first_inner documents) groups declarations).placed)
forms_placed documents groups [] read = tt
forms_placed documents groups (t ∷ others) read = (
  definition_form documents groups t.definition (read.0.0).definition read.0.1,
  forms_placed documents (form_placed (globals_of documents) (first_inner documents) groups t.definition).groups others read.1,
)

names_placed : (x : Globals) (first : ℕ) (groups : List ModelGroup) (declarations : List TypeDeclaration) → length (forms_of (types_placed x first groups declarations).placed) ≡ length declarations
names_placed x first groups [] = refl
names_placed x first groups (t ∷ others) = ap suc (names_placed x first (form_placed x first groups t.definition).groups others)

own_names : (documents : List DocumentTree) (declarations : List TypeDeclaration) → HoldsOfEach (IsReadType documents) declarations →
    HoldsOfEach (λ (name : TypeName). is_built_in name ≡ false) (map (λ (declaration : TypeDeclaration). declaration.name) declarations)
own_names documents [] read = tt
own_names documents (t ∷ others) read = ((read.0.0).own, own_names documents others read.1)

-- ---- all types of documents

pub forms_of_documents : (documents : List DocumentTree) → HoldsOfEach (IsReadType documents) (types_in documents) →
    HoldsOfEach (IsReadForm (length (type_names_in documents))) (type_forms documents)
forms_of_documents documents read = forms_placed documents (definitions_by (globals_of documents) (first_inner documents) documents).groups (types_in documents) read

pub as_many_forms : (documents : List DocumentTree) → length (type_names_in documents) ≡ length (type_forms documents)
as_many_forms documents =
    length-map (types_in documents) (λ (declaration : TypeDeclaration). declaration.name)
    ∙ sym (names_placed (globals_of documents) (first_inner documents) (definitions_by (globals_of documents) (first_inner documents) documents).groups (types_in documents))

pub names_of_documents : (documents : List DocumentTree) → HoldsOfEach (IsReadType documents) (types_in documents) →
    HoldsOfEach (λ (name : TypeName). is_built_in name ≡ false) (type_names_in documents)
names_of_documents documents read = own_names documents (types_in documents) read

-- Attribute declarations whose type is a complex type (XML Schema 1.0 part 1, section 3.2.6).
use Rattle.std.specs.Prelude.{ℕ, suc, Bool, true, false, List, [], ◌∷◌, slice_get, Option, None}
use Rattle.std.specs.Option.{option_map, option_map_or, option_or}
use Rattle.gx_schema_syntax.specs.declared.written.AttributeMember.{AttributeMember}
use Rattle.gx_schema_syntax.specs.declared.written.AttributeMember.TheVariants as members
use Rattle.gx_schema_syntax.specs.declared.written.GlobalDeclaration.{GlobalDeclaration}
use Rattle.gx_schema_syntax.specs.declared.written.GlobalDeclaration.TheVariants as globals
use Rattle.gx_schema_syntax.specs.declared.written.LocalDeclaration.{LocalDeclaration}
use Rattle.gx_schema_syntax.specs.declared.written.LocalDeclaration.TheVariants.{Declared, Referred}
use Rattle.gx_schema_syntax.specs.declared.written.TypeDeclaration.{TypeDeclaration}
use Rattle.gx_schema_syntax.specs.declared.written.TypeDefinition.{TypeDefinition}
use Rattle.gx_schema_syntax.specs.declared.written.TypeDefinition.TheVariants.{Simple, Complex}
use Rattle.gx_schema_syntax.specs.declared.written.TypeReference.{TypeReference}
use Rattle.gx_schema_syntax.specs.declared.written.TypeReference.TheVariants as types
use Rattle.gx_schema_syntax.specs.DocumentTree.{DocumentTree}
use Rattle.gx_schema_components.specs.declared.mention.ComponentKind.TheVariants as kinds
use Rattle.gx_schema_components.specs.DeclaredNames.{declared_number, types_in}
use Rattle.gx_schema.specs.declared.found.Found.{Found}
use Rattle.gx_schema.specs.FirstFound.{earlier_found, first_found, found_in_definition, found_in_type, place_where}

-- ---- complex types

abbrev pub is_complex_definition : TypeDefinition → Bool
is_complex_definition (Simple definition) = false
is_complex_definition (Complex definition) = true

abbrev pub is_complex_declaration : TypeDeclaration → Bool
is_complex_declaration declaration = is_complex_definition declaration.definition

abbrev pub is_complex_number : List TypeDeclaration → (number : ℕ) → Bool
is_complex_number declarations number = option_map_or is_complex_declaration (slice_get declarations number) false

-- whether what a declaration gives as its type is a complex type of documents; no built-in type and no anonymous type of an attribute is one
abbrev pub is_complex_type : List DocumentTree → TypeReference → Bool
is_complex_type documents (types.Builtin builtin) = false
is_complex_type documents (types.Declared reference) = option_map_or (is_complex_number (types_in documents)) (declared_number documents kinds.TypeDefinition reference.name) false
is_complex_type documents (types.Anonymous number) = false

-- ---- the first attribute of a list whose type is complex; the type beside a reference is not that of a declaration

abbrev pub complex_local : (TypeReference → Bool) → (place : ℕ) → LocalDeclaration → Option ℕ
complex_local complex place (Declared name kind) = place_where (complex kind) place
complex_local complex place (Referred reference kind) = None

-- prohibited attributes too
abbrev pub complex_member : (TypeReference → Bool) → AttributeMember → Option ℕ
complex_member complex (members.Attribute place usage attribute) = complex_local complex place attribute
complex_member complex (members.Group place reference) = None

abbrev pub first_complex_member : (TypeReference → Bool) → List AttributeMember → Option ℕ
first_complex_member complex [] = None
first_complex_member complex (member ∷ others) = option_or (complex_member complex member) (first_complex_member complex others)

abbrev pub first_complex_of : (TypeReference → Bool) → TypeDefinition → Option ℕ
first_complex_of complex (Simple definition) = None
first_complex_of complex (Complex definition) = first_complex_member complex definition.attributes

-- ---- shown with the type or the attribute group definition that holds it most closely; a global one with its own name

abbrev pub complex_in_type : (TypeReference → Bool) → (file : ℕ) → TypeDeclaration → Option Found
complex_in_type complex file declaration = option_map (found_in_type file declaration.name) (first_complex_of complex declaration.definition)

abbrev pub complex_in_global : (TypeReference → Bool) → (file : ℕ) → GlobalDeclaration → Option Found
complex_in_global complex file (globals.Element place name kind) = None
complex_in_global complex file (globals.Attribute place name kind) = option_map (found_in_definition file name) (place_where (complex kind) place)
complex_in_global complex file (globals.Group place name particle) = None
complex_in_global complex file (globals.AttributeGroup place name attributes) = option_map (found_in_definition file name) (first_complex_member complex attributes)

abbrev pub complex_in_document : (TypeReference → Bool) → (file : ℕ) → DocumentTree → Option Found
complex_in_document complex file document = earlier_found (first_found (complex_in_type complex file) document.types) (first_found (complex_in_global complex file) document.declarations)

abbrev pub complex_from : (TypeReference → Bool) → (file : ℕ) → List DocumentTree → Option Found
complex_from complex file [] = None
complex_from complex file (document ∷ documents) = earlier_found (complex_in_document complex file document) (complex_from complex (suc file) documents)

-- the first attribute by place whose type is a complex type
abbrev pub complex_attribute_type : List DocumentTree → Option Found
complex_attribute_type documents = complex_from (is_complex_type documents) 0 documents

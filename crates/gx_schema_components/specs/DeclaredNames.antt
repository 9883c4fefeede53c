-- The names of the global declarations of schema documents, by kind, and their numbers (XML Schema 1.0 part 1, section 2.5).
use Rattle.std.specs.Prelude.{ℕ, suc, Bool, false, List, [], ◌∷◌, map, Option, None, Some, if◌then◌else◌}
use Rattle.std.specs.List.{flat_map}
use Rattle.gx_base.specs.Name.{same_name}
use Rattle.gx_base.specs.declared.name.Name.{Name}
use Rattle.gx_base.specs.declared.type_name.TypeName.{TypeName}
use Rattle.gx_base.specs.declared.type_name.TypeName.TheVariants as names
use Rattle.gx_schema_syntax.specs.declared.written.GlobalDeclaration.{GlobalDeclaration}
use Rattle.gx_schema_syntax.specs.declared.written.GlobalDeclaration.TheVariants as globals
use Rattle.gx_schema_syntax.specs.declared.written.TypeDeclaration.{TypeDeclaration}
use Rattle.gx_schema_syntax.specs.DocumentTree.{DocumentTree}
use Rattle.gx_references.specs.Numbers.{first_from}
use Rattle.gx_schema_components.specs.declared.mention.ComponentKind.{ComponentKind}
use Rattle.gx_schema_components.specs.declared.mention.ComponentKind.TheVariants as kinds

-- ---- types: those without a name are numbered with the others

abbrev pub types_in : List DocumentTree → List TypeDeclaration
types_in documents = flat_map (λ (document : DocumentTree). document.types) documents

abbrev pub type_names_in : List DocumentTree → List TypeName
type_names_in documents = map (λ (declaration : TypeDeclaration). declaration.name) (types_in documents)

abbrev pub has_type_name : TypeName → Name → Bool
has_type_name (names.Builtin builtin) name = false
has_type_name (names.Named other) name = same_name other name
has_type_name (names.Anonymous number) name = false

-- the number of the first type of a name, counted from a number on
abbrev pub first_type_from : ℕ → List TypeName → Name → Option ℕ
first_type_from number [] name = None
first_type_from number (kind ∷ others) name = if has_type_name kind name then Some number else first_type_from (suc number) others name

-- ---- other declarations

abbrev pub declarations_in : List DocumentTree → List GlobalDeclaration
declarations_in documents = flat_map (λ (document : DocumentTree). document.declarations) documents

-- the name of a declaration, if it is of this kind
abbrev pub name_of_kind : ComponentKind → GlobalDeclaration → List Name
name_of_kind kinds.ElementDeclaration (globals.Element place name kind) = name ∷ []
name_of_kind kinds.AttributeDeclaration (globals.Attribute place name kind) = name ∷ []
name_of_kind kinds.GroupDefinition (globals.Group place name particle) = name ∷ []
name_of_kind kinds.AttributeGroupDefinition (globals.AttributeGroup place name attributes) = name ∷ []
name_of_kind _ _ = []

abbrev pub names_of_kind : ComponentKind → List GlobalDeclaration → List Name
names_of_kind kind declarations = flat_map (name_of_kind kind) declarations

-- ---- numbers

-- the number of a global declaration of a kind among all of its kind, counted from 0; of equal names that of the first
abbrev pub declared_number : List DocumentTree → ComponentKind → Name → Option ℕ
declared_number documents kinds.TypeDefinition name = first_type_from 0 (type_names_in documents) name
declared_number documents kind name = first_from 0 (names_of_kind kind (declarations_in documents)) name

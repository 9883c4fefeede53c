-- Declarations as refusals show them, in the order of the documents.
use Rattle.std.specs.Prelude.{ℕ, suc, nat_le, Bool, ◌||◌, List, [], ◌∷◌, ◌++◌, map, slice_index_or, if◌then◌else◌}
use Rattle.std.specs.List.{flat_map, list_any}
use Rattle.gx_base.specs.declared.name.Name.{Name}
use Rattle.gx_schema_syntax.specs.declared.written.GlobalDeclaration.{GlobalDeclaration}
use Rattle.gx_schema_syntax.specs.declared.written.GlobalDeclaration.TheVariants.{Element, Attribute, Group, AttributeGroup}
use Rattle.gx_schema_syntax.specs.declared.written.TypeDeclaration.{TypeDeclaration}
use Rattle.gx_schema_syntax.specs.DocumentTree.{DocumentTree}
use Rattle.gx_schema_components.specs.declared.mention.ComponentKind.{ComponentKind}
use Rattle.gx_schema_components.specs.DeclaredNames.{name_of_kind}
use Rattle.gx_typetext.specs.NameText.{name_text, type_name_text}
use Rattle.gx_schema.specs.declared.found.Found.{Found}

-- a number of nothing
abbrev pub nothing_found : Found
nothing_found = record { file = 0; place = 0; name = [] }

abbrev pub found_by_number : List Found → (number : ℕ) → Found
found_by_number found number = slice_index_or found number nothing_found

-- what stands in a declaration is shown with the name of that
abbrev pub found_in_place : (place : ℕ) → Found → Found
found_in_place place found = record { file = found.file; place = place; name = found.name }

-- ---- types

abbrev pub found_type : (file : ℕ) → TypeDeclaration → Found
found_type file declaration = record { file = file; place = declaration.place; name = type_name_text declaration.name }

abbrev pub types_found : (file : ℕ) → List DocumentTree → List Found
types_found file [] = []
types_found file (document ∷ documents) = map (found_type file) document.types ++ types_found (suc file) documents

-- ---- other declarations of a kind

abbrev pub place_of_global : GlobalDeclaration → ℕ
place_of_global (Element place name kind) = place
place_of_global (Attribute place name kind) = place
place_of_global (Group place name particle) = place
place_of_global (AttributeGroup place name attributes) = place

abbrev pub found_named : (file place : ℕ) → Name → Found
found_named file place name = record { file = file; place = place; name = name_text name }

abbrev pub found_global : ComponentKind → (file : ℕ) → GlobalDeclaration → List Found
found_global kind file declaration = map (found_named file (place_of_global declaration)) (name_of_kind kind declaration)

abbrev pub globals_found : ComponentKind → (file : ℕ) → List DocumentTree → List Found
globals_found kind file [] = []
globals_found kind file (document ∷ documents) = flat_map (found_global kind file) document.declarations ++ globals_found kind (suc file) documents

-- ---- the file of a place

abbrev pub some_type_begins : (place : ℕ) → List TypeDeclaration → Bool
some_type_begins place types = list_any (λ (declaration : TypeDeclaration). nat_le declaration.place place) types

abbrev pub some_global_begins : (place : ℕ) → List GlobalDeclaration → Bool
some_global_begins place declarations = list_any (λ (declaration : GlobalDeclaration). nat_le (place_of_global declaration) place) declarations

abbrev pub begins_by : (place : ℕ) → DocumentTree → Bool
begins_by place document = some_type_begins place document.types || some_global_begins place document.declarations

-- the last file of which some declaration begins at a place or in front of it; the file so far where there is none
abbrev pub file_behind : (so_far file place : ℕ) → List DocumentTree → ℕ
file_behind so_far file place [] = so_far
file_behind so_far file place (document ∷ documents) = file_behind (if begins_by place document then file else so_far) (suc file) place documents

abbrev pub file_of_place : (place : ℕ) → List DocumentTree → ℕ
file_of_place place documents = file_behind 0 0 place documents

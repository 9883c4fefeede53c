-- What the tables of global declarations say is what the documents say.
use Rattle.std.proofs.Common.{◌≡◌, ◌∙◌, List, ap}
use Rattle.std.specs.List.{flat_map}
use Rattle.gx_base.specs.declared.type_name.TypeName.{TypeName}
use Rattle.gx_schema_syntax.specs.DocumentTree.{DocumentTree}
use Rattle.gx_schema_components.specs.declared.component.Declaration.{Declaration}
use Rattle.gx_schema_components.specs.declared.names.DeclaredNumbers.{DeclaredNumbers}
use Rattle.gx_schema_components.specs.Components.{declared_attribute, declared_element, globals_of}
use Rattle.gx_schema_components.specs.DeclaredNames.{declarations_in, declared_number, type_names_in}
use Rattle.gx_schema_components.specs.NamesView.{IsNumbering, number_in_tables}
use Rattle.gx_schema_components.specs.Referred.{Globals}
use Rattle.gx_schema_components.specs.Unknown.{Numbering}
use Rattle.gx_schema_components.proofs.Numberings.{same_numbering}

pub elements_by : (documents : List DocumentTree) (numbers : DeclaredNumbers) (types : List TypeName) → IsNumbering documents numbers → types ≡ type_names_in documents
    → flat_map (declared_element (number_in_tables numbers) types) (declarations_in documents) ≡ (globals_of documents).elements
elements_by documents numbers types same named =
    ap (λ (all : Numbering). flat_map (declared_element all types) (declarations_in documents)) (same_numbering documents numbers same)
    ∙ ap (λ (all : List TypeName). flat_map (declared_element (declared_number documents) all) (declarations_in documents)) named

pub attributes_by : (documents : List DocumentTree) (numbers : DeclaredNumbers) (types : List TypeName) → IsNumbering documents numbers → types ≡ type_names_in documents
    → flat_map (declared_attribute (number_in_tables numbers) types) (declarations_in documents) ≡ (globals_of documents).attributes
attributes_by documents numbers types same named =
    ap (λ (all : Numbering). flat_map (declared_attribute all types) (declarations_in documents)) (same_numbering documents numbers same)
    ∙ ap (λ (all : List TypeName). flat_map (declared_attribute (declared_number documents) all) (declarations_in documents)) named

pub globals_by_parts : (documents : List DocumentTree) (numbers : Numbering) (types : List TypeName) (elements attributes : List Declaration)
    → numbers ≡ declared_number documents → types ≡ type_names_in documents → elements ≡ (globals_of documents).elements → attributes ≡ (globals_of documents).attributes
    → (let all : Globals = record { numbers = numbers; types = types; elements = elements; attributes = attributes } in all ≡ globals_of documents)
globals_by_parts documents numbers types elements attributes n t e a = λ i. record { numbers = n i; types = t i; elements = e i; attributes = a i }

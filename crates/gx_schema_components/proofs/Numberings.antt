-- Tables that say what the documents say give the same answers.
use Rattle.std.proofs.Common.{◌≡◌, ◌∙◌, List, ap}
use Rattle.indexmap.specs.IndexMap.{get}
use Rattle.gx_base.specs.Name.{same_name}
use Rattle.gx_base.specs.declared.name.Name.{Name}
use Rattle.gx_base.specs.declared.type_name.TypeName.{TypeName}
use Rattle.gx_schema_syntax.specs.DocumentTree.{DocumentTree}
use Rattle.gx_references.specs.Numbers.{first_from}
use Rattle.gx_schema_components.specs.declared.mention.ComponentKind.{ComponentKind}
use Rattle.gx_schema_components.specs.declared.mention.ComponentKind.TheVariants as kinds
use Rattle.gx_schema_components.specs.declared.names.DeclaredNumbers.{DeclaredNumbers}
use Rattle.gx_schema_components.specs.DeclaredNames.{declarations_in, declared_number, first_type_from, names_of_kind, type_names_in}
use Rattle.gx_schema_components.specs.NamesView.{IsNumbering, number_in_tables}
use Rattle.gx_schema_components.specs.Unknown.{Numbering, unknown_from}

pub same_numbering : (documents : List DocumentTree) (numbers : DeclaredNumbers) → IsNumbering documents numbers → number_in_tables numbers ≡ declared_number documents
same_numbering documents numbers same = λ i kind name. same.same kind name i

pub unknown_by_numbers : (documents : List DocumentTree) (numbers : DeclaredNumbers) → IsNumbering documents numbers
    → unknown_from (number_in_tables numbers) 0 documents ≡ unknown_from (declared_number documents) 0 documents
unknown_by_numbers documents numbers same = ap (λ (all : Numbering). unknown_from all 0 documents) (same_numbering documents numbers same)

pub numbering_by_tables : (documents : List DocumentTree) (names : List TypeName) (numbers : DeclaredNumbers) → names ≡ type_names_in documents
    → ((name : Name) → get same_name numbers.types name ≡ first_type_from 0 names name)
    → ((name : Name) → get same_name numbers.elements name ≡ first_from 0 (names_of_kind kinds.ElementDeclaration (declarations_in documents)) name)
    → ((name : Name) → get same_name numbers.attributes name ≡ first_from 0 (names_of_kind kinds.AttributeDeclaration (declarations_in documents)) name)
    → ((name : Name) → get same_name numbers.groups name ≡ first_from 0 (names_of_kind kinds.GroupDefinition (declarations_in documents)) name)
    → ((name : Name) → get same_name numbers.attribute_groups name ≡ first_from 0 (names_of_kind kinds.AttributeGroupDefinition (declarations_in documents)) name)
    → (kind : ComponentKind) (name : Name) → number_in_tables numbers kind name ≡ declared_number documents kind name
numbering_by_tables documents names numbers same types elements attributes groups attribute_groups kinds.TypeDefinition name = types name ∙ ap (λ (all : List TypeName). first_type_from 0 all name) same
numbering_by_tables documents names numbers same types elements attributes groups attribute_groups kinds.ElementDeclaration name = elements name
numbering_by_tables documents names numbers same types elements attributes groups attribute_groups kinds.AttributeDeclaration name = attributes name
numbering_by_tables documents names numbers same types elements attributes groups attribute_groups kinds.GroupDefinition name = groups name
numbering_by_tables documents names numbers same types elements attributes groups attribute_groups kinds.AttributeGroupDefinition name = attribute_groups name

-- What the code's tables of names say.
use Rattle.std.specs.Prelude.{◌≡◌, ℕ, List, Option}
use Rattle.indexmap.specs.IndexMap.{get}
use Rattle.gx_base.specs.Name.{same_name}
use Rattle.gx_base.specs.declared.name.Name.{Name}
use Rattle.gx_schema_syntax.specs.DocumentTree.{DocumentTree}
use Rattle.gx_schema_components.specs.declared.mention.ComponentKind.{ComponentKind}
use Rattle.gx_schema_components.specs.declared.mention.ComponentKind.TheVariants as kinds
use Rattle.gx_schema_components.specs.declared.names.DeclaredNumbers.{DeclaredNumbers}
use Rattle.gx_schema_components.specs.DeclaredNames.{declared_number}

abbrev pub number_in_tables : DeclaredNumbers → ComponentKind → Name → Option ℕ
number_in_tables numbers kinds.TypeDefinition name = get same_name numbers.types name
number_in_tables numbers kinds.ElementDeclaration name = get same_name numbers.elements name
number_in_tables numbers kinds.AttributeDeclaration name = get same_name numbers.attributes name
number_in_tables numbers kinds.GroupDefinition name = get same_name numbers.groups name
number_in_tables numbers kinds.AttributeGroupDefinition name = get same_name numbers.attribute_groups name

-- each name has the number that it has in the documents
pub record IsNumbering (documents : List DocumentTree) (numbers : DeclaredNumbers) : Type 0 where
  pub same : (kind : ComponentKind) (name : Name) → number_in_tables numbers kind name ≡ declared_number documents kind name

-- The components of schema documents (XML Schema 1.0 part 1, section 2.2).
use Rattle.std.specs.Prelude.{◌≡◌, ℕ, List, [], ◌∷◌, ◌++◌, length}
use Rattle.std.specs.List.{flat_map}
use Rattle.gx_base.specs.declared.type_name.TypeName.{TypeName}
use Rattle.gx_schema_syntax.specs.declared.written.GlobalDeclaration.{GlobalDeclaration}
use Rattle.gx_schema_syntax.specs.declared.written.GlobalDeclaration.TheVariants as globals
use Rattle.gx_schema_syntax.specs.DocumentTree.{DocumentTree}
use Rattle.gx_schema_components.specs.declared.component.Components.{Components}
use Rattle.gx_schema_components.specs.declared.component.Declaration.{Declaration}
use Rattle.gx_schema_components.specs.declared.component.GroupDefinition.{GroupDefinition}
use Rattle.gx_schema_components.specs.declared.component.ModelGroup.{ModelGroup}
use Rattle.gx_schema_components.specs.declared.component.TypeComponent.{TypeComponent}
use Rattle.gx_schema_components.specs.AttributeLists.{attribute_groups_of}
use Rattle.gx_schema_components.specs.DeclaredNames.{declarations_in, declared_number, type_names_in, types_in}
use Rattle.gx_schema_components.specs.GroupNumbers.{Placed, definitions_placed}
use Rattle.gx_schema_components.specs.Referred.{Globals, type_referred}
use Rattle.gx_schema_components.specs.TypeComponents.{types_placed}
use Rattle.gx_schema_components.specs.Unknown.{Numbering}

abbrev pub declared_element : Numbering → List TypeName → GlobalDeclaration → List Declaration
declared_element numbers types (globals.Element place name kind) = record { place = place; name = name; kind = type_referred numbers types kind } ∷ []
declared_element numbers types (globals.Attribute place name kind) = []
declared_element numbers types (globals.Group place name particle) = []
declared_element numbers types (globals.AttributeGroup place name attributes) = []

abbrev pub declared_attribute : Numbering → List TypeName → GlobalDeclaration → List Declaration
declared_attribute numbers types (globals.Attribute place name kind) = record { place = place; name = name; kind = type_referred numbers types kind } ∷ []
declared_attribute numbers types (globals.Element place name kind) = []
declared_attribute numbers types (globals.Group place name particle) = []
declared_attribute numbers types (globals.AttributeGroup place name attributes) = []

abbrev pub group_definition_of : GlobalDeclaration → List GroupDefinition
group_definition_of (globals.Group place name particle) = record { place = place; name = name } ∷ []
group_definition_of (globals.Element place name kind) = []
group_definition_of (globals.Attribute place name kind) = []
group_definition_of (globals.AttributeGroup place name attributes) = []

abbrev pub group_definitions_in : List GlobalDeclaration → List GroupDefinition
group_definitions_in declarations = flat_map group_definition_of declarations

-- what names refer to
abbrev pub globals_by : Numbering → List TypeName → List GlobalDeclaration → Globals
globals_by numbers types declarations = record {
  numbers = numbers;
  types = types;
  elements = flat_map (declared_element numbers types) declarations;
  attributes = flat_map (declared_attribute numbers types) declarations;
}

abbrev pub globals_of : List DocumentTree → Globals
globals_of documents = globals_by (declared_number documents) (type_names_in documents) (declarations_in documents)

-- the groups of definitions have the first numbers; those that stand in them or in types are numbered behind them
abbrev pub first_inner : List DocumentTree → ℕ
first_inner documents = length (group_definitions_in (declarations_in documents))

abbrev pub definitions_by : Globals → (first : ℕ) → List DocumentTree → Placed (List ModelGroup)
definitions_by x first documents = definitions_placed x first [] (declarations_in documents)

abbrev pub types_by : Globals → (first : ℕ) → List DocumentTree → Placed (List TypeComponent)
types_by x first documents = types_placed x first (definitions_by x first documents).groups (types_in documents)

pub record AreTypesAndGroups (x : Globals) (first : ℕ) (documents : List DocumentTree) (types : List TypeComponent) (groups : List ModelGroup) : Type 0 where
  pub types_placed : types ≡ (types_by x first documents).placed
  pub groups_placed : groups ≡ (definitions_by x first documents).placed ++ (types_by x first documents).groups

-- the components of documents
pub record AreComponents (documents : List DocumentTree) (components : Components) : Type 0 where
  pub types_and_groups : AreTypesAndGroups (globals_of documents) (first_inner documents) documents components.types.items components.model_groups.items
  pub elements : components.elements.items ≡ (globals_of documents).elements
  pub attributes : components.attributes.items ≡ (globals_of documents).attributes
  pub groups : components.groups.items ≡ group_definitions_in (declarations_in documents)
  pub attribute_groups : components.attribute_groups.items ≡ attribute_groups_of (globals_of documents) (declarations_in documents)

-- What schema files declare.
use Rattle.std.specs.Prelude.{ℕ, List, [], ◌∷◌, map, Option, None, Some, if◌then◌else◌}
use Rattle.gx_base.specs.Name.{same_name}
use Rattle.gx_base.specs.declared.name.Name.{Name}
use Rattle.gx_base.specs.declared.type_name.TypeName.{TypeName}
use Rattle.gx_types.specs.SameItemType.{same_type_name}
use Rattle.gx_types.specs.declared.declaration.Declared.{Declared}
use Rattle.gx_types.specs.declared.declaration.GlobalElement.{GlobalElement}

pub record SchemaSet : Type 0 where
  -- the declared types, in document order
  pub types : List Declared
  pub elements : List GlobalElement
  -- the target namespace of each file, empty where it has none
  pub targets : List (List ℕ)

-- no file declares anything
abbrev pub no_declarations : SchemaSet
no_declarations = record { types = []; elements = []; targets = [] }

abbrev pub names_declared : List Declared → List TypeName
names_declared types = map (λ (declared : Declared). declared.name) types

-- the names of the declared types, in document order
abbrev pub declared_types : SchemaSet → List TypeName
declared_types schemas = names_declared schemas.types

-- the declaration of a type
abbrev pub declaration_among : List Declared → TypeName → Option Declared
declaration_among [] t = None
declaration_among (declared ∷ others) t = if same_type_name declared.name t then Some declared else declaration_among others t

abbrev pub declaration_of : SchemaSet → TypeName → Option Declared
declaration_of schemas t = declaration_among schemas.types t

-- the type of the element of a name, among global elements
abbrev pub type_of_element : List GlobalElement → Name → Option TypeName
type_of_element [] name = None
type_of_element (element ∷ others) name = if same_name element.name name then Some element.kind else type_of_element others name

-- the type of the global element of a name
abbrev pub global_type : SchemaSet → Name → Option TypeName
global_type schemas name = type_of_element schemas.elements name

-- The attributes of types and of attribute groups (XML Schema 1.0 part 1, sections 3.2.2 and 3.6.2).
use Rattle.std.specs.Prelude.{ℕ, Bool, true, false, List, [], ◌∷◌, map}
use Rattle.std.specs.List.{flat_map}
use Rattle.gx_schema_syntax.specs.declared.written.AttributeMember.{AttributeMember}
use Rattle.gx_schema_syntax.specs.declared.written.AttributeMember.TheVariants as members
use Rattle.gx_schema_syntax.specs.declared.written.GlobalDeclaration.{GlobalDeclaration}
use Rattle.gx_schema_syntax.specs.declared.written.GlobalDeclaration.TheVariants as globals
use Rattle.gx_schema_syntax.specs.declared.written.Usage.{Usage}
use Rattle.gx_schema_syntax.specs.declared.written.Usage.TheVariants as usages
use Rattle.gx_schema_components.specs.declared.component.AttributeGroup.{AttributeGroup}
use Rattle.gx_schema_components.specs.declared.component.AttributePart.{AttributePart}
use Rattle.gx_schema_components.specs.declared.component.AttributePart.TheVariants as parts
use Rattle.gx_schema_components.specs.declared.mention.ComponentKind.TheVariants as kinds
use Rattle.gx_schema_components.specs.declared.referred.TypedName.{TypedName}
use Rattle.gx_schema_components.specs.Referred.{Globals, local_component, group_referred}

abbrev pub use_part : (place : ℕ) → (required : Bool) → TypedName → AttributePart
use_part place required attribute = parts.Use place (record { name = attribute.name; kind = attribute.kind; required = required })

abbrev pub part_by_usage : (place : ℕ) → Usage → TypedName → AttributePart
part_by_usage place usages.Optional attribute = use_part place false attribute
part_by_usage place usages.Required attribute = use_part place true attribute
part_by_usage place usages.Prohibited attribute = parts.Prohibited place attribute.name

abbrev pub part_of_member : Globals → AttributeMember → AttributePart
part_of_member x (members.Attribute place usage attribute) = part_by_usage place usage (local_component x kinds.AttributeDeclaration x.attributes attribute)
part_of_member x (members.Group place reference) = parts.Group place (group_referred x kinds.AttributeGroupDefinition reference)

abbrev pub parts_of_members : Globals → List AttributeMember → List AttributePart
parts_of_members x list = map (part_of_member x) list

abbrev pub attribute_group_of : Globals → GlobalDeclaration → List AttributeGroup
attribute_group_of x (globals.AttributeGroup place name attributes) = record { place = place; name = name; parts = parts_of_members x attributes } ∷ []
attribute_group_of x (globals.Element place name kind) = []
attribute_group_of x (globals.Attribute place name kind) = []
attribute_group_of x (globals.Group place name particle) = []

abbrev pub attribute_groups_of : Globals → List GlobalDeclaration → List AttributeGroup
attribute_groups_of x declarations = flat_map (attribute_group_of x) declarations

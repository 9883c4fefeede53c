-- The types of the attributes that types and attribute groups are written with.
use Rattle.std.specs.Prelude.{List, [], ◌∷◌, ◌++◌}
use Rattle.std.specs.List.{flat_map}
use Rattle.gx_base.specs.declared.type_name.TypeName.{TypeName}
use Rattle.gx_schema_components.specs.declared.component.AttributeGroup.{AttributeGroup}
use Rattle.gx_schema_components.specs.declared.component.AttributePart.{AttributePart}
use Rattle.gx_schema_components.specs.declared.component.AttributePart.TheVariants.{Use, Prohibited, Group}
use Rattle.gx_schema_components.specs.declared.component.TypeComponent.{TypeComponent}
use Rattle.gx_schema_components.specs.declared.component.TypeForm.{TypeForm}
use Rattle.gx_schema_components.specs.declared.component.TypeForm.TheVariants.{Simple, Complex}

abbrev pub kind_in_part : AttributePart → List TypeName
kind_in_part (Use place attribute) = attribute.kind ∷ []
kind_in_part (Prohibited place name) = []
kind_in_part (Group place number) = []

abbrev pub kinds_in_parts : List AttributePart → List TypeName
kinds_in_parts parts = flat_map kind_in_part parts

abbrev pub kinds_in_form : TypeForm → List TypeName
kinds_in_form (Simple simple) = []
kinds_in_form (Complex complex) = kinds_in_parts complex.attributes

abbrev pub kinds_in_type : TypeComponent → List TypeName
kinds_in_type component = kinds_in_form component.form

abbrev pub kinds_in_group : AttributeGroup → List TypeName
kinds_in_group group = kinds_in_parts group.parts

-- those of types, and then those of groups, in their order
abbrev pub attribute_kinds : List TypeComponent → List AttributeGroup → List TypeName
attribute_kinds types groups = flat_map kinds_in_type types ++ flat_map kinds_in_group groups

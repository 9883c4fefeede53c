-- The types of elements in groups and at types.
use Rattle.std.specs.Prelude.{Bool, List, [], ◌∷◌, ◌++◌, Option, None, Some}
use Rattle.std.specs.List.{flat_map, list_all}
use Rattle.gx_base.specs.declared.type_name.TypeName.{TypeName}
use Rattle.gx_schema_components.specs.declared.component.ModelGroup.{ModelGroup}
use Rattle.gx_schema_components.specs.declared.component.Particle.{Particle}
use Rattle.gx_schema_components.specs.declared.component.Term.{Term}
use Rattle.gx_schema_components.specs.declared.component.Term.TheVariants.{Element, Group}
use Rattle.gx_schema_components.specs.declared.component.TypeComponent.{TypeComponent}
use Rattle.gx_schema_components.specs.declared.component.TypeForm.{TypeForm}
use Rattle.gx_schema_components.specs.declared.component.TypeForm.TheVariants as forms

abbrev pub kinds_of_term : Term → List TypeName
kinds_of_term (Element name kind) = kind ∷ []
kinds_of_term (Group number) = []

abbrev pub kinds_of_particle : Particle → List TypeName
kinds_of_particle particle = kinds_of_term particle.term

abbrev pub kinds_of_group : ModelGroup → List TypeName
kinds_of_group group = flat_map kinds_of_particle group.particles

abbrev pub kinds_of_content : Option Particle → List TypeName
kinds_of_content None = []
kinds_of_content (Some particle) = kinds_of_particle particle

abbrev pub kinds_of_form : TypeForm → List TypeName
kinds_of_form (forms.Simple definition) = []
kinds_of_form (forms.Complex definition) = kinds_of_content definition.content

abbrev pub kinds_of_type : TypeComponent → List TypeName
kinds_of_type component = kinds_of_form component.form

-- the types of the elements that are written in types and groups
abbrev pub element_kinds : List TypeComponent → List ModelGroup → List TypeName
element_kinds types groups = flat_map kinds_of_type types ++ flat_map kinds_of_group groups

-- all of them pass a test
abbrev pub element_kinds_pass : (TypeName → Bool) → List TypeComponent → List ModelGroup → Bool
element_kinds_pass passes types groups = list_all passes (element_kinds types groups)

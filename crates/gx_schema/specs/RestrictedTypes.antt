-- The types that are restrictions, of complex content or of simple content (XML Schema 1.0 part 1, section 3.4.2).
use Rattle.std.specs.Prelude.{Bool, true, false, List, map}
use Rattle.gx_schema_components.specs.declared.component.Derivation.{Derivation}
use Rattle.gx_schema_components.specs.declared.component.Derivation.TheVariants.{Own, Extends, Restricts}
use Rattle.gx_schema_components.specs.declared.component.TypeComponent.{TypeComponent}
use Rattle.gx_schema_components.specs.declared.component.TypeForm.{TypeForm as ComponentForm}
use Rattle.gx_schema_components.specs.declared.component.TypeForm.TheVariants.{Simple, Complex}

abbrev pub is_restriction : Derivation → Bool
is_restriction Own = false
is_restriction (Extends from) = false
is_restriction (Restricts from) = true

abbrev pub is_restricted_form : ComponentForm → Bool
is_restricted_form (Simple definition) = false
is_restricted_form (Complex definition) = is_restriction definition.derivation

abbrev pub is_restricted_type : TypeComponent → Bool
is_restricted_type component = is_restricted_form component.form

-- by the number of a type, whether it is one
abbrev pub restricted_types : List TypeComponent → List Bool
restricted_types types = map is_restricted_type types

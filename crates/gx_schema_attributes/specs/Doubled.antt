-- Attributes that a type has twice (XML Schema 1.0 part 1, sections 3.4.6 and 3.6.6).
use Rattle.std.specs.Prelude.{ℕ, suc, nat_le, List, [], ◌∷◌, Option, None, Some, if◌then◌else◌}
use Rattle.gx_base.specs.declared.name.Name.{Name}
use Rattle.gx_types.specs.declared.declaration.AttributeUse.{AttributeUse}
use Rattle.gx_schema_components.specs.declared.component.AttributeGroup.{AttributeGroup}
use Rattle.gx_schema_components.specs.declared.component.AttributePart.{AttributePart}
use Rattle.gx_schema_components.specs.declared.component.AttributePart.TheVariants.{Use, Prohibited, Group}
use Rattle.gx_schema_components.specs.declared.component.TypeComponent.{TypeComponent}
use Rattle.gx_schema_components.specs.declared.component.TypeForm.{TypeForm}
use Rattle.gx_schema_components.specs.declared.component.TypeForm.TheVariants.{Simple, Complex}
use Rattle.gx_schema_attributes.specs.declared.doubled.DoubledAttribute.{DoubledAttribute}
use Rattle.gx_schema_attributes.specs.declared.given.GivenUses.{GivenUses}
use Rattle.gx_schema_attributes.specs.GivenUses.{first_given, with_attribute_part}
use Rattle.gx_schema_attributes.specs.GroupUses.{given_by_group}
use Rattle.gx_schema_attributes.specs.OwnUses.{own_of_complex}
use Rattle.gx_schema_attributes.specs.TypeUses.{given_before, uses_of_type}

abbrev pub place_of_part : AttributePart → ℕ
place_of_part (Use place attribute) = place
place_of_part (Prohibited place name) = place
place_of_part (Group place number) = place

-- a name that a part of a type gives again
abbrev pub doubled_at : (number place : ℕ) → Option Name → Option DoubledAttribute
doubled_at number place None = None
doubled_at number place (Some name) = Some (record { place = place; number = number; name = name })

-- the first part that gives a name again, behind what was given
abbrev pub doubled_in_parts : (ℕ → GivenUses) → (number : ℕ) → GivenUses → List AttributePart → Option DoubledAttribute
doubled_in_parts groups number given [] = None
doubled_in_parts groups number given (part ∷ parts) =
    first_given (doubled_at number (place_of_part part) (with_attribute_part groups given part).doubled) (doubled_in_parts groups number (with_attribute_part groups given part) parts)

-- the first part of a type that gives a name again, over the attributes of types and what attribute groups give. Those of the base have
-- different names
abbrev pub doubled_in_form : (ℕ → List AttributeUse) → (ℕ → GivenUses) → (number : ℕ) → TypeForm → Option DoubledAttribute
doubled_in_form types groups number (Simple simple) = None
doubled_in_form types groups number (Complex complex) = doubled_in_parts groups number (given_before types (own_of_complex groups complex)) complex.attributes

-- the earlier by place, the first of two at one place
abbrev pub earlier_doubled : Option DoubledAttribute → Option DoubledAttribute → Option DoubledAttribute
earlier_doubled None other = other
earlier_doubled (Some found) None = Some found
earlier_doubled (Some found) (Some other) = if nat_le found.place other.place then Some found else Some other

-- the first by place of what was found and of what types, of which the first has this number, give again
abbrev pub earliest_doubled : (ℕ → List AttributeUse) → (ℕ → GivenUses) → Option DoubledAttribute → (number : ℕ) → List TypeComponent → Option DoubledAttribute
earliest_doubled types groups found number [] = found
earliest_doubled types groups found number (component ∷ others) =
    earliest_doubled types groups (earlier_doubled found (doubled_in_form types groups number component.form)) (suc number) others

abbrev pub first_doubled : List TypeComponent → List AttributeGroup → Option DoubledAttribute
first_doubled types groups = earliest_doubled (uses_of_type types groups) (given_by_group groups) None 0 types

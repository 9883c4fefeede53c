-- The attributes of types (XML Schema 1.0 part 1, section 3.4.2).
use Rattle.std.specs.Prelude.{ℕ, List, [], map, fold, Option, None, Some}
use Rattle.gx_types.specs.declared.declaration.AttributeUse.{AttributeUse}
use Rattle.gx_schema_components.specs.declared.component.AttributeGroup.{AttributeGroup}
use Rattle.gx_schema_components.specs.declared.component.TypeComponent.{TypeComponent}
use Rattle.gx_schema_attributes.specs.declared.given.GivenUses.{GivenUses}
use Rattle.gx_schema_attributes.specs.declared.own.OwnUses.{OwnUses}
use Rattle.gx_schema_attributes.specs.AllEnd.{meaning_if_all_end}
use Rattle.gx_schema_attributes.specs.GivenUses.{nothing_given, with_use}
use Rattle.gx_schema_attributes.specs.GroupUses.{given_by_group}
use Rattle.gx_schema_attributes.specs.OwnUses.{base_named, base_uses, inherited_from, own_of_type}

-- what a type has of its base, over the attributes of types
abbrev pub given_before : (ℕ → List AttributeUse) → OwnUses → GivenUses
given_before types own = fold with_use nothing_given (inherited_from (base_uses types own.inherited) own)

-- what it has of its base and then its own
abbrev pub uses_over : (ℕ → List AttributeUse) → OwnUses → List AttributeUse
uses_over types own = (fold with_use (given_before types own) own.given).uses

abbrev pub own_of_types : List TypeComponent → List AttributeGroup → List OwnUses
own_of_types types groups = map (own_of_type (given_by_group groups)) types

-- the attributes of the type of a number; none are seen where the references from some type come to no end
abbrev pub uses_of_type : List TypeComponent → List AttributeGroup → ℕ → List AttributeUse
uses_of_type types groups number = meaning_if_all_end base_named uses_over [] (own_of_types types groups) number

-- what is found, or no attributes
abbrev pub found_uses : Option (List AttributeUse) → List AttributeUse
found_uses None = []
found_uses (Some uses) = uses

-- The attributes that parts give (XML Schema 1.0 part 1, sections 3.4.2 and 3.6.2): of each name the first, and the first name that was
-- given again.
use Rattle.std.specs.Prelude.{ℕ, Bool, List, [], ◌∷◌, ◌++◌, map, fold, Option, None, Some, if◌then◌else◌}
use Rattle.std.specs.List.{list_any}
use Rattle.gx_base.specs.Name.{same_name}
use Rattle.gx_base.specs.declared.name.Name.{Name}
use Rattle.gx_types.specs.declared.declaration.AttributeUse.{AttributeUse}
use Rattle.gx_schema_components.specs.declared.component.AttributePart.{AttributePart}
use Rattle.gx_schema_components.specs.declared.component.AttributePart.TheVariants.{Use, Prohibited, Group}
use Rattle.gx_schema_attributes.specs.declared.given.GivenUses.{GivenUses}

abbrev pub names_of_uses : List AttributeUse → List Name
names_of_uses uses = map (λ (attribute : AttributeUse). attribute.name) uses

-- a name is among some
abbrev pub is_name_among : List Name → Name → Bool
is_name_among names name = list_any (same_name name) names

-- what was found first
abbrev pub first_given : {A : Type 0} → Option A → Option A → Option A
first_given None later = later
first_given (Some found) later = Some found

abbrev pub nothing_given : GivenUses
nothing_given = record { uses = []; doubled = None }

-- a name is given again
abbrev pub with_doubled : GivenUses → Option Name → GivenUses
with_doubled given None = given
with_doubled given (Some name) = record { uses = given.uses; doubled = first_given given.doubled (Some name) }

-- one more attribute
abbrev pub with_use : GivenUses → AttributeUse → GivenUses
with_use given attribute =
    if is_name_among (names_of_uses given.uses) attribute.name then with_doubled given (Some attribute.name)
    else record { uses = given.uses ++ attribute ∷ []; doubled = given.doubled }

-- what an attribute group gives, behind other attributes
abbrev pub with_given : GivenUses → GivenUses → GivenUses
with_given given more = with_doubled (fold with_use given more.uses) more.doubled

-- what a part gives, over what attribute groups give
abbrev pub with_attribute_part : (ℕ → GivenUses) → GivenUses → AttributePart → GivenUses
with_attribute_part groups given (Use place attribute) = with_use given attribute
with_attribute_part groups given (Prohibited place name) = given
with_attribute_part groups given (Group place number) = with_given given (groups number)

-- what parts give in their order, behind other attributes
abbrev pub given_by_parts : (ℕ → GivenUses) → GivenUses → List AttributePart → GivenUses
given_by_parts groups given parts = fold (with_attribute_part groups) given parts

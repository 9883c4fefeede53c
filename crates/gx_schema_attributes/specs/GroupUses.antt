-- The attributes that attribute groups give (XML Schema 1.0 part 1, section 3.6.2).
use Rattle.std.specs.Prelude.{ℕ, List, [], ◌∷◌, map}
use Rattle.std.specs.List.{flat_map}
use Rattle.gx_schema_components.specs.declared.component.AttributeGroup.{AttributeGroup}
use Rattle.gx_schema_components.specs.declared.component.AttributePart.{AttributePart}
use Rattle.gx_schema_components.specs.declared.component.AttributePart.TheVariants.{Use, Prohibited, Group}
use Rattle.gx_schema_attributes.specs.AllEnd.{meaning_if_all_end}
use Rattle.gx_schema_attributes.specs.GivenUses.{given_by_parts, nothing_given}
use Rattle.gx_schema_attributes.specs.declared.given.GivenUses.{GivenUses}

-- the attribute group to which a part refers
abbrev pub group_named : AttributePart → List ℕ
group_named (Use place attribute) = []
group_named (Prohibited place name) = []
group_named (Group place number) = number ∷ []

abbrev pub groups_named : List AttributePart → List ℕ
groups_named parts = flat_map group_named parts

abbrev pub group_parts : List AttributeGroup → List (List AttributePart)
group_parts groups = map (λ (group : AttributeGroup). group.parts) groups

-- what the parts of a group give, over what groups give
abbrev pub group_given : (ℕ → GivenUses) → List AttributePart → GivenUses
group_given groups parts = given_by_parts groups nothing_given parts

-- what the group of a number gives; nothing is seen where the references from some group come to no end
abbrev pub given_by_group : List AttributeGroup → ℕ → GivenUses
given_by_group groups number = meaning_if_all_end groups_named group_given nothing_given (group_parts groups) number

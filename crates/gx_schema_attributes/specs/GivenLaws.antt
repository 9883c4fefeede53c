-- What an attribute group gives looks at nothing but what the groups give to which it refers.
use Rattle.std.specs.Prelude.{◌≡◌, ℕ, zero, List, [], ◌∷◌, fold, refl}
use Rattle.std.proofs.Common.{◌∙◌, ap, arith}
use Rattle.std.proofs.lemmas.List.Elements.{Contains-append_left, Contains-append_right}
use Rattle.gx_references.specs.Known.{SameMeaningsOn}
use Rattle.gx_schema_components.specs.declared.component.AttributePart.{AttributePart}
use Rattle.gx_schema_components.specs.declared.component.AttributePart.TheVariants.{Use, Prohibited, Group}
use Rattle.gx_schema_attributes.specs.declared.given.GivenUses.{GivenUses}
use Rattle.gx_schema_attributes.specs.GivenUses.{nothing_given, with_given, with_attribute_part}
use Rattle.gx_schema_attributes.specs.GroupUses.{group_given, group_named, groups_named}

part_agrees : (f g : ℕ → GivenUses) (given : GivenUses) (part : AttributePart) → SameMeaningsOn f g (group_named part) → with_attribute_part f given part ≡ with_attribute_part g given part
part_agrees f g given (Use place attribute) agree = refl
part_agrees f g given (Prohibited place name) agree = refl
part_agrees f g given (Group place number) agree = ap (λ (more : GivenUses). with_given given more) (agree number (zero, omega arith, refl))

parts_agree : (f g : ℕ → GivenUses) (given : GivenUses) (parts : List AttributePart) → SameMeaningsOn f g (groups_named parts) → fold (with_attribute_part f) given parts ≡ fold (with_attribute_part g) given parts
parts_agree f g given [] agree = refl
parts_agree f g given (part ∷ parts) agree =
    ap (λ (done : GivenUses). fold (with_attribute_part f) done parts) (part_agrees f g given part (λ number here. agree number (Contains-append_left (group_named part) (groups_named parts) number here)))
    ∙ parts_agree f g (with_attribute_part g given part) parts (λ number here. agree number (Contains-append_right (group_named part) (groups_named parts) number here))

pub group_given_agrees : (f g : ℕ → GivenUses) (parts : List AttributePart) → SameMeaningsOn f g (groups_named parts) → group_given f parts ≡ group_given g parts
group_given_agrees f g parts agree = parts_agree f g nothing_given parts agree

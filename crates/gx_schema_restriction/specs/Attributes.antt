-- The attributes of a restriction beside those of its base (XML Schema 1.0 part 1, section 3.4.6).
use Rattle.std.specs.Prelude.{Bool, ◌&&◌, not, List, [], ◌∷◌, Option, None, Some, if◌then◌else◌}
use Rattle.std.specs.List.{list_any}
use Rattle.std.specs.Option.{option_or}
use Rattle.gx_base.specs.Name.{same_name}
use Rattle.gx_types.specs.SchemaSet.{SchemaSet}
use Rattle.gx_types.specs.Derivation.{is_derived}
use Rattle.gx_types.specs.declared.declaration.AttributeUse.{AttributeUse}

-- an attribute of a base allows one of a restriction: it has its name, and a type from which the other is derived
abbrev pub allows : SchemaSet → (given inherited : AttributeUse) → Bool
allows schemas given inherited = same_name inherited.name given.name && is_derived schemas given.kind inherited.kind

-- the first attribute that a base lacks, or has with a type from which its own is not derived
abbrev pub first_added : SchemaSet → (base uses : List AttributeUse) → Option AttributeUse
first_added schemas base [] = None
first_added schemas base (given ∷ others) = if list_any (allows schemas given) base then first_added schemas base others else Some given

-- an attribute of a restriction is required, and has the name of one of the base
abbrev pub is_required_as : (inherited given : AttributeUse) → Bool
is_required_as inherited given = same_name inherited.name given.name && given.required

-- the first attribute that a base requires and a restriction does not
abbrev pub first_loosened : (base uses : List AttributeUse) → Option AttributeUse
first_loosened [] uses = None
first_loosened (inherited ∷ others) uses = if inherited.required && not (list_any (is_required_as inherited) uses) then Some inherited else first_loosened others uses

abbrev pub attribute_fault : SchemaSet → (base uses : List AttributeUse) → Option AttributeUse
attribute_fault schemas base uses = option_or (first_added schemas base uses) (first_loosened base uses)

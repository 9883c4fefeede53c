-- The laws of the attributes of types.
use Rattle.std.specs.Prelude.{◌≡◌, ℕ, Bool, true, List}
use Rattle.std.specs.List.{list_all}
use Rattle.gx_base.specs.Name.{same_name}
use Rattle.gx_base.specs.declared.type_name.TypeName.{TypeName}
use Rattle.gx_types.specs.SchemaInvariant.{AreDistinctBy}
use Rattle.gx_types.specs.declared.declaration.AttributeUse.{AttributeUse}
use Rattle.gx_schema_components.specs.declared.component.AttributeGroup.{AttributeGroup}
use Rattle.gx_schema_components.specs.declared.component.TypeComponent.{TypeComponent}
use Rattle.gx_schema_attributes.specs.AttributeKinds.{attribute_kinds}
use Rattle.gx_schema_attributes.specs.GivenUses.{names_of_uses}
use Rattle.gx_schema_attributes.specs.TypeUses.{uses_of_type}

-- no type has two attributes of one name
abbrev pub UsesAreDistinct : Type 0
UsesAreDistinct = (types : List TypeComponent) (groups : List AttributeGroup) (number : ℕ) → AreDistinctBy same_name (names_of_uses (uses_of_type types groups number))

-- a test that the types of all attributes pass, as they are written, those of the attributes of each type pass
abbrev pub KindsAreWritten : Type 0
KindsAreWritten = (types : List TypeComponent) (groups : List AttributeGroup) (test : TypeName → Bool) (number : ℕ) →
    list_all test (attribute_kinds types groups) ≡ true → list_all (λ (attribute : AttributeUse). test attribute.kind) (uses_of_type types groups number) ≡ true

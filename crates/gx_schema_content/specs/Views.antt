-- What the bodies of declarations stand for, apart from where they are kept.
use Rattle.std.specs.Prelude.{ℕ, Bool}
use Rattle.gx_types.specs.SequenceType.{SequenceType, never}
use Rattle.gx_references.specs.Known.{known}
use Rattle.gx_schema_components.specs.declared.component.ModelGroup.{ModelGroup}
use Rattle.gx_schema_components.specs.declared.component.TypeComponent.{TypeComponent}
use Rattle.gx_schema_content.specs.declared.group_content.GroupContent.{GroupContent}
use Rattle.gx_schema_content.specs.declared.group_positions.GroupPositions.{GroupPositions}
use Rattle.gx_schema_content.specs.declared.type_content.TypeContent.{TypeContent}
use Rattle.gx_schema_content.specs.declared.type_positions.TypePositions.{TypePositions}
use Rattle.gx_schema_content.specs.PositionKnots.{group_fits, type_fits}

abbrev pub group_counted : GroupPositions → ModelGroup
group_counted body = body.group.now

-- a type, over the positions of groups
pub record CountedType : Type 0 where
  pub groups : ℕ → ℕ
  pub component : TypeComponent

abbrev pub type_counted : TypePositions → CountedType
type_counted body = record { groups = known 0 body.groups.now; component = body.component.now }

abbrev pub counted_over : (ℕ → ℕ) → TypeComponent → CountedType
counted_over groups component = record { groups = groups; component = component }

-- a group, and whether it fits
pub record FittingGroup : Type 0 where
  pub fits : Bool
  pub group : ModelGroup

abbrev pub fitting_by : (ℕ → ℕ) → ModelGroup → FittingGroup
fitting_by positions group = record { fits = group_fits positions group; group = group }

abbrev pub group_filled : GroupContent → FittingGroup
group_filled body = record { fits = body.fits; group = body.group.now }

-- a type, and whether it fits, over what is known of groups
pub record FittingType (M : Type 0) : Type 0 where
  pub fits : Bool
  pub groups : ℕ → M
  pub component : TypeComponent

abbrev pub fitting_over : {M : Type 0} → (groups types : ℕ → ℕ) → (ℕ → M) → TypeComponent → FittingType M
fitting_over groups types meanings component = record { fits = type_fits groups types component; groups = meanings; component = component }

abbrev pub type_filled : TypeContent → FittingType SequenceType
type_filled body = record { fits = body.fits; groups = known never body.groups.now; component = body.component.now }

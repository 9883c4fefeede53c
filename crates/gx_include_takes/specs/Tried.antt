-- A type that lists of shapes are tried on, with the schemas that say which types are derived from which.
use Rattle.gx_types.specs.SchemaSet.{SchemaSet}
use Rattle.gx_types.specs.SequenceType.{SequenceType}

pub record Tried : Type 0 where
  pub schemas : SchemaSet
  pub model : SequenceType

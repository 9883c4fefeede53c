-- Forests that grow: nodes and values keep what they had.
use Rattle.std.specs.Prelude.{◌≡◌, ◌++◌}
use Rattle.gx_types.specs.SchemaSet.{SchemaSet}
use Rattle.gx_types.specs.SequenceType.{SequenceType}
use Rattle.gx_model.specs.Forest.{Forest}
use Rattle.gx_model.specs.Item.{Items}
use Rattle.gx_model.specs.Belongs.{Belongs}

-- trees were added behind those that were there
pub record Extends (before now : Forest) : Type 0 where
  pub more : Forest
  pub is : now ≡ before ++ more

pub record GrowthIsAnOrder : Type 0 where
  pub reflexive : (forest : Forest) → Extends forest forest
  pub transitive : (first second third : Forest) → Extends first second → Extends second third → Extends first third

abbrev pub ValuesStay : Type 0
ValuesStay =
    (schemas : SchemaSet) (before now : Forest) (value : Items) (t : SequenceType)
    → Extends before now → Belongs schemas before value t → Belongs schemas now value t

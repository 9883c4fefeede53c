-- What an evaluation does to the forest: it grows by honest trees.
use Rattle.gx_types.specs.SchemaSet.{SchemaSet}
use Rattle.gx_model.specs.Forest.{Forest}
use Rattle.gx_model.specs.Growth.{Extends}
use Rattle.gx_model.specs.Honest.{IsHonest}

pub record GrowsHonestly (schemas : SchemaSet) (before now : Forest) : Type 0 where
  pub extends : Extends before now
  pub honest : IsHonest schemas before → IsHonest schemas now

-- Plans whose joins may be evaluated by tables of keys.
use Rattle.std.specs.Prelude.{◌≡◌, List}
use Rattle.gx_base.specs.declared.limits.TheConstants.{ACTIVE_CALLS}
use Rattle.gx_types.specs.SchemaSet.{SchemaSet}
use Rattle.gx_model.specs.Forest.{PlainNode, Forest}
use Rattle.gx_joins.specs.JoinedMeaning.{joined_outcome}
use Rattle.gx_plan.specs.Plan.{PlanQuery}
use Rattle.gx_plan.specs.PlanMeaning.{plan_outcome}

-- over these documents of the forest a plan has the same outcome with hash joins in the place of the loops of its joins
abbrev pub MayJoinByTables : SchemaSet → PlanQuery → (documents : List PlainNode) → Forest → Type 0
MayJoinByTables schemas query documents forest =
    joined_outcome ACTIVE_CALLS schemas query documents forest ≡ plan_outcome schemas query documents forest

-- When what an expression of a plan comes to with hash joins is what it means.
use Rattle.std.specs.Prelude.{List}
use Rattle.gx_types.specs.SchemaSet.{SchemaSet}
use Rattle.gx_core.specs.declared.signature.FunctionSignature.{FunctionSignature}
use Rattle.gx_core.specs.Bindings.{Types}
use Rattle.gx_core.specs.Meaning.{CallOutcomes}
use Rattle.gx_core.specs.Soundness.{context_of, IsSound}
use Rattle.gx_plan.specs.Plan.{PlanExpression, typed_expression}
use Rattle.gx_plan.specs.Fitting.{IsWellBound}
use Rattle.gx_plan.specs.SameMeaning.{ComesToTheSame}
use Rattle.gx_rule_laws.specs.QuietValues.{plan_setting}
use Rattle.gx_rule_laws.specs.ApartJoins.{AreJoinsApart}
use Rattle.gx_rule_laws.specs.FairJoins.{AreJoinsFair}
use Rattle.gx_joins.specs.JoinedMeaning.{joined_meaning}
use Rattle.gx_join_laws.specs.LoopItems.{LoopsTakeItems}

-- an expression is sound and binds well where it stands, its joins are fair, with sides that stand apart, and its loops go over items of the types of
-- their variables
pub record IsReadyToJoin (schemas : SchemaSet) (variables : Types) (known : List FunctionSignature) (calls : CallOutcomes) (e : PlanExpression)
    (types : Types) : Type 0 where
  pub sound : IsSound (plan_setting schemas variables known calls) (typed_expression e) types
  pub well_bound : IsWellBound (plan_setting schemas variables known calls) (typed_expression e) types
  pub fair : AreJoinsFair (plan_setting schemas variables known calls) e types
  pub apart : AreJoinsApart e
  pub items : LoopsTakeItems (plan_setting schemas variables known calls) variables e types

-- with hash joins in the place of its joins, it comes to what it means
abbrev pub FairJoinsAreHashJoins : Type 0
FairJoinsAreHashJoins =
    (schemas : SchemaSet) (variables : Types) (known : List FunctionSignature) (calls : CallOutcomes) (e : PlanExpression) (types : Types)
    → IsReadyToJoin schemas variables known calls e types
    → ComesToTheSame (plan_setting schemas variables known calls) (joined_meaning (context_of (plan_setting schemas variables known calls)) e)
    (typed_expression e) types

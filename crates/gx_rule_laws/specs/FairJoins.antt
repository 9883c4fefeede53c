-- When joins are fair: the right source and the keys of a join have values wherever they stand, and leave the forest as it is, and the values
-- of both keys are numbers, or strings and untyped values.
use Rattle.std.specs.Prelude.{◌≡◌, ◌⊎◌, Bool, true, false, List, [], ◌∷◌, ◌++◌}
use Rattle.std.specs.List.{list_all}
use Rattle.gx_facets.specs.declared.AtomValue.{AtomValue}
use Rattle.gx_facets.specs.declared.AtomValue.TheVariants.{Untyped, Str, Num}
use Rattle.gx_types.specs.SchemaSet.{SchemaSet}
use Rattle.gx_types.specs.SequenceType.{SequenceType}
use Rattle.gx_model.specs.Item.{Item, atom, node, Items}
use Rattle.gx_core.specs.declared.operator.Operator.{Operator}
use Rattle.gx_core.specs.declared.operator.Operator.TheVariants as operators
use Rattle.gx_core.specs.declared.signature.FunctionSignature.{FunctionSignature}
use Rattle.gx_core.specs.Bindings.{Types}
use Rattle.gx_core.specs.Expression.{At, Parts, no_parts, a_part, annotation_of}
use Rattle.gx_core.specs.Meaning.{CallOutcomes, meaning}
use Rattle.gx_core.specs.Outcome.{Outcome, gives}
use Rattle.gx_core.specs.Soundness.{Setting, context_of, Situation}
use Rattle.gx_plan.specs.declared.plan.Carried.{Carried}
use Rattle.gx_plan.specs.Plan.{PlanExpression, typed_expression}
use Rattle.gx_rules.specs.Guards.{is_in_join}
use Rattle.gx_rules.specs.Normal.{PlanReaches}
use Rattle.gx_rule_laws.specs.QuietValues.{plan_setting, HasValueInPlace, JoinsCompareInPlace}
use Rattle.gx_rule_laws.specs.KeepingSoundness.{StandsInPlan, plan_rule_setting}

-- ---- keys

abbrev pub is_number_value : AtomValue → Bool
is_number_value (Num n) = true
is_number_value _ = false

abbrev pub is_text_value : AtomValue → Bool
is_text_value (Untyped t) = true
is_text_value (Str t) = true
is_text_value _ = false

abbrev pub is_atom_so : (AtomValue → Bool) → Item → Bool
is_atom_so test (atom a) = test a.value
is_atom_so test (node place) = false

-- each value of an outcome passes a test
abbrev pub ValuesPass : (AtomValue → Bool) → Outcome Items → Type 0
ValuesPass test (gives xs left) = list_all (is_atom_so test) xs ≡ true
ValuesPass test _ = Unit {0}

-- wherever an expression stands
abbrev pub IsKeyOf : (AtomValue → Bool) → Setting → PlanExpression → Types → Type 0
IsKeyOf test setting e types =
    (situation : Situation setting types) → ValuesPass test (meaning (context_of setting) (typed_expression e) situation.bindings situation.forest)

-- two keys have values, of one family both
pub record AreFairKeys (setting : Setting) (left right : PlanExpression) (types : Types) : Type 0 where
  pub left_value : HasValueInPlace setting left types
  pub right_value : HasValueInPlace setting right types
  pub family : (IsKeyOf is_number_value setting left types × IsKeyOf is_number_value setting right types)
      ⊎ (IsKeyOf is_text_value setting left types × IsKeyOf is_text_value setting right types)

-- ---- joins

-- the inner loop and the comparison of a join
abbrev pub IsFairOperator : Setting → PlanExpression → Types → Type 0
IsFairOperator setting (At place outer carried (operators.For binder position) (a_part source others)) types =
    is_in_join carried.role ≡ true → HasValueInPlace setting source types
IsFairOperator setting (At place outer carried (operators.Binary operator) (a_part left (a_part right no_parts))) types =
    is_in_join carried.role ≡ true → AreFairKeys setting left right types
IsFairOperator setting _ types = Unit {0}

abbrev mutual
  pub AreJoinsFair : Setting → PlanExpression → Types → Type 0
  AreJoinsFair setting (At place outer carried operator parts) types =
      IsFairOperator setting (At place outer carried operator parts) types × JoinsInPartsAreFair setting operator [] parts types

  pub JoinsInPartsAreFair : Setting → Operator → (before : List SequenceType) → Parts Carried → Types → Type 0
  JoinsInPartsAreFair setting operator before no_parts types = Unit {0}
  JoinsInPartsAreFair setting operator before (a_part first others) types =
      AreJoinsFair setting first (setting.binders operator before ++ types)
      × JoinsInPartsAreFair setting operator (before ++ annotation_of (typed_expression first) ∷ []) others types

-- ---- rewriting

pub record HasFairJoins (setting : Setting) (e : PlanExpression) (types : Types) : Type 0 where
  pub fair : AreJoinsFair setting e types
  pub compare : JoinsCompareInPlace setting e types

-- joins are fair in what any number of applications of rules lead to, where they are fair in the expression of the plan
abbrev pub RewritingKeepsJoinsFair : Type 0
RewritingKeepsJoinsFair =
    (schemas : SchemaSet) (variables : Types) (known : List FunctionSignature) (calls : CallOutcomes) (e other : PlanExpression) (types : Types)
    → StandsInPlan schemas variables known calls e types → HasFairJoins (plan_setting schemas variables known calls) e types
    → PlanReaches (plan_rule_setting schemas variables) e other → HasFairJoins (plan_setting schemas variables known calls) other types

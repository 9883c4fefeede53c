-- Facts of parts, and operators that no rule has on its left side.
use Rattle.std.proofs.Common.{◌≡◌, Bool, false, List, [], ◌∷◌, map, refl, sym, ◌∙◌, ap}
use Rattle.gx_base.specs.declared.place.Place.{Place}
use Rattle.gx_core.specs.declared.operator.Operator.{Operator}
use Rattle.gx_core.specs.declared.operator.Operator.TheVariants as operators
use Rattle.gx_core.specs.Expression.{At, Parts, all_parts, each_of}
use Rattle.gx_plan.specs.declared.plan.Carried.{Carried}
use Rattle.gx_plan.specs.Plan.{PlanExpression}
use Rattle.gx_rules.specs.Guards.{is_flat}
use Rattle.gx_rules.specs.Rules.{RuleSetting}
use Rattle.gx_rewrite.specs.Rewriting.{rewritten_at}
use Rattle.gx_rewrite.specs.Shapes.{some_rule_asks_for}

pub each_of_all : (es : List PlanExpression) → each_of is_flat (all_parts es) ≡ map is_flat es
each_of_all [] = refl
each_of_all (e ∷ es) = ap (λ bs. is_flat e ∷ bs) (each_of_all es)

pub facts_of_parts : (facts : List Bool) (es : List PlanExpression) (parts : Parts Carried) → facts ≡ map is_flat es → parts ≡ all_parts es
    → facts ≡ each_of is_flat parts
facts_of_parts facts es parts f e = f ∙ sym (ap (each_of is_flat) e ∙ each_of_all es)

pub others_stay : (setting : RuleSetting) (place outer : Place) (carried : Carried) (operator : Operator) (parts : Parts Carried)
    → some_rule_asks_for operator ≡ false
    → rewritten_at setting (At place outer carried operator parts) ≡ At place outer carried operator parts
others_stay setting place outer carried operators.Order parts h = absurd (cc)
others_stay setting place outer carried (operators.For binder position) parts h = absurd (cc)
others_stay setting place outer carried (operators.Switch cases default) parts h = absurd (cc)
others_stay setting place outer carried (operators.Call function) parts h = absurd (cc)
others_stay setting place outer carried operators.DataOf parts h = absurd (cc)
others_stay setting place outer carried _ parts h = refl

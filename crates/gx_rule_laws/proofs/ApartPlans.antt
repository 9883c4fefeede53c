-- The two sides of each join of a rewritten plan stand apart.
use Rattle.std.proofs.Common.{◌≡◌, None, Some, List, [], ◌∷◌}
use Rattle.gx_core.specs.declared.expression.Declaration.{Declaration}
use Rattle.gx_core.specs.declared.expression.Declaration.TheVariants.{Global, Function}
use Rattle.gx_core.specs.Expression.{At, Parts, no_parts, a_part}
use Rattle.gx_plan.specs.declared.plan.Role.{Role}
use Rattle.gx_plan.specs.declared.plan.Role.TheVariants.{Own, Join}
use Rattle.gx_plan.specs.declared.plan.Carried.{Carried}
use Rattle.gx_plan.specs.Plan.{PlanExpression}
use Rattle.gx_rules.specs.Rules.{RuleSetting}
use Rattle.gx_rules.specs.Normal.{PlanReaches}
use Rattle.gx_rule_laws.specs.ApartJoins.{AreJoinsApart, JoinsInPartsAreApart}
use Rattle.gx_rule_laws.specs.ApartPlans.{DeclarationsHaveApartJoins, RewrittenPlansHaveApartJoins}
use Rattle.gx_rule_laws.specs.FairPlans.{HasNoJoin, HaveNoJoin, DeclarationsHaveNoJoin}
use Rattle.gx_rule_laws.proofs.ApartRewriting.{rewriting_keeps_joins_apart}
use Rattle.gx_rule_laws.proofs.RewrittenPlans.{ReachesDeclarations, parts_reached}

-- ---- where there is no join, all are apart

unmarked : (role : Role) → role ≡ Own → role ≡ Join → ⊥
unmarked role e f = cc

mutual
  all_apart : (e : PlanExpression) → HasNoJoin e → AreJoinsApart e
  all_apart (At place outer carried operator parts) h = ((λ marked. absurd (unmarked carried.role h.0 marked)), all_parts_apart parts h.1)

  all_parts_apart : (parts : Parts Carried) → HaveNoJoin parts → JoinsInPartsAreApart parts
  all_parts_apart no_parts h = tt
  all_parts_apart (a_part first others) h = (all_apart first h.0, all_parts_apart others h.1)

pub becomes_apart : (setting : RuleSetting) (e other : PlanExpression) → HasNoJoin e → PlanReaches setting e other → AreJoinsApart other
becomes_apart setting e other no_join reaches = rewriting_keeps_joins_apart setting e other (all_apart e no_join) reaches

-- ---- whole plans

all_become_apart : (setting : RuleSetting) (ds es : List (Declaration Carried)) → DeclarationsHaveNoJoin ds → ReachesDeclarations setting ds es
    → DeclarationsHaveApartJoins es
all_become_apart setting [] [] no_join reaches = tt
all_become_apart setting [] (e ∷ es) no_join reaches = absurd reaches
all_become_apart setting (d ∷ ds) [] no_join reaches = absurd reaches
all_become_apart setting (Global name binder (Some value) ∷ ds) (Global other_name other_binder (Some other) ∷ es) no_join reaches =
    (becomes_apart setting value other no_join.0 reaches.0.1, all_become_apart setting ds es no_join.1 reaches.1)
all_become_apart setting (Global name binder None ∷ ds) (Global other_name other_binder None ∷ es) no_join reaches = all_become_apart setting ds es no_join reaches.1
all_become_apart setting (Function function ∷ ds) (Function other ∷ es) no_join reaches =
    (becomes_apart setting function.body other.body no_join.0 reaches.0.1.1, all_become_apart setting ds es no_join.1 reaches.1)
all_become_apart setting (Global name binder (Some value) ∷ ds) (Global other_name other_binder None ∷ es) no_join reaches = absurd reaches.0
all_become_apart setting (Global name binder (Some value) ∷ ds) (Function other ∷ es) no_join reaches = absurd reaches.0
all_become_apart setting (Global name binder None ∷ ds) (Global other_name other_binder (Some other) ∷ es) no_join reaches = absurd reaches.0
all_become_apart setting (Global name binder None ∷ ds) (Function other ∷ es) no_join reaches = absurd reaches.0
all_become_apart setting (Function function ∷ ds) (Global other_name other_binder None ∷ es) no_join reaches = absurd reaches.0
all_become_apart setting (Function function ∷ ds) (Global other_name other_binder (Some other) ∷ es) no_join reaches = absurd reaches.0

pub rewritten_plans_have_apart_joins : RewrittenPlansHaveApartJoins
rewritten_plans_have_apart_joins setting plan other no_join reaches =
    let parts = parts_reached setting reaches.applications plan other reaches.reached in record {
      declarations = all_become_apart setting plan.declarations other.declarations no_join.declarations parts.declarations;
      body = becomes_apart setting plan.body other.body no_join.body parts.body;
    }

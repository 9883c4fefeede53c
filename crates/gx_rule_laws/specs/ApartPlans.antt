-- The two sides of each join of a rewritten plan stand apart.
use Rattle.std.specs.Prelude.{List, [], ◌∷◌, None, Some}
use Rattle.gx_core.specs.declared.expression.Declaration.{Declaration}
use Rattle.gx_core.specs.declared.expression.Declaration.TheVariants.{Global, Function}
use Rattle.gx_plan.specs.declared.plan.Carried.{Carried}
use Rattle.gx_plan.specs.Plan.{PlanQuery}
use Rattle.gx_rules.specs.Rules.{RuleSetting}
use Rattle.gx_rules.specs.Normal.{QueryReaches}
use Rattle.gx_rule_laws.specs.ApartJoins.{AreJoinsApart}
use Rattle.gx_rule_laws.specs.FairPlans.{PlanHasNoJoin}

abbrev pub DeclarationsHaveApartJoins : List (Declaration Carried) → Type 0
DeclarationsHaveApartJoins [] = Unit {0}
DeclarationsHaveApartJoins (Global name binder (Some value) ∷ others) = AreJoinsApart value × DeclarationsHaveApartJoins others
DeclarationsHaveApartJoins (Global name binder None ∷ others) = DeclarationsHaveApartJoins others
DeclarationsHaveApartJoins (Function function ∷ others) = AreJoinsApart function.body × DeclarationsHaveApartJoins others

pub record PlanHasApartJoins (plan : PlanQuery) : Type 0 where
  pub declarations : DeclarationsHaveApartJoins plan.declarations
  pub body : AreJoinsApart plan.body

-- so are those of each plan that is reached from one without joins
abbrev pub RewrittenPlansHaveApartJoins : Type 0
RewrittenPlansHaveApartJoins =
    (setting : RuleSetting) (plan other : PlanQuery) → PlanHasNoJoin plan → QueryReaches setting plan other → PlanHasApartJoins other

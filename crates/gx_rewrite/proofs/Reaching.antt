-- Chains of applications of rules.
use Rattle.std.proofs.Common.{◌≡◌, ℕ, zero, suc, ◌+◌, refl, sym, ap, subst, inl, inr, Some, arith}
use Rattle.gx_base.specs.declared.place.Place.{Place}
use Rattle.gx_core.specs.declared.operator.Operator.{Operator}
use Rattle.gx_core.specs.Expression.{At, Parts, a_part}
use Rattle.gx_plan.specs.declared.plan.Carried.{Carried}
use Rattle.gx_plan.specs.Plan.{PlanExpression}
use Rattle.gx_rules.specs.Rules.{RuleSetting, RewritingRule, rewritten_by}
use Rattle.gx_rules.specs.Normal.{StepsTo, PartStepsTo, ReachesIn, ReachesBy}

pub stays : {P : Type 0} (Steps : P → P → Type 0) (p : P) → ReachesBy Steps p p
stays Steps p = record { applications = 0; reached = refl }

pub by_one : {P : Type 0} (Steps : P → P → Type 0) (p other : P) → Steps p other → ReachesBy Steps p other
by_one Steps p other h = record { applications = 1; reached = (other, h, refl) }

chained : {P : Type 0} (Steps : P → P → Type 0) (n m : ℕ) (p middle other : P) → ReachesIn Steps n p middle → ReachesIn Steps m middle other
    → ReachesIn Steps (n + m) p other
chained Steps zero m p middle other h k =
    let e : m ≡ 0 + m = omega arith in subst (λ (c : ℕ). ReachesIn Steps c p other) e (subst (λ q. ReachesIn Steps m q other) (sym h) k)
chained Steps (suc n) m p middle other h k =
    let e : suc (n + m) ≡ suc n + m = omega arith in
    subst (λ (c : ℕ). ReachesIn Steps c p other) e (h.0, h.1, chained Steps n m h.0 middle other h.2 k)

pub then_reaches : {P : Type 0} (Steps : P → P → Type 0) (p middle other : P) → ReachesBy Steps p middle → ReachesBy Steps middle other
    → ReachesBy Steps p other
then_reaches Steps p middle other h k =
    record { applications = h.applications + k.applications; reached = chained Steps h.applications k.applications p middle other h.reached k.reached }

carried_over : {P Q : Type 0} (Steps : P → P → Type 0) (More : Q → Q → Type 0) (f : P → Q) → ((p other : P) → Steps p other → More (f p) (f other))
    → (n : ℕ) (p other : P) → ReachesIn Steps n p other → ReachesIn More n (f p) (f other)
carried_over Steps More f step zero p other h = ap f h
carried_over Steps More f step (suc n) p other h =
    (f h.0, step p h.0 h.1, carried_over Steps More f step n h.0 other h.2)

-- what is reached somewhere is reached inside something else
pub reaches_inside : {P Q : Type 0} (Steps : P → P → Type 0) (More : Q → Q → Type 0) (f : P → Q)
    → ((p other : P) → Steps p other → More (f p) (f other)) → (p other : P) → ReachesBy Steps p other → ReachesBy More (f p) (f other)
reaches_inside Steps More f step p other h =
    record { applications = h.applications; reached = carried_over Steps More f step h.applications p other h.reached }

pub by_rule : (setting : RuleSetting) (e other : PlanExpression) (rule : RewritingRule) → rewritten_by setting rule e ≡ Some other → StepsTo setting e other
by_rule setting (At place outer carried operator parts) other rule h = inl (record { rule = rule; gives = h })

pub step_in_parts : (setting : RuleSetting) (place outer : Place) (carried : Carried) (operator : Operator) (parts others : Parts Carried)
    → PartStepsTo setting parts others → StepsTo setting (At place outer carried operator parts) (At place outer carried operator others)
step_in_parts setting place outer carried operator parts others h = inr (others, refl, h)

pub step_in_first : (setting : RuleSetting) (e other : PlanExpression) (parts : Parts Carried) → StepsTo setting e other
    → PartStepsTo setting (a_part e parts) (a_part other parts)
step_in_first setting e other parts h = inl (other, refl, h)

pub step_in_others : (setting : RuleSetting) (e : PlanExpression) (parts others : Parts Carried) → PartStepsTo setting parts others
    → PartStepsTo setting (a_part e parts) (a_part e others)
step_in_others setting e parts others h = inr (others, refl, h)

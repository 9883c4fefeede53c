-- What stands in the place of an expression where a guard is met.
use Rattle.std.proofs.Common.{◌≡◌, Bool, true, false, Option, None, Some, refl, if◌then◌else◌}
use Rattle.gx_plan.specs.Plan.{PlanExpression}
use Rattle.gx_rules.specs.Rules.{if_guarded}

pub met : (guard : Bool) (e other : PlanExpression) → if_guarded guard e ≡ Some other → (guard ≡ true) × (e ≡ other)
met true e other h = (refl, cc)
met false e other h = absurd (cc)

pub given_if : {A : Type 0} (guard : Bool) (found : Option A) (x : A) → (if guard then found else None) ≡ Some x → (guard ≡ true) × (found ≡ Some x)
given_if true found x h = (refl, h)
given_if false found x h = absurd (cc)

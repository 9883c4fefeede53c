-- How the types that were judged grow by one.
use Rattle.std.proofs.Common.{◌≡◌, ℕ, ◌+◌, Bool, true, List, inl, inr, Some, sym, ◌∙◌, ap, subst, slice_get, unwrap_or, arith}
use Rattle.std.proofs.lemmas.Bool.{cases_lt}
use Rattle.gx_types.specs.declared.declaration.Declared.{Declared}
use Rattle.gx_types.specs.SchemaSet.{SchemaSet}
use Rattle.gx_include.specs.declared.verdict.Verdict.{Verdict}
use Rattle.gx_include.specs.declared.verdict.Verdict.TheVariants.{Yes}
use Rattle.gx_include.specs.declared.verdict.IncludeError.{IncludeError}
use Rattle.gx_include.specs.declared.verdict.IncludeError.TheVariants.{TooManyPairs}
use Rattle.gx_schema_restriction.specs.Restriction.{HasNoRestriction, IsRestriction, IsUndecided}
use Rattle.gx_schema_restriction.specs.Restrictions.{AreSoundBelow, is_restricted}

pub below_more : (schemas : SchemaSet) (pairs : ℕ) (restricted : List Bool) (bound : ℕ) (declared : Declared) → slice_get schemas.types bound ≡ Some declared
    → (is_restricted restricted bound ≡ true → IsRestriction schemas pairs declared Yes) → AreSoundBelow schemas pairs restricted bound → AreSoundBelow schemas pairs restricted (bound + 1)
below_more schemas pairs restricted bound declared here judged below number other l at is_one =
    elim (cases_lt number bound) [
      | inl less ↦ below number other less at is_one
      | inr not_less ↦
          let same : bound ≡ number = omega arith in
          subst (λ (d : Declared). IsRestriction schemas pairs d Yes)
          (ap (λ found. unwrap_or found declared) (sym here ∙ ap (λ n. slice_get schemas.types n) same ∙ at))
          (judged (subst (λ n. is_restricted restricted n ≡ true) (sym same) is_one))
    ]

-- a verdict is one on the schemas that are the same
pub judged : (schemas other : SchemaSet) (pairs : ℕ) (declared : Declared) (one verdict : Verdict) → other ≡ schemas → one ≡ verdict → IsRestriction other pairs declared one → IsRestriction schemas pairs declared verdict
judged schemas other pairs declared one verdict e f is = subst (λ (s : SchemaSet). IsRestriction s pairs declared verdict) e (subst (IsRestriction other pairs declared) f is)

-- a type is not decided on the schemas that are the same
pub undecided : (schemas other : SchemaSet) (pairs : ℕ) (declared : Declared) (error : IncludeError) → other ≡ schemas → error ≡ TooManyPairs → HasNoRestriction other pairs declared error → IsUndecided schemas pairs declared
undecided schemas other pairs declared error e f is = subst (λ (s : SchemaSet). IsUndecided s pairs declared) e (subst (HasNoRestriction other pairs declared) f is)

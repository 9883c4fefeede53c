-- The restrictions among the types of schemas.
use Rattle.std.specs.Prelude.{◌≡◌, ℕ, ◌<◌, Bool, true, false, List, length, Some, slice_get, unwrap_or}
use Rattle.gx_types.specs.declared.declaration.Declared.{Declared}
use Rattle.gx_types.specs.SchemaSet.{SchemaSet}
use Rattle.gx_include.specs.declared.verdict.Verdict.{Verdict}
use Rattle.gx_include.specs.declared.verdict.Verdict.TheVariants.{Yes, No}
use Rattle.gx_schema_restriction.specs.declared.restrictions.Restrictions.{Restrictions}
use Rattle.gx_schema_restriction.specs.declared.restrictions.Restrictions.TheVariants.{Sound, Unsound, Undecided}
use Rattle.gx_schema_restriction.specs.Restriction.{IsRestriction, IsUndecided}

-- the type of a number counts as a restriction
abbrev pub is_restricted : List Bool → ℕ → Bool
is_restricted restricted number = unwrap_or (slice_get restricted number) false

-- the type of a number is a restriction, of which this holds
abbrev pub HoldsAtRestriction : SchemaSet → List Bool → ℕ → (Declared → Type 0) → Type 0
HoldsAtRestriction schemas restricted number Fact =
    (declared : Declared) × (slice_get schemas.types number ≡ Some declared) × (is_restricted restricted number ≡ true) × Fact declared

-- the verdict on the type of a number, which is a restriction
abbrev pub IsJudgedAt : SchemaSet → (pairs : ℕ) → List Bool → ℕ → Verdict → Type 0
IsJudgedAt schemas pairs restricted number verdict = HoldsAtRestriction schemas restricted number (λ declared. IsRestriction schemas pairs declared verdict)

-- the type of a number is a restriction that reaches more pairs than the limit
abbrev pub IsUndecidedAt : SchemaSet → (pairs : ℕ) → List Bool → ℕ → Type 0
IsUndecidedAt schemas pairs restricted number = HoldsAtRestriction schemas restricted number (IsUndecided schemas pairs)

-- the restrictions below a number are sound
abbrev pub AreSoundBelow : SchemaSet → (pairs : ℕ) → List Bool → ℕ → Type 0
AreSoundBelow schemas pairs restricted bound =
    (number : ℕ) (declared : Declared) → number < bound → slice_get schemas.types number ≡ Some declared → is_restricted restricted number ≡ true
    → IsRestriction schemas pairs declared Yes

-- all restrictions are sound; or the first that is not, with its list; or the first that reaches more pairs than the limit
abbrev pub AreJudged : SchemaSet → (pairs : ℕ) → List Bool → Restrictions → Type 0
AreJudged schemas pairs restricted Sound = AreSoundBelow schemas pairs restricted (length schemas.types)
AreJudged schemas pairs restricted (Unsound number list) =
    AreSoundBelow schemas pairs restricted number × IsJudgedAt schemas pairs restricted number (No list)
AreJudged schemas pairs restricted (Undecided number) =
    AreSoundBelow schemas pairs restricted number × IsUndecidedAt schemas pairs restricted number

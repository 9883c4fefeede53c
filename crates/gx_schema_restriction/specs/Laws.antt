-- The laws of restrictions.
use Rattle.std.specs.Prelude.{◌≡◌, ℕ, ◌^◌, ◌<◌, Bool, List}
use Rattle.gx_types.specs.declared.declaration.Declared.{Declared}
use Rattle.gx_types.specs.Derivation.{bases_of}
use Rattle.gx_types.specs.Grounded.{Grounded}
use Rattle.gx_types.specs.SchemaInvariant.{HoldsOfEach}
use Rattle.gx_types.specs.SchemaSet.{SchemaSet}
use Rattle.gx_types.specs.TypeRules.{positions_of}
use Rattle.gx_schema_restriction.specs.declared.restrictions.Restrictions.{Restrictions}
use Rattle.gx_schema_restriction.specs.declared.restrictions.Restrictions.TheVariants.{Sound, Unsound, Undecided}
use Rattle.gx_include.specs.declared.verdict.Verdict.TheVariants.{Yes}
use Rattle.gx_schema_restriction.specs.Restriction.{IsRestriction, children_in}
use Rattle.gx_schema_restriction.specs.Restrictions.{AreJudged}
use Rattle.gx_schema_restriction.specs.SoundRestriction.{IsSoundRestriction}

-- two judgements say the same
abbrev pub IsSameJudgement : Restrictions → Restrictions → Type 0
IsSameJudgement Sound Sound = Unit {0}
IsSameJudgement (Unsound number list) (Unsound other others) = (number ≡ other) × (list.items ≡ others.items)
IsSameJudgement (Undecided number) (Undecided other) = number ≡ other
IsSameJudgement _ _ = ⊥

-- there is one judgement on the restrictions of schemas
abbrev pub JudgementsAreOne : Type 0
JudgementsAreOne =
    (schemas : SchemaSet) (pairs : ℕ) (restricted : List Bool) (one other : Restrictions) → AreJudged schemas pairs restricted one → AreJudged schemas pairs restricted other
    → IsSameJudgement one other

-- the positions of a content can be counted by a machine
abbrev pub IsCountable : Declared → Type 0
IsCountable declared = positions_of (children_in declared.content) < 2 ^ 62

abbrev pub AreCountable : List Declared → Type 0
AreCountable types = HoldsOfEach IsCountable types

-- there is a judgement under each limit
abbrev pub AJudgementExists : Type 0
AJudgementExists =
    (schemas : SchemaSet) (pairs : ℕ) (restricted : List Bool) → Grounded (bases_of schemas) → AreCountable schemas.types → pairs < 2 ^ 62
    → (judgement : Restrictions) × AreJudged schemas pairs restricted judgement

-- a restriction that is answered with Yes is sound
abbrev pub YesMeansSound : Type 0
YesMeansSound = (schemas : SchemaSet) (pairs : ℕ) (declared : Declared) → IsRestriction schemas pairs declared Yes → IsSoundRestriction schemas declared

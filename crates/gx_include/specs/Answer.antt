-- The answer on the inclusion of two types.
use Rattle.std.specs.Prelude.{ℕ, List, Option}
use Rattle.gx_types.specs.SchemaSet.{SchemaSet}
use Rattle.gx_types.specs.SequenceType.{SequenceType}
use Rattle.gx_include_letters.specs.declared.letter.Letter.{Letter}
use Rattle.gx_include.specs.declared.verdict.Verdict.{Verdict}
use Rattle.gx_include.specs.declared.verdict.IncludeError.{IncludeError}
use Rattle.gx_include.specs.declared.verdict.IncludeError.TheVariants.{TooManyPairs, Memory}
use Rattle.gx_include_letters.specs.Alphabet.{IsAlphabet}
use Rattle.gx_include.specs.Verdict.{IsVerdictOver, IsPast}

-- a verdict over the alphabet of both types
pub record IsAnswer (schemas : SchemaSet) (a b : SequenceType) (limit : Option ℕ) (verdict : Verdict) : Type 0 where
  pub letters : List Letter
  pub alphabet : IsAlphabet schemas a b letters
  pub verdict_is : IsVerdictOver schemas a b letters limit verdict

-- over the alphabet of both types more pairs than the limit are reached
pub record ReachesTooManyPairs (schemas : SchemaSet) (a b : SequenceType) (limit : Option ℕ) : Type 0 where
  pub letters : List Letter
  pub alphabet : IsAlphabet schemas a b letters
  pub past : IsPast a b letters limit

-- why there is no verdict; want of memory says nothing
abbrev pub HasNoVerdict : SchemaSet → (a b : SequenceType) → Option ℕ → IncludeError → Type 0
HasNoVerdict schemas a b limit TooManyPairs = ReachesTooManyPairs schemas a b limit
HasNoVerdict schemas a b limit Memory = Unit {0}

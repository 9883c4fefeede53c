-- The answers on inclusion.
use Rattle.std.specs.Prelude.{◌≡◌, ℕ, ◌⊎◌, Bool, true, false, List, length, Option, None, Some}
use Rattle.std.specs.List.{IsDistinct}
use Rattle.gx_types.specs.SchemaSet.{SchemaSet}
use Rattle.gx_types.specs.SequenceType.{SequenceType}
use Rattle.gx_types.specs.Takes.{Takes}
use Rattle.gx_include_letters.specs.declared.letter.Letter.{Letter}
use Rattle.gx_include.specs.declared.verdict.Verdict.{Verdict}
use Rattle.gx_include.specs.declared.verdict.Verdict.TheVariants.{Yes, No}
use Rattle.gx_include.specs.declared.verdict.IncludeError.{IncludeError}
use Rattle.gx_include.specs.declared.verdict.IncludeError.TheVariants.{TooManyPairs, Memory}
use Rattle.gx_include.specs.PairOrder.{same_pair}
use Rattle.gx_include.specs.Pairs.{start_pair, pair_step}
use Rattle.gx_include.specs.Walk.{leads_to, StateAt}
use Rattle.gx_include.specs.Outcome.{exceeds}
use Rattle.gx_include.specs.Runs.{shapes_of, IsFirstRefused}
use Rattle.gx_include.specs.Inclusion.{IsIncluded}

-- a run of letters leads to a pair
abbrev pub IsReached : (a b : SequenceType) → List Letter → List ℕ → ℕ × List Bool → Type 0
IsReached a b letters run pair = leads_to (pair_step a b letters) start_pair run ≡ Some pair

-- there is no limit, or all pairs that are reached stand in a list that is no longer than it
abbrev pub IsWithin : (a b : SequenceType) → List Letter → Option ℕ → Type 0
IsWithin a b letters limit =
    (limit ≡ None)
    ⊎ ((pairs : List (ℕ × List Bool)) × (exceeds limit (length pairs) ≡ false)
    × ((run : List ℕ) (pair : ℕ × List Bool) → IsReached a b letters run pair → (i : ℕ) × StateAt pairs i pair))

-- more different pairs than the limit are reached
pub record IsPast (a b : SequenceType) (letters : List Letter) (limit : Option ℕ) : Type 0 where
  pub pairs : List (ℕ × List Bool)
  pub many : exceeds limit (length pairs) ≡ true
  pub different : IsDistinct same_pair pairs
  pub reached : (i : ℕ) (pair : ℕ × List Bool) → StateAt pairs i pair → (run : List ℕ) × IsReached a b letters run pair

-- a list of shapes that the left type takes and the right type does not: that of the first run of letters that the right type refuses
pub record IsRefutedBy (schemas : SchemaSet) (a b : SequenceType) (letters : List Letter) (run : List ℕ) : Type 0 where
  pub first : IsFirstRefused schemas a b letters run
  pub taken : Takes schemas a (shapes_of letters run)
  pub refused : Takes schemas b (shapes_of letters run) → ⊥

abbrev pub IsVerdictOver : SchemaSet → (a b : SequenceType) → List Letter → Option ℕ → Verdict → Type 0
IsVerdictOver schemas a b letters limit Yes = IsIncluded schemas a b × IsWithin a b letters limit
IsVerdictOver schemas a b letters limit (No list) =
    IsWithin a b letters limit × ((run : List ℕ) × (list.items ≡ shapes_of letters run) × IsRefutedBy schemas a b letters run)

-- why there is no verdict: more pairs than the limit are reached; want of memory says nothing
abbrev pub IsNoVerdictOver : (a b : SequenceType) → List Letter → Option ℕ → IncludeError → Type 0
IsNoVerdictOver a b letters limit TooManyPairs = IsPast a b letters limit
IsNoVerdictOver a b letters limit Memory = Unit {0}

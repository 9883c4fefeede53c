-- The laws of inclusion.
use Rattle.std.specs.Prelude.{◌≡◌, ℕ, ◌+◌, ◌*◌, ◌≤◌, Bool, true, false, List, Option, length, slice_index_or}
use Rattle.std.specs.List.{IsDistinct}
use Rattle.gx_types.specs.declared.shape.Shape.{Shape}
use Rattle.gx_types.specs.SchemaSet.{SchemaSet}
use Rattle.gx_types.specs.Grounded.{Grounded}
use Rattle.gx_types.specs.SequenceType.{SequenceType}
use Rattle.gx_types.specs.TypeRules.{positions_of}
use Rattle.gx_types.specs.Derivation.{bases_of}
use Rattle.gx_include_letters.specs.declared.letter.Letter.{Letter}
use Rattle.gx_include.specs.declared.verdict.Verdict.{Verdict}
use Rattle.gx_include.specs.declared.verdict.Verdict.TheVariants.{Yes, No}
use Rattle.gx_include_letters.specs.Alphabet.{IsAlphabet}
use Rattle.gx_include_letters.specs.WellFormed.{IsWellFormedShape}
use Rattle.gx_include.specs.Answer.{IsAnswer, ReachesTooManyPairs}
use Rattle.gx_include.specs.Inclusion.{IsIncluded}
use Rattle.gx_include.specs.PairOrder.{same_pair}
use Rattle.gx_include_positions.specs.Step.{single, step_over}
use Rattle.gx_include_positions.specs.Test.{is_taken}
use Rattle.gx_include.specs.Walk.{StateAt}
use Rattle.gx_include.specs.Verdict.{IsReached, IsWithin, IsPast}

-- the pairs that are reached are not both past a limit and within it
abbrev pub PastIsNotWithin : Type 0
PastIsNotWithin = (a b : SequenceType) (letters : List Letter) (limit : Option ℕ) → IsPast a b letters limit → IsWithin a b letters limit → ⊥

-- no well-formed shape is taken by two positions that begin a type or that follow one position
abbrev pub IsDeterministic : SchemaSet → SequenceType → Type 0
IsDeterministic schemas b =
    (shape : Shape) → IsWellFormedShape schemas shape → (place one other : ℕ) → slice_index_or (step_over b (is_taken schemas shape) (single place)) one false ≡ true
    → slice_index_or (step_over b (is_taken schemas shape) (single place)) other false ≡ true → one ≡ other

-- where the right type is so, no more pairs are reached than the start and each left position with a right one or none
abbrev pub FewPairsAreReached : Type 0
FewPairsAreReached =
    (schemas : SchemaSet) (a b : SequenceType) (letters : List Letter) → Grounded (bases_of schemas) → IsAlphabet schemas a b letters → IsDeterministic schemas b
    → (pairs : List (ℕ × List Bool)) → IsDistinct same_pair pairs
    → ((i : ℕ) (pair : ℕ × List Bool) → StateAt pairs i pair → (run : List ℕ) × IsReached a b letters run pair)
    → length pairs ≤ 1 + positions_of a * (positions_of b + 1)

abbrev pub IsNo : Verdict → Type 0
IsNo Yes = ⊥
IsNo (No list) = Unit {0}

-- an answer of No excludes inclusion
abbrev pub NoExcludesInclusion : Type 0
NoExcludesInclusion =
    (schemas : SchemaSet) (a b : SequenceType) (limit : Option ℕ) (verdict : Verdict) → IsAnswer schemas a b limit verdict → IsNo verdict → IsIncluded schemas a b → ⊥

-- two verdicts say the same
abbrev pub IsSameVerdict : Verdict → Verdict → Type 0
IsSameVerdict Yes Yes = Unit {0}
IsSameVerdict (No list) (No other) = list.items ≡ other.items
IsSameVerdict _ _ = ⊥

-- there is one answer on two types
abbrev pub AnswersAreOne : Type 0
AnswersAreOne =
    (schemas : SchemaSet) (a b : SequenceType) (limit : Option ℕ) (verdict other : Verdict) → IsAnswer schemas a b limit verdict → IsAnswer schemas a b limit other
    → IsSameVerdict verdict other

-- two types have no verdict where they reach more pairs than the limit
abbrev pub TooManyPairsExcludeVerdicts : Type 0
TooManyPairsExcludeVerdicts =
    (schemas : SchemaSet) (a b : SequenceType) (limit : Option ℕ) (verdict : Verdict) → ReachesTooManyPairs schemas a b limit → IsAnswer schemas a b limit verdict → ⊥

-- That two types have an answer.
use Rattle.std.specs.Prelude.{ℕ, ◌⊎◌, ◌^◌, ◌<◌, Some}
use Rattle.gx_types.specs.SchemaSet.{SchemaSet}
use Rattle.gx_types.specs.Grounded.{Grounded}
use Rattle.gx_types.specs.SequenceType.{SequenceType}
use Rattle.gx_types.specs.TypeRules.{positions_of}
use Rattle.gx_types.specs.Derivation.{bases_of}
use Rattle.gx_include.specs.declared.verdict.Verdict.{Verdict}
use Rattle.gx_include.specs.Answer.{IsAnswer, ReachesTooManyPairs}

-- under each limit two types have a verdict, or reach more pairs, where their positions and the pairs can be counted by a machine
abbrev pub AnAnswerOfTypesExists : Type 0
AnAnswerOfTypesExists =
    (schemas : SchemaSet) (a b : SequenceType) (limit : ℕ) → Grounded (bases_of schemas) → positions_of a < 2 ^ 62 → positions_of b < 2 ^ 62 → limit < 2 ^ 62
    → ReachesTooManyPairs schemas a b (Some limit) ⊎ ((verdict : Verdict) × IsAnswer schemas a b (Some limit) verdict)

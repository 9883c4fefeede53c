-- The laws of texts and the types that they stand for.
use Rattle.std.specs.Prelude.{ℕ, ◌≤◌, ◌⊎◌, List}
use Rattle.gx_base.specs.declared.limits.TheConstants.{TYPE_TEXT_POSITIONS}
use Rattle.gx_types.specs.SchemaSet.{SchemaSet}
use Rattle.gx_types.specs.SequenceType.{SequenceType}
use Rattle.gx_types.specs.TypeRules.{positions_of}
use Rattle.gx_typetext.specs.TypeReading.{IsTypeText}

-- the type of a type text keeps the limit on positions
abbrev pub TypeTextsAreShort : Type 0
TypeTextsAreShort = (schemas : SchemaSet) (text : List ℕ) (t : SequenceType) → IsTypeText schemas text t → positions_of t ≤ TYPE_TEXT_POSITIONS

-- each text stands for a type, or for none
abbrev pub TextsAreJudged : Type 0
TextsAreJudged =
    (schemas : SchemaSet) (text : List ℕ)
    → ((t : SequenceType) × IsTypeText schemas text t) ⊎ ((t : SequenceType) → IsTypeText schemas text t → ⊥)

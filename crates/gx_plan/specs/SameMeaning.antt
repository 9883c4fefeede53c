-- When expressions may stand for one another: where they come to the same.
use Rattle.std.specs.Prelude.{◌≡◌, List, [], ◌∷◌, ◌++◌}
use Rattle.gx_types.specs.SchemaSet.{SchemaSet}
use Rattle.gx_types.specs.SequenceType.{SequenceType}
use Rattle.gx_model.specs.Forest.{Forest}
use Rattle.gx_model.specs.Growth.{Extends}
use Rattle.gx_core.specs.declared.operator.Operator.{Operator}
use Rattle.gx_core.specs.declared.signature.FunctionSignature.{FunctionSignature}
use Rattle.gx_core.specs.Expression.{Parts, no_parts, a_part, annotation_of}
use Rattle.gx_core.specs.Bindings.{Types}
use Rattle.gx_core.specs.Meaning.{CallOutcomes, Denotation, denoted, meaning, meanings}
use Rattle.gx_core.specs.Soundness.{TypedExpression, Setting, calling_setting, context_of, Situation, IsSound}
use Rattle.gx_plan.specs.Compiling.{compiled}
use Rattle.gx_plan.specs.Fitting.{BindsWell}

-- something comes to what an expression comes to, wherever that stands
abbrev pub ComesToTheSame : Setting → Denotation → TypedExpression → Types → Type 0
ComesToTheSame setting other e types =
    (situation : Situation setting types)
    → other situation.bindings situation.forest ≡ meaning (context_of setting) e situation.bindings situation.forest

-- likewise in each forest that has grown from a first one
abbrev pub ComesToTheSameFrom : Setting → (first : Forest) → Denotation → TypedExpression → Types → Type 0
ComesToTheSameFrom setting first other e types =
    (situation : Situation setting types) → Extends first situation.forest
    → other situation.bindings situation.forest ≡ meaning (context_of setting) e situation.bindings situation.forest

-- so do these, each to what one of the parts of an operator comes to, where the variables that the operator binds for it have types too
abbrev pub PartsComeToTheSameFrom : Setting → (first : Forest) → Operator → (before : List SequenceType) → List Denotation → Parts SequenceType
    → Types → Type 0
PartsComeToTheSameFrom setting first operator before [] no_parts types = Unit {0}
PartsComeToTheSameFrom setting first operator before (other ∷ others) (a_part part rest) types =
    ComesToTheSameFrom setting first other part (setting.binders operator before ++ types)
    × PartsComeToTheSameFrom setting first operator (before ++ annotation_of part ∷ []) others rest types
PartsComeToTheSameFrom setting first operator before [] (a_part part rest) types = ⊥
PartsComeToTheSameFrom setting first operator before (other ∷ others) no_parts types = ⊥

-- parts of an operator that binds well may be replaced by what comes to the same from then on
abbrev pub WellBoundPartsMayBeReplaced : Type 0
WellBoundPartsMayBeReplaced =
    (setting : Setting) (operator : Operator) (parts : Parts SequenceType) (others : List Denotation) (types : Types)
    (situation : Situation setting types) → BindsWell setting operator parts types
    → PartsComeToTheSameFrom setting situation.forest operator [] others parts types
    → denoted (context_of setting) operator others situation.bindings situation.forest
    ≡ denoted (context_of setting) operator (meanings (context_of setting) parts) situation.bindings situation.forest

-- what a sound expression is compiled to comes to the same
abbrev pub CompilingKeeps : Type 0
CompilingKeeps =
    (schemas : SchemaSet) (known : List FunctionSignature) (calls : CallOutcomes) (e : TypedExpression) (types : Types)
    → IsSound (calling_setting schemas known calls) e types
    → ComesToTheSame (calling_setting schemas known calls) (meaning (context_of (calling_setting schemas known calls)) (compiled e)) e types

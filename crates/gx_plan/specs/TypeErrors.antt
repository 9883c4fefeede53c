-- Outcomes that are the same but for type errors.
use Rattle.std.specs.Prelude.{◌≡◌, ◌⊎◌, List, [], ◌∷◌}
use Rattle.gx_types.specs.SchemaSet.{SchemaSet}
use Rattle.gx_model.specs.Forest.{Forest}
use Rattle.gx_model.specs.Item.{Items}
use Rattle.gx_core.specs.declared.operator.Operator.{Operator}
use Rattle.gx_core.specs.declared.signature.FunctionSignature.{FunctionSignature}
use Rattle.gx_core.specs.Outcome.{Outcome, wrong}
use Rattle.gx_core.specs.Meaning.{CallOutcomes, Bindings, Denotation, denoted}

-- one outcome is a type error, or it is the same as another
abbrev pub IsSameUnlessWrong : {R : Type 0} → (one other : Outcome R) → Type 0
IsSameUnlessWrong one other = (one ≡ wrong) ⊎ (one ≡ other)

-- so is what one part comes to, wherever it stands
abbrev pub DenotesSameUnlessWrong : (one other : Denotation) → Type 0
DenotesSameUnlessWrong one other = (bindings : Bindings) (forest : Forest) → IsSameUnlessWrong (one bindings forest) (other bindings forest)

-- parts, each as its counterpart
abbrev pub DenoteSameUnlessWrong : (parts others : List Denotation) → Type 0
DenoteSameUnlessWrong [] [] = Unit {0}
DenoteSameUnlessWrong (part ∷ parts) (other ∷ others) = DenotesSameUnlessWrong part other × DenoteSameUnlessWrong parts others
DenoteSameUnlessWrong [] (other ∷ others) = ⊥
DenoteSameUnlessWrong (part ∷ parts) [] = ⊥

-- calls, from any values
abbrev pub CallsAreSameUnlessWrong : (calls others : CallOutcomes) → Type 0
CallsAreSameUnlessWrong calls others =
    (signature : FunctionSignature) (values : List Items) (forest : Forest)
    → IsSameUnlessWrong (calls signature values forest) (others signature values forest)

-- what an operator comes to is the same but for type errors, where its parts and calls of functions are
abbrev pub OperatorsAreSameUnlessWrong : Type 0
OperatorsAreSameUnlessWrong =
    (schemas : SchemaSet) (calls other_calls : CallOutcomes) (operator : Operator) (parts others : List Denotation)
    → CallsAreSameUnlessWrong calls other_calls → DenoteSameUnlessWrong parts others
    → DenotesSameUnlessWrong (denoted (record { schemas = schemas; calls = calls }) operator parts)
    (denoted (record { schemas = schemas; calls = other_calls }) operator others)

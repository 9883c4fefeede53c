-- Where the evaluations of an operator's parts stand: in an honest forest that has grown, under bindings that fit the types of what the
-- operator binds for the part.
use Rattle.std.specs.Prelude.{List, [], ◌∷◌, ◌++◌, take}
use Rattle.std.specs.List.{AllByRecursion}
use Rattle.gx_types.specs.SchemaSet.{SchemaSet}
use Rattle.gx_types.specs.SequenceType.{SequenceType}
use Rattle.gx_model.specs.Forest.{Forest}
use Rattle.gx_model.specs.Honest.{IsHonest}
use Rattle.gx_model.specs.Growth.{Extends}
use Rattle.gx_core.specs.declared.operator.Operator.{Operator}
use Rattle.gx_core.specs.declared.signature.FunctionSignature.{FunctionSignature}
use Rattle.gx_core.specs.Expression.{At, Parts, no_parts, a_part, each_of, annotation_of}
use Rattle.gx_core.specs.Bindings.{Types}
use Rattle.gx_core.specs.Meaning.{CallOutcomes, Denotation, meanings}
use Rattle.gx_core.specs.Evaluations.{PartEvaluation, evaluations}
use Rattle.gx_core.specs.Soundness.{TypedExpression, Setting, calling_setting, context_of, Keeps, Fits, Situation, IsSound}

-- parts keep their types, each where the variables that the operator binds for it have types too; `before` are the types of the parts
-- before these
abbrev pub PartsKeepTheirTypes : Setting → Operator → (before : List SequenceType) → List Denotation → List SequenceType → Types → Type 0
PartsKeepTheirTypes setting operator before [] [] types = Unit {0}
PartsKeepTheirTypes setting operator before (part ∷ parts) (t ∷ ts) types =
    ((situation : Situation setting (setting.binders operator before ++ types))
    → Keeps setting situation.forest t (part situation.bindings situation.forest))
    × PartsKeepTheirTypes setting operator (before ++ t ∷ []) parts ts types
PartsKeepTheirTypes setting operator before [] (t ∷ ts) types = ⊥
PartsKeepTheirTypes setting operator before (part ∷ parts) [] types = ⊥

-- an evaluation of a part stands in an honest forest that has grown, and its bindings fit the types of what the operator binds for the part
pub record FitsAt (setting : Setting) (operator : Operator) (ts : List SequenceType) (types : Types) (before : Forest)
    (evaluation : PartEvaluation) : Type 0 where
  pub grown : Extends before evaluation.forest
  pub honest : IsHonest setting.schemas evaluation.forest
  pub fits : Fits setting.schemas evaluation.forest (setting.binders operator (take evaluation.part ts) ++ types) evaluation.bindings

-- where the parts of an operator keep their types, each evaluation that it asks for fits
abbrev pub EvaluationsFit : Type 0
EvaluationsFit =
    (schemas : SchemaSet) (known : List FunctionSignature) (calls : CallOutcomes) (operator : Operator) (parts : List Denotation)
    (ts : List SequenceType) (types : Types) (situation : Situation (calling_setting schemas known calls) types)
    → PartsKeepTheirTypes (calling_setting schemas known calls) operator [] parts ts types
    → AllByRecursion (FitsAt (calling_setting schemas known calls) operator ts types situation.forest)
    (evaluations (context_of (calling_setting schemas known calls)) operator parts situation.bindings situation.forest)

-- ---- whole expressions

-- wherever an operator over these parts stands, each evaluation that it asks for fits: what it binds belongs to the types of its variables
abbrev pub BindsWell : Setting → Operator → Parts SequenceType → Types → Type 0
BindsWell setting operator parts types =
    (situation : Situation setting types)
    → AllByRecursion (FitsAt setting operator (each_of annotation_of parts) types situation.forest)
    (evaluations (context_of setting) operator (meanings (context_of setting) parts) situation.bindings situation.forest)

-- so does each operator in an expression
abbrev mutual
  pub IsWellBound : Setting → TypedExpression → Types → Type 0
  IsWellBound setting (At place outer kind operator parts) types =
      BindsWell setting operator parts types × PartsAreWellBound setting operator [] parts types

  pub PartsAreWellBound : Setting → Operator → (before : List SequenceType) → Parts SequenceType → Types → Type 0
  PartsAreWellBound setting operator before no_parts types = Unit {0}
  PartsAreWellBound setting operator before (a_part first others) types =
      IsWellBound setting first (setting.binders operator before ++ types)
      × PartsAreWellBound setting operator (before ++ annotation_of first ∷ []) others types

-- where variables have the types that the static rules give them, a sound expression is well bound
abbrev pub SoundExpressionsAreWellBound : Type 0
SoundExpressionsAreWellBound =
    (schemas : SchemaSet) (known : List FunctionSignature) (calls : CallOutcomes) (e : TypedExpression) (types : Types)
    → IsSound (calling_setting schemas known calls) e types → IsWellBound (calling_setting schemas known calls) e types

-- What is judged to have a type is the same tree with its types, and it is sound.
use Rattle.std.proofs.Common.{◌≡◌, List, [], ◌∷◌, ◌++◌, refl, ◌∙◌, ap, subst}
use Rattle.gx_base.specs.declared.place.Place.{Place}
use Rattle.gx_types.specs.SchemaSet.{SchemaSet}
use Rattle.gx_types.specs.SchemaInvariant.{IsSchemaSet}
use Rattle.gx_types.specs.Derivation.{bases_of}
use Rattle.gx_types.specs.Grounded.{Grounded}
use Rattle.gx_types.specs.SequenceType.{SequenceType}
use Rattle.gx_core.specs.declared.expression.BinaryOp.{BinaryOp}
use Rattle.gx_core.specs.declared.expression.BinaryClass.{BinaryClass}
use Rattle.gx_core.specs.declared.expression.BinaryClass.TheVariants as classes
use Rattle.gx_core.specs.BinaryOperators.{class_of}
use Rattle.gx_core.specs.declared.operator.Operator.{Operator}
use Rattle.gx_core.specs.declared.operator.Operator.TheVariants as operators
use Rattle.gx_core.specs.Expression.{CoreExpression, At, Parts, no_parts, a_part, each_of, annotation_of, plain_parts}
use Rattle.gx_core.specs.Bindings.{Types, types_bound}
use Rattle.gx_core.specs.declared.signature.FunctionSignature.{FunctionSignature}
use Rattle.gx_core.specs.CalledFunctions.{AllCallsInParts}
use Rattle.gx_core.specs.Meaning.{CallOutcomes}
use Rattle.gx_core.specs.Soundness.{calling_setting, PartsAreSound}
use Rattle.gx_static.proofs.CalledTyping.{keeps_its_type}
use Rattle.gx_static.specs.Rule.{Ruling, has_type, has_none, ruling}
use Rattle.gx_static.specs.Judgement.{Judged, typed, rejected, with_typed, concluded, judged, parts_judged}
use Rattle.gx_static.specs.Laws.{ActsKeepType, PartsKeepTypes, OperatorKeepsType, IsTypedSoundly, TypingIsSound}
use Rattle.gx_static.proofs.Keeping.{literal_keeps, variable_keeps, empty_keeps, sequence_keeps, let_keeps, data_keeps, strict_keeps}
use Rattle.gx_static.proofs.Loops.{for_keeps}
use Rattle.gx_static.proofs.Quantifiers.{some_keeps, every_keeps}
use Rattle.gx_static.proofs.Blocks.{block_keeps}
use Rattle.gx_static.proofs.Paths.{step_keeps, nodes_keep, no_context_keeps}
use Rattle.gx_static.proofs.Orders.{order_keeps}
use Rattle.gx_static.proofs.Arithmetic.{arithmetic_keeps, negation_keeps}
use Rattle.gx_static.proofs.Comparisons.{value_comparison_keeps, general_comparison_keeps}
use Rattle.gx_static.proofs.Ranges.{range_keeps}
use Rattle.gx_static.proofs.NodeComparisons.{node_comparison_keeps}
use Rattle.gx_static.proofs.NodeSets.{node_set_keeps}
use Rattle.gx_static.proofs.Conditionals.{conditional_keeps}
use Rattle.gx_static.proofs.Picking.{nth_keeps, final_keeps}
use Rattle.gx_static.proofs.Switches.{switch_keeps}
use Rattle.gx_static.proofs.Casts.{cast_keeps, castable_keeps}
use Rattle.gx_static.proofs.Treating.{treat_keeps}
use Rattle.gx_static.proofs.Calls.{call_keeps}
use Rattle.gx_static.proofs.ConstructorTypes.{constructor_keeps}
use Rattle.gx_static.proofs.UserCalls.{user_keeps}

binary_keeps : (s : SchemaSet) → Grounded (bases_of s) → (operator : BinaryOp) (class : BinaryClass) → class_of operator ≡ class → ActsKeepType s (operators.Binary operator)
binary_keeps s g operator (classes.Arithmetic operation) e = arithmetic_keeps operation s operator e
binary_keeps s g operator (classes.Value op) e = value_comparison_keeps op s operator e
binary_keeps s g operator (classes.General op) e = general_comparison_keeps op s operator e
binary_keeps s g operator (classes.Nodes op) e = node_comparison_keeps op s operator g e
binary_keeps s g operator classes.Range e = range_keeps s operator e
binary_keeps s g operator (classes.Combination op) e = node_set_keeps op s operator g e

-- the laws of all operators
operator_keeps : (s : SchemaSet) → IsSchemaSet s → (operator : Operator) → OperatorKeepsType s operator
operator_keeps s is (operators.Var number) = variable_keeps s number
operator_keeps s is (operators.For binder position) = for_keeps s binder position
operator_keeps s is (operators.SomeIn binder) = some_keeps s binder
operator_keeps s is (operators.EveryIn binder) = every_keeps s binder
operator_keeps s is (operators.Block clauses keys) = block_keeps s clauses keys
operator_keeps s is (operators.Let binder) = let_keeps s binder
operator_keeps s is (operators.Step axis asks number) = step_keeps s axis asks number is
operator_keeps s is operators.Nodes =
    strict_keeps s operators.Nodes (record { denotes = λ k ps bs f. refl; binds_nothing = λ before. refl; ruled = λ s ps types. refl; silent = λ s calls values f. refl }) (nodes_keep s is.grounded)
operator_keeps s is operators.Order =
    strict_keeps s operators.Order (record { denotes = λ k ps bs f. refl; binds_nothing = λ before. refl; ruled = λ s ps types. refl; silent = λ s calls values f. refl }) (order_keeps s is.grounded)
operator_keeps s is operators.NoContext =
    strict_keeps s operators.NoContext (record { denotes = λ k ps bs f. refl; binds_nothing = λ before. refl; ruled = λ s ps types. refl; silent = λ s calls values f. refl }) (no_context_keeps s)
operator_keeps s is (operators.Lit value) =
    strict_keeps s (operators.Lit value) (record { denotes = λ k ps bs f. refl; binds_nothing = λ before. refl; ruled = λ s ps types. refl; silent = λ s calls values f. refl }) (literal_keeps s value)
operator_keeps s is operators.Empty =
    strict_keeps s operators.Empty (record { denotes = λ k ps bs f. refl; binds_nothing = λ before. refl; ruled = λ s ps types. refl; silent = λ s calls values f. refl }) (empty_keeps s)
operator_keeps s is operators.Seq =
    strict_keeps s operators.Seq (record { denotes = λ k ps bs f. refl; binds_nothing = λ before. refl; ruled = λ s ps types. refl; silent = λ s calls values f. refl }) (sequence_keeps s)
operator_keeps s is (operators.Switch cases default) = switch_keeps s cases default
operator_keeps s is (operators.Nth number backwards) =
    strict_keeps s (operators.Nth number backwards) (record { denotes = λ k ps bs f. refl; binds_nothing = λ before. refl; ruled = λ s ps types. refl; silent = λ s calls values f. refl }) (nth_keeps s number backwards)
operator_keeps s is (operators.Final backwards) =
    strict_keeps s (operators.Final backwards) (record { denotes = λ k ps bs f. refl; binds_nothing = λ before. refl; ruled = λ s ps types. refl; silent = λ s calls values f. refl }) (final_keeps s backwards)
operator_keeps s is operators.DataOf =
    strict_keeps s operators.DataOf (record { denotes = λ k ps bs f. refl; binds_nothing = λ before. refl; ruled = λ s ps types. refl; silent = λ s calls values f. refl }) (data_keeps s is)
operator_keeps s is operators.If = conditional_keeps s
operator_keeps s is (operators.Cast kind allows_empty) =
    strict_keeps s (operators.Cast kind allows_empty) (record { denotes = λ k ps bs f. refl; binds_nothing = λ before. refl; ruled = λ s ps types. refl; silent = λ s calls values f. refl }) (cast_keeps s kind allows_empty)
operator_keeps s is (operators.Castable kind allows_empty) =
    strict_keeps s (operators.Castable kind allows_empty) (record { denotes = λ k ps bs f. refl; binds_nothing = λ before. refl; ruled = λ s ps types. refl; silent = λ s calls values f. refl }) (castable_keeps s kind allows_empty)
operator_keeps s is (operators.Treat kind) =
    strict_keeps s (operators.Treat kind) (record { denotes = λ k ps bs f. refl; binds_nothing = λ before. refl; ruled = λ s ps types. refl; silent = λ s calls values f. refl }) (treat_keeps s kind)
operator_keeps s is (operators.Call function) =
    strict_keeps s (operators.Call function) (record { denotes = λ k ps bs f. refl; binds_nothing = λ before. refl; ruled = λ s ps types. refl; silent = λ s calls values f. refl }) (call_keeps s function is)
operator_keeps s is (operators.Construct constructor count) =
    strict_keeps s (operators.Construct constructor count) (record { denotes = λ k ps bs f. refl; binds_nothing = λ before. refl; ruled = λ s ps types. refl; silent = λ s calls values f. refl })
    (constructor_keeps s constructor count is)
operator_keeps s is (operators.User signature count) = user_keeps s signature count is
operator_keeps s is operators.Neg =
    strict_keeps s operators.Neg (record { denotes = λ k ps bs f. refl; binds_nothing = λ before. refl; ruled = λ s ps types. refl; silent = λ s calls values f. refl }) (negation_keeps s)
operator_keeps s is (operators.Binary operator) =
    strict_keeps s (operators.Binary operator) (record { denotes = λ k ps bs f. refl; binds_nothing = λ before. refl; ruled = λ s ps types. refl; silent = λ s calls values f. refl }) (binary_keeps s is.grounded operator (class_of operator) refl)

-- what holds of what has types, if there is something
abbrev pub IfTyped : {R : Type 0} → (R → Type 0) → Judged R → Type 0
IfTyped Fact (typed result) = Fact result
IfTyped Fact (rejected place code) = Unit {0}

-- something that has types, and what is made of it
pub made_holds : {R S : Type 0} (j : Judged R) (next : R → Judged S) (P : R → Type 0) (Q : S → Type 0) → IfTyped P j → ((x : R) → P x → IfTyped Q (next x)) → IfTyped Q (with_typed j next)
made_holds (typed x) next P Q h f = f x h
made_holds (rejected place code) next P Q h f = tt

record AreTypedSoundly (s : SchemaSet) (operator : Operator) (before : List SequenceType) (parts : Parts (Unit {0})) (types : Types) (ts : Parts SequenceType) : Type 0 where
  same : plain_parts ts ≡ parts
  sound : (known : List FunctionSignature) (calls : CallOutcomes) → AllCallsInParts known ts → PartsAreSound (calling_setting s known calls) operator before ts types

parts_keep : (s : SchemaSet) (known : List FunctionSignature) (calls : CallOutcomes) (operator : Operator) (before : List SequenceType) (ts : Parts SequenceType) (types : Types)
    → PartsAreSound (calling_setting s known calls) operator before ts types → PartsKeepTypes s known calls operator before ts types
parts_keep s known calls operator before no_parts types h = tt
parts_keep s known calls operator before (a_part t ts) types h = (keeps_its_type (calling_setting s known calls) t (types_bound operator before ++ types) h.0, parts_keep s known calls operator (before ++ annotation_of t ∷ []) ts types h.1)

-- an operator whose parts are sound, with the type of its rule
concluded_holds : (s : SchemaSet) → IsSchemaSet s → (place outer : Place) (operator : Operator) (parts : Parts (Unit {0})) (types : Types) (ts : Parts SequenceType) (r : Ruling) → ruling s operator (each_of annotation_of ts) types ≡ r
    → AreTypedSoundly s operator [] parts types ts → IfTyped (IsTypedSoundly s (At place outer tt operator parts) types) (concluded place outer operator ts r)
concluded_holds s is place outer operator parts types ts (has_type t) e h = record {
  same = ap (At place outer tt operator) h.same;
  sound = λ known calls all. (
    operator_keeps s is operator known calls ts types place outer t e all.0 (parts_keep s known calls operator [] ts types (h.sound known calls all.1)),
    h.sound known calls all.1,
  );
}
concluded_holds s is place outer operator parts types ts (has_none code part) e h = tt

mutual
  pub judged_holds : (s : SchemaSet) → IsSchemaSet s → (e : CoreExpression) (types : Types) → IfTyped (IsTypedSoundly s e types) (judged s e types)
  judged_holds s is (At place outer tt operator parts) types =
      made_holds (parts_judged s operator [] parts types) (λ ts. concluded place outer operator ts (ruling s operator (each_of annotation_of ts) types))
      (AreTypedSoundly s operator [] parts types) (IsTypedSoundly s (At place outer tt operator parts) types) (parts_hold s is operator [] parts types)
      (λ ts h. concluded_holds s is place outer operator parts types ts (ruling s operator (each_of annotation_of ts) types) refl h)

  parts_hold : (s : SchemaSet) → IsSchemaSet s → (operator : Operator) (before : List SequenceType) (parts : Parts (Unit {0})) (types : Types) → IfTyped (AreTypedSoundly s operator before parts types) (parts_judged s operator before parts types)
  parts_hold s is operator before no_parts types = record { same = refl; sound = λ known calls all. tt }
  parts_hold s is operator before (a_part first others) types =
      made_holds (judged s first (types_bound operator before ++ types)) (λ t. with_typed (parts_judged s operator (before ++ annotation_of t ∷ []) others types) (λ ts. typed (a_part t ts)))
      (IsTypedSoundly s first (types_bound operator before ++ types)) (AreTypedSoundly s operator before (a_part first others) types) (judged_holds s is first (types_bound operator before ++ types))
      (λ t h. made_holds (parts_judged s operator (before ++ annotation_of t ∷ []) others types) (λ ts. typed (a_part t ts))
      (AreTypedSoundly s operator (before ++ annotation_of t ∷ []) others types) (AreTypedSoundly s operator before (a_part first others) types) (parts_hold s is operator (before ++ annotation_of t ∷ []) others types)
      (λ ts k. record { same = ap (λ e. a_part e (plain_parts ts)) h.same ∙ ap (a_part first) k.same; sound = λ known calls all. (h.sound known calls all.0, k.sound known calls all.1) }))

pub sound : TypingIsSound
sound s e types t is j = subst (IfTyped (IsTypedSoundly s e types)) j (judged_holds s is e types)

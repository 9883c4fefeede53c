-- Typing rejects with the codes of static errors alone.
use Rattle.std.proofs.Common.{◌≡◌, ℕ, zero, suc, ◌+◌, replicate, Bool, true, false, ◌&&◌, List, [], ◌∷◌, ◌++◌, Option, None, Some, refl, subst, if◌then◌else◌}
use Rattle.std.specs.Prelude.{not}
use Rattle.gx_base.specs.declared.name.Name.{Name}
use Rattle.gx_base.specs.declared.place.Place.{Place}
use Rattle.gx_base.specs.declared.code.Code.{Code}
use Rattle.gx_base.specs.declared.code.Code.TheVariants.{XPST0005, XPTY0004, XPTY0018, XPTY0019, XPTY0020, XQTY0024, FOTY0012}
use Rattle.gx_base.specs.Code.{is_static}
use Rattle.gx_base.specs.declared.type_name.Builtin.{Builtin}
use Rattle.gx_types.specs.declared.item_type.ItemType.TheVariants as items
use Rattle.gx_base.specs.declared.type_name.Builtin.TheVariants.{UntypedAtomic}
use Rattle.gx_base.specs.declared.type_name.TypeName.{TypeName}
use Rattle.gx_base.specs.declared.type_name.TypeName.TheVariants as names
use Rattle.gx_types.specs.SchemaSet.{SchemaSet}
use Rattle.gx_types.specs.declared.step.Axis.{Axis}
use Rattle.gx_types.specs.declared.step.Test.{Test}
use Rattle.gx_types.specs.SequenceType.{SequenceType, never, nothing, item}
use Rattle.gx_types.specs.SameType.{same_type}
use Rattle.gx_types.specs.Occurrence.{occurrence_of}
use Rattle.gx_types.specs.Prime.{prime_of}
use Rattle.gx_types.specs.TypeRules.{times_of}
use Rattle.gx_include.specs.Decision.{is_included}
use Rattle.gx_steptype.specs.StepType.{node_type, step_type}
use Rattle.gx_steptype.specs.DataType.{has_data, type_of_data}
use Rattle.gx_funcs.specs.declared.function.Function.{Function}
use Rattle.gx_funcs.specs.declared.function.Function.TheVariants as functions
use Rattle.gx_funcs.specs.declared.function.Parameter.{Parameter}
use Rattle.gx_funcs.specs.declared.function.ParameterType.{ParameterType}
use Rattle.gx_funcs.specs.declared.function.ParameterType.TheVariants as parameters
use Rattle.gx_funcs.specs.declared.text_function.TextFunction.{TextFunction}
use Rattle.gx_funcs.specs.declared.text_function.TextFunction.TheVariants as texts
use Rattle.gx_funcs.specs.declared.value_function.ValueFunction.{ValueFunction}
use Rattle.gx_funcs.specs.declared.value_function.ValueFunction.TheVariants as values
use Rattle.gx_funcs.specs.declared.function.Conversion.{Conversion}
use Rattle.gx_funcs.specs.declared.function.Conversion.TheVariants.{Nothing, Data, DataAndCast}
use Rattle.gx_funcs.specs.declared.item_function.ItemFunction.{ItemFunction}
use Rattle.gx_funcs.specs.declared.item_function.ItemFunction.TheVariants as over_items
use Rattle.gx_funcs.specs.Function.{parameters_of, text_parameters_of, value_at_most, value_parameters_of, item_parameters_of, value_function_of, item_function_of, conversion_of}
use Rattle.gx_core.specs.declared.expression.BinaryClass.{BinaryClass}
use Rattle.gx_core.specs.declared.expression.BinaryClass.TheVariants as classes
use Rattle.gx_core.specs.declared.expression.Binder.{Binder}
use Rattle.gx_core.specs.declared.expression.Declaration.TheVariants.{Global}
use Rattle.gx_core.specs.declared.expression.Declaration.TheVariants as declarations
use Rattle.gx_core.specs.BinaryOperators.{class_of}
use Rattle.gx_types.specs.Occurs.{Occurs}
use Rattle.gx_sorting.specs.declared.keys.KeyOrder.{KeyOrder}
use Rattle.gx_core.specs.declared.operator.ClauseKind.{ClauseKind}
use Rattle.gx_core.specs.declared.operator.Operator.{Operator}
use Rattle.gx_core.specs.declared.constructor.Constructor.{Constructor}
use Rattle.gx_core.specs.declared.constructor.Constructor.TheVariants as constructors
use Rattle.gx_core.specs.declared.operator.Operator.TheVariants as operators
use Rattle.gx_core.specs.Queries.{Core, TypedCore, CoreDeclaration}
use Rattle.gx_core.specs.Expression.{CoreExpression, At, Parts, no_parts, a_part, each_of, annotation_of, outer_of}
use Rattle.gx_core.specs.Bindings.{look_up, Types, types_bound}
use Rattle.gx_core.specs.QueryMeaning.{global_types, types_declared, parameter_types}
use Rattle.gx_core.specs.Soundness.{TypedExpression}
use Rattle.gx_core.specs.Converting.{expected_atomic}
use Rattle.gx_static.specs.Rule.{included_ruling, result_rule, cast_ruling, converted_ruling, converted_type, converted_arguments_rule, if_atomized, if_all_atomized, constructor_rule, called_type, Ruling, has_type, has_none, all_items, is_atomic, is_as_written, nodes_type, step_rule, reaching, step_ruling, order_rule, data_rule, binary_rule, takes_argument, arguments_rule, answer_rule, call_rule, ruling, variable_ruling, allows_clause, allows_key, tuples_occur, returned_rule, clauses_rule, if_taken, seen_argument, constructed_text, type_by, answer_ruling, call_answer_ruling}
use Rattle.gx_static.specs.Judgement.{typed, rejected, with_typed, concluded, judged, parts_judged}
use Rattle.gx_settling.specs.Reaching.{function_uses}
use Rattle.gx_static.specs.QueryJudgement.{declared_as, declared_where, function_with, declaration_judged, declarations_judged, core_typed, first_unsettled, unless_unsettled, core_judged, QueriesAreRejectedWithStaticCodes}
use Rattle.gx_static.specs.Laws.{ExpressionsAreRejectedWithStaticCodes}
use Rattle.gx_static.proofs.Failing.{IfRejected, made_fails, own_fails}
use Rattle.gx_static.proofs.QueryLaws.{whole_rejected}

abbrev IsStatic : Place → Code → Type 0
IsStatic place code = is_static code ≡ true

-- a type, or the code of a static error
abbrev RulesStatically : Ruling → Type 0
RulesStatically (has_type type) = Unit {0}
RulesStatically (has_none code part) = is_static code ≡ true

ruled_code : (r : Ruling) → RulesStatically r → (code : Code) (part : Option ℕ) → r ≡ has_none code part → is_static code ≡ true
ruled_code (has_type type) h code part e = absurd (cc)
ruled_code (has_none other there) h code part e = let same : other ≡ code = cc in subst (λ (c : Code). is_static c ≡ true) same h

-- a test decides whether there is a type
static_test : (test : Bool) (t : SequenceType) (code : Code) → is_static code ≡ true → RulesStatically (if test then has_type t else has_none code None)
static_test true t code h = tt
static_test false t code h = h

static_choice : (test : Bool) (chosen otherwise : Ruling) → RulesStatically chosen → RulesStatically otherwise → RulesStatically (if test then chosen else otherwise)
static_choice true chosen otherwise h k = h
static_choice false chosen otherwise h k = k

static_binary : (s : SchemaSet) (class : BinaryClass) (t u : SequenceType) → RulesStatically (binary_rule s class t u)
static_binary s (classes.Arithmetic operation) t u = static_test _ _ XPTY0004 refl
static_binary s (classes.Value op) t u = static_test _ _ XPTY0004 refl
static_binary s (classes.General op) t u = static_test _ _ XPTY0004 refl
static_binary s (classes.Nodes op) t u = static_test _ _ XPTY0004 refl
static_binary s classes.Range t u = static_test _ _ XPTY0004 refl
static_binary s (classes.Combination op) t u = static_test _ _ XPTY0004 refl

static_order : (s : SchemaSet) (t : SequenceType) → RulesStatically (order_rule s t)
static_order s t =
    static_choice (is_included s t nodes_type) (has_type (times_of (prime_of t) (occurrence_of t))) (if all_items is_atomic t then has_type t else has_none XPTY0018 None) tt
    (static_test (all_items is_atomic t) t XPTY0018 refl)

static_data : (s : SchemaSet) (t : SequenceType) → RulesStatically (data_rule s t)
unfolding data_rule
static_data s t = static_test (has_data s t) (type_of_data s t) FOTY0012 refl

-- ---- variables and steps

static_variable : (s : SchemaSet) (number : ℕ) (found : Option SequenceType) → RulesStatically (variable_ruling s number found)
static_variable s number None = refl
static_variable s number (Some t) = tt

static_reaching : (context : SequenceType) (r : Ruling) → RulesStatically r → RulesStatically (reaching context r)
static_reaching context (has_type given) h =
    static_choice (same_type nothing given && not (same_type never context)) (has_none XPST0005 None) (has_type given) refl tt
static_reaching context (has_none code part) h = h

static_step_rule : (s : SchemaSet) (axis : Axis) (asks : Test) (context : SequenceType) → RulesStatically (step_rule s axis asks context)
static_step_rule s axis asks context = static_test (is_included s context node_type) (step_type s axis asks context) XPTY0020 refl

static_step : (s : SchemaSet) (axis : Axis) (asks : Test) (number : ℕ) (found : Option SequenceType) → RulesStatically (step_ruling s axis asks number found)
static_step s axis asks number None = refl
static_step s axis asks number (Some context) = static_reaching context (step_rule s axis asks context) (static_step_rule s axis asks context)

-- ---- calls

-- parameters with the codes of static errors
abbrev HaveStaticCodes : List Parameter → Type 0
HaveStaticCodes [] = Unit {0}
HaveStaticCodes (p ∷ ps) = (is_static p.code ≡ true) × HaveStaticCodes ps

values_static : (count : ℕ) → HaveStaticCodes (replicate count value_at_most)
values_static zero = tt
values_static (suc count) = (refl, values_static count)

text_parameters_static : (function : TextFunction) → HaveStaticCodes (text_parameters_of function)
text_parameters_static texts.StringLength = (refl, tt)
text_parameters_static texts.NormalizeSpace = (refl, tt)
text_parameters_static (texts.Concat count) = values_static count
text_parameters_static texts.Translate = (refl, (refl, (refl, tt)))
text_parameters_static _ = (refl, (refl, tt))

value_parameters_static : (function : ValueFunction) → HaveStaticCodes (value_parameters_of function)
value_parameters_static values.Substring = (refl, (refl, (refl, tt)))
value_parameters_static values.SubstringFrom = (refl, (refl, tt))
value_parameters_static values.Compare = (refl, (refl, tt))
value_parameters_static values.NormalizeTo = (refl, (refl, tt))
value_parameters_static values.IndexOf = (refl, (refl, tt))
value_parameters_static _ = (refl, tt)

item_parameters_static : (function : ItemFunction) → HaveStaticCodes (item_parameters_of function)
item_parameters_static over_items.SubsequenceFrom = (refl, (refl, tt))
item_parameters_static over_items.Subsequence = (refl, (refl, (refl, tt)))
item_parameters_static over_items.Remove = (refl, (refl, tt))
item_parameters_static over_items.InsertBefore = (refl, (refl, (refl, tt)))
item_parameters_static over_items.DeepEqual = (refl, (refl, tt))
item_parameters_static over_items.Error = tt
item_parameters_static _ = (refl, tt)

parameters_static : (function : Function) → HaveStaticCodes (parameters_of function)
parameters_static functions.True = tt
parameters_static functions.False = tt
parameters_static functions.Position = tt
parameters_static functions.Last = tt
parameters_static (functions.OfTexts function) = text_parameters_static function
parameters_static (functions.OfValues function) = value_parameters_static function
parameters_static (functions.OfItems function) = item_parameters_static function
parameters_static _ = (refl, tt)

static_answer : (found : Option Builtin) → RulesStatically (answer_rule found)
static_answer None = refl
static_answer (Some b) = tt

static_cast : (kind : TypeName) (r : Ruling) → RulesStatically r → RulesStatically (cast_ruling kind r)
static_cast kind (has_type t) h = tt
static_cast kind (has_none code part) h = h

static_seen : (s : SchemaSet) (takes : ParameterType) (t : SequenceType) → RulesStatically (seen_argument s takes t)
static_seen s takes t = by_conversion (conversion_of takes)
  where
    by_conversion : (conversion : Conversion) → RulesStatically (type_by s conversion t)
    by_conversion Nothing = tt
    by_conversion Data = static_data s t
    by_conversion (DataAndCast kind) = static_cast (names.Builtin kind) (data_rule s t) (static_data s t)

static_taken : (takes : SequenceType → Bool) (code : Code) (number : ℕ) (next seen : Ruling) → is_static code ≡ true → RulesStatically seen → RulesStatically next
    → RulesStatically (if_taken takes code number next seen)
static_taken takes code number next (has_type t) c h k = static_choice (takes t) next (has_none code (Some number)) k c
static_taken takes code number next (has_none other part) c h k = h

static_arguments : (s : SchemaSet) (ps : List Parameter) (ts : List SequenceType) (number : ℕ) (r : Ruling) → HaveStaticCodes ps → RulesStatically r → RulesStatically (arguments_rule s ps ts number r)
static_arguments s [] [] number r h k = k
static_arguments s [] (t ∷ ts) number r h k = refl
static_arguments s (p ∷ ps) [] number r h k = refl
static_arguments s (p ∷ ps) (t ∷ ts) number r h k =
    static_taken (takes_argument s p.takes) p.code number (arguments_rule s ps ts (number + 1) r) (seen_argument s p.takes t) h.0 (static_seen s p.takes t) (static_arguments s ps ts (number + 1) r h.1 k)

static_call : (s : SchemaSet) (function : Function) (ts : List SequenceType) → RulesStatically (call_rule s function ts)
unfolding call_rule
static_call s function ts =
    static_arguments s (parameters_of function) ts 0 (call_answer_ruling s function ts) (parameters_static function)
    (static_ruled (value_function_of function) (item_function_of function))
  where
    static_ruled : (over_values : Option ValueFunction) (of_items : Option ItemFunction) → RulesStatically (answer_ruling s over_values of_items function ts)
    static_ruled None None = static_answer (called_type function)
    static_ruled None (Some of_items) = tt
    static_ruled (Some over_values) of_items = tt

-- ---- calls of declared functions

static_conversion : (s : SchemaSet) (o : Option TypeName) (t : SequenceType) → RulesStatically (converted_ruling s o t)
static_conversion s None t = tt
static_conversion s (Some kind) t = static_cast kind (data_rule s t) (static_data s t)

pub static_converted : (s : SchemaSet) (expected t : SequenceType) → RulesStatically (converted_type s expected t)
unfolding converted_type
static_converted s expected t = static_conversion s (expected_atomic expected) t

static_converted_arguments : (s : SchemaSet) (parameters ts : List SequenceType) (number : ℕ) (r : Ruling) → RulesStatically r → RulesStatically (converted_arguments_rule s parameters ts number r)
static_converted_arguments s [] [] number r h = h
static_converted_arguments s [] (t ∷ ts) number r h = refl
static_converted_arguments s (p ∷ parameters) [] number r h = refl
static_converted_arguments s (p ∷ parameters) (t ∷ ts) number r h =
    static_taken (λ u. is_included s u p) XPTY0004 number (converted_arguments_rule s parameters ts (number + 1) r) (converted_type s p t) refl (static_converted s p t)
    (static_converted_arguments s parameters ts (number + 1) r h)

-- ---- blocks

static_returned : (s : SchemaSet) (orders : List KeyOrder) (tuples : Occurs) (ts : List SequenceType) → RulesStatically (returned_rule (allows_key s) orders tuples ts)
static_returned s [] tuples [] = refl
static_returned s [] tuples (t ∷ []) = tt
static_returned s [] tuples (t ∷ u ∷ ts) = refl
static_returned s (order ∷ orders) tuples [] = refl
static_returned s (order ∷ orders) tuples (t ∷ ts) =
    static_choice (allows_key s t) (returned_rule (allows_key s) orders tuples ts) (has_none XPTY0004 None) (static_returned s orders tuples ts) refl

static_clauses : (s : SchemaSet) (clauses : List ClauseKind) (orders : List KeyOrder) (tuples : Occurs) (number : ℕ) (ts : List SequenceType)
    → RulesStatically (clauses_rule (allows_clause s) clauses number (returned_rule (allows_key s) orders tuples) ts)
static_clauses s [] orders tuples number ts = static_returned s orders tuples ts
static_clauses s (kind ∷ clauses) orders tuples number [] = refl
static_clauses s (kind ∷ clauses) orders tuples number (t ∷ ts) =
    static_choice (allows_clause s kind t) (clauses_rule (allows_clause s) clauses (number + 1) (returned_rule (allows_key s) orders tuples) ts) (has_none XPTY0004 (Some number))
    (static_clauses s clauses orders tuples (number + 1) ts) refl

-- ---- constructors

static_atomized : (r : Ruling) (number : ℕ) (next : SequenceType → Ruling) → RulesStatically r → ((t : SequenceType) → RulesStatically (next t)) → RulesStatically (if_atomized r number next)
static_atomized (has_type t) number next h k = k t
static_atomized (has_none code part) number next h k = h

static_all_atomized : (s : SchemaSet) (ts : List SequenceType) (number : ℕ) (r : Ruling) → RulesStatically r → RulesStatically (if_all_atomized s ts number r)
static_all_atomized s [] number r h = h
static_all_atomized s (t ∷ ts) number r h =
    static_atomized (data_rule s t) number (λ u. if_all_atomized s ts (number + 1) r) (static_data s t) (λ u. static_all_atomized s ts (number + 1) r h)

static_constructor : (s : SchemaSet) (constructor : Constructor) (ts : List SequenceType) → RulesStatically (constructor_rule s constructor ts)
static_constructor s (constructors.Element name) ts = static_test _ _ XQTY0024 refl
static_constructor s (constructors.Attribute name) ts = static_all_atomized s ts 0 (has_type (item (items.Attribute (Some name) (names.Builtin UntypedAtomic)))) tt
static_constructor s constructors.Text (t ∷ []) = static_atomized (data_rule s t) 0 (λ values. has_type (constructed_text values)) (static_data s t) (λ values. tt)
static_constructor s constructors.Document (t ∷ []) = static_test _ _ XPTY0004 refl
static_constructor s _ ts = refl

-- ---- each operator

static_ruling : (s : SchemaSet) (operator : Operator) (ts : List SequenceType) (types : Types) → RulesStatically (ruling s operator ts types)
static_ruling s (operators.Var number) [] types = static_variable s number (look_up types number)
static_ruling s (operators.Lit value) [] types = static_test _ _ XPTY0004 refl
static_ruling s operators.Empty [] types = tt
static_ruling s operators.Seq (t ∷ u ∷ []) types = tt
static_ruling s (operators.For binder position) (t ∷ u ∷ []) types = static_test _ _ XPTY0004 refl
static_ruling s (operators.SomeIn binder) (t ∷ u ∷ []) types = static_test _ _ XPTY0004 refl
static_ruling s (operators.EveryIn binder) (t ∷ u ∷ []) types = static_test _ _ XPTY0004 refl
static_ruling s (operators.Step axis asks number) [] types = static_step s axis asks number (look_up types number)
static_ruling s operators.Nodes (t ∷ []) types = static_test _ _ XPTY0019 refl
static_ruling s operators.Order (t ∷ []) types = static_order s t
static_ruling s (operators.Block clauses keys) ts types = static_clauses s clauses keys (tuples_occur clauses ts) 0 ts
static_ruling s (operators.Let binder) (t ∷ u ∷ []) types = static_test _ _ XPTY0004 refl
static_ruling s (operators.Switch cases default) (t ∷ ts) types = static_test _ _ XPTY0004 refl
static_ruling s (operators.Nth number backwards) (t ∷ []) types = tt
static_ruling s (operators.Final backwards) (t ∷ []) types = tt
static_ruling s operators.DataOf (t ∷ []) types = static_data s t
static_ruling s operators.If (t ∷ u ∷ v ∷ []) types = static_test _ _ XPTY0004 refl
static_ruling s (operators.Cast kind allows_empty) (t ∷ []) types = static_test _ _ XPTY0004 refl
static_ruling s (operators.Castable kind allows_empty) (t ∷ []) types = static_test _ _ XPTY0004 refl
static_ruling s (operators.Treat kind) (t ∷ []) types = tt
static_ruling s (operators.Call function) ts types = static_call s function ts
static_ruling s (operators.Construct constructor count) ts types = static_constructor s constructor ts
static_ruling s (operators.User signature count) ts types = static_converted_arguments s signature.parameters ts 0 (has_type signature.result) tt
static_ruling s operators.Neg (t ∷ []) types = static_test _ _ XPTY0004 refl
static_ruling s (operators.Binary operator) (t ∷ u ∷ []) types = static_binary s (class_of operator) t u
static_ruling s operators.NoContext [] types = refl
static_ruling s _ _ types = refl

-- ---- expressions

mutual
  static_expression : (s : SchemaSet) (e : CoreExpression) (types : Types) → IfRejected IsStatic (judged s e types)
  static_expression s (At own outer tt operator parts) types =
      made_fails (parts_judged s operator [] parts types) (λ ts. concluded own outer operator ts (ruling s operator (each_of annotation_of ts) types))
      IsStatic IsStatic (static_parts s operator [] parts types) (λ place code k. k)
      (λ ts e. own_fails own outer operator ts (ruling s operator (each_of annotation_of ts) types) IsStatic
      (λ code part r. ruled_code (ruling s operator (each_of annotation_of ts) types) (static_ruling s operator (each_of annotation_of ts) types) code part r))

  static_parts : (s : SchemaSet) (operator : Operator) (before : List SequenceType) (parts : Parts (Unit {0})) (types : Types) → IfRejected IsStatic (parts_judged s operator before parts types)
  static_parts s operator before no_parts types = tt
  static_parts s operator before (a_part first others) types =
      made_fails (judged s first (types_bound operator before ++ types)) (λ t. with_typed (parts_judged s operator (before ++ annotation_of t ∷ []) others types) (λ ts. typed (a_part t ts)))
      IsStatic IsStatic (static_expression s first (types_bound operator before ++ types)) (λ place code k. k)
      (λ t e. made_fails (parts_judged s operator (before ++ annotation_of t ∷ []) others types) (λ ts. typed (a_part t ts))
      IsStatic IsStatic (static_parts s operator (before ++ annotation_of t ∷ []) others types) (λ place code k. k) (λ ts f. tt))

pub expressions_are_rejected_with_static_codes : ExpressionsAreRejectedWithStaticCodes
expressions_are_rejected_with_static_codes s e types place code j = subst (IfRejected IsStatic) j (static_expression s e types)

-- ---- whole queries

static_declared : (s : SchemaSet) (name : Name) (binder : Binder) (t : TypedExpression) → IfRejected IsStatic (declared_as s name binder t)
static_declared s name binder t =
    elim (is_as_written s binder.kind (annotation_of t)) as (λ (b : Bool). IfRejected IsStatic (if b then typed (Global name binder (Some t)) else rejected binder.place XPTY0004)) [
      | true ↦ tt
      | false ↦ refl
    ]

static_included : (s : SchemaSet) (expected : SequenceType) (r : Ruling) → RulesStatically r → RulesStatically (included_ruling s expected r)
static_included s expected (has_type t) h = static_test (is_included s t expected) t XPTY0004 refl
static_included s expected (has_none code part) h = h

static_result : (s : SchemaSet) (expected t : SequenceType) → RulesStatically (result_rule s expected t)
static_result s expected t = static_included s expected (converted_type s expected t) (static_converted s expected t)

static_declaration : (s : SchemaSet) (d : CoreDeclaration) (types : Types) → IfRejected IsStatic (declaration_judged s d types)
static_declaration s (Global name binder (Some value)) types =
    made_fails (judged s value types) (declared_as s name binder) IsStatic IsStatic (static_expression s value types) (λ place code k. k) (λ t e. static_declared s name binder t)
static_declaration s (Global name binder None) types = tt
static_declaration s (declarations.Function function) types =
    made_fails (judged s function.body (parameter_types function.parameters ++ types)) (function_with s function.place function.name function.parameters function.result) IsStatic IsStatic (static_expression s function.body (parameter_types function.parameters ++ types)) (λ place code k. k)
    (λ t e. by_ruling t (result_rule s function.result (annotation_of t)) (static_result s function.result (annotation_of t)))
  where
    by_ruling : (t : TypedExpression) (r : Ruling) → RulesStatically r → IfRejected IsStatic
        (declared_where (outer_of t) (declarations.Function (record { place = function.place; name = function.name; parameters = function.parameters; result = function.result; body = t })) r)
    by_ruling t (has_type u) h = tt
    by_ruling t (has_none code part) h = h

static_declarations : (s : SchemaSet) (ds : List CoreDeclaration) (types : Types) → IfRejected IsStatic (declarations_judged s ds types)
static_declarations s [] types = tt
static_declarations s (d ∷ ds) types =
    made_fails (declaration_judged s d types) (λ t. with_typed (declarations_judged s ds (global_types t ++ types)) (λ ts. typed (t ∷ ts)))
    IsStatic IsStatic (static_declaration s d types) (λ place code k. k)
    (λ t e. made_fails (declarations_judged s ds (global_types t ++ types)) (λ ts. typed (t ∷ ts)) IsStatic IsStatic (static_declarations s ds (global_types t ++ types)) (λ place code k. k) (λ ts f. tt))

static_typing : (s : SchemaSet) (core : Core) → IfRejected IsStatic (core_typed s core)
static_typing s core =
    made_fails (declarations_judged s core.declarations []) (λ ds. with_typed (judged s core.body (types_declared ds [])) (λ t. typed (record { declarations = ds; body = t })))
    IsStatic IsStatic (static_declarations s core.declarations []) (λ place code k. k)
    (λ ds e. made_fails (judged s core.body (types_declared ds [])) (λ t. typed (record { declarations = ds; body = t })) IsStatic IsStatic (static_expression s core.body (types_declared ds []))
    (λ place code k. k) (λ t f. tt))

static_core : (s : SchemaSet) (core : Core) → IfRejected IsStatic (core_judged s core)
static_core s core =
    made_fails (core_typed s core) (λ query. unless_unsettled (first_unsettled (function_uses core.declarations) query.declarations []) query) IsStatic IsStatic (static_typing s core) (λ place code k. k)
    (λ query e. by_place query (first_unsettled (function_uses core.declarations) query.declarations []))
  where
    by_place : (query : TypedCore) (o : Option Place) → IfRejected IsStatic (unless_unsettled o query)
    by_place query None = tt
    by_place query (Some place) = refl

pub queries_are_rejected_with_static_codes : QueriesAreRejectedWithStaticCodes
queries_are_rejected_with_static_codes s core place code j = subst (IfRejected IsStatic) (whole_rejected (core_judged s core) place code j) (static_core s core)

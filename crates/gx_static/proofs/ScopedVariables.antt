-- Where each variable stands in the scope of its binder, no variable is rejected.
use Rattle.std.proofs.Common.{◌≡◌, ◌≢◌, ℕ, zero, suc, ◌+◌, replicate, Bool, true, false, ◌||◌, ◌&&◌, List, [], ◌∷◌, ◌++◌, map, Option, Some, None, refl, sym, ◌∙◌, ap, subst, nat_eq, if◌then◌else◌}
use Rattle.std.specs.Prelude.{not}
use Rattle.gx_core.specs.declared.cases.TypeCase.{TypeCase}
use Rattle.gx_base.specs.declared.place.Place.{Place}
use Rattle.gx_base.specs.declared.code.Code.{Code}
use Rattle.gx_base.specs.declared.code.Code.TheVariants.{XPST0005, XPST0008, XPTY0004, XPTY0018, XPTY0019, XPTY0020, XPDY0002, XQTY0024, FOTY0012}
use Rattle.gx_base.specs.declared.type_name.Builtin.{Builtin}
use Rattle.gx_types.specs.declared.item_type.ItemType.TheVariants as items
use Rattle.gx_base.specs.declared.type_name.Builtin.TheVariants.{UntypedAtomic}
use Rattle.gx_base.specs.declared.type_name.TypeName.{TypeName}
use Rattle.gx_base.specs.declared.type_name.TypeName.TheVariants as names
use Rattle.gx_types.specs.SchemaSet.{SchemaSet}
use Rattle.gx_types.specs.declared.step.Axis.{Axis}
use Rattle.gx_types.specs.declared.step.Test.{Test}
use Rattle.gx_types.specs.SequenceType.{SequenceType, never, nothing, item}
use Rattle.gx_types.specs.SameType.{same_type}
use Rattle.gx_types.specs.Occurrence.{occurrence_of}
use Rattle.gx_types.specs.Prime.{prime_of}
use Rattle.gx_types.specs.TypeRules.{times_of}
use Rattle.gx_include.specs.Decision.{is_included}
use Rattle.gx_steptype.specs.StepType.{node_type, step_type}
use Rattle.gx_steptype.specs.DataType.{has_data, type_of_data}
use Rattle.gx_funcs.specs.declared.function.Function.{Function}
use Rattle.gx_funcs.specs.declared.function.Function.TheVariants as functions
use Rattle.gx_funcs.specs.declared.function.Parameter.{Parameter}
use Rattle.gx_funcs.specs.declared.function.ParameterType.{ParameterType}
use Rattle.gx_funcs.specs.declared.function.ParameterType.TheVariants as parameters
use Rattle.gx_funcs.specs.declared.text_function.TextFunction.{TextFunction}
use Rattle.gx_funcs.specs.declared.text_function.TextFunction.TheVariants as texts
use Rattle.gx_funcs.specs.declared.value_function.ValueFunction.{ValueFunction}
use Rattle.gx_funcs.specs.declared.value_function.ValueFunction.TheVariants as values
use Rattle.gx_funcs.specs.declared.function.Conversion.{Conversion}
use Rattle.gx_funcs.specs.declared.function.Conversion.TheVariants.{Nothing, Data, DataAndCast}
use Rattle.gx_funcs.specs.declared.item_function.ItemFunction.{ItemFunction}
use Rattle.gx_funcs.specs.declared.item_function.ItemFunction.TheVariants as over_items
use Rattle.gx_funcs.specs.Function.{value_function_of, item_function_of, parameters_of, text_parameters_of, value_at_most, value_parameters_of, item_parameters_of, conversion_of}
use Rattle.gx_core.specs.declared.expression.BinaryClass.{BinaryClass}
use Rattle.gx_core.specs.declared.expression.BinaryClass.TheVariants as classes
use Rattle.gx_core.specs.BinaryOperators.{class_of}
use Rattle.gx_types.specs.Occurs.{Occurs}
use Rattle.gx_sorting.specs.declared.keys.KeyOrder.{KeyOrder}
use Rattle.gx_core.specs.declared.operator.ClauseKind.{ClauseKind}
use Rattle.gx_core.specs.declared.operator.ClauseKind.TheVariants as kinds
use Rattle.gx_core.specs.declared.operator.Operator.{Operator}
use Rattle.gx_core.specs.declared.constructor.Constructor.{Constructor}
use Rattle.gx_core.specs.declared.constructor.Constructor.TheVariants as constructors
use Rattle.gx_core.specs.declared.operator.Operator.TheVariants as operators
use Rattle.gx_core.specs.Expression.{CoreExpression, At, Parts, no_parts, a_part, each_of, annotation_of}
use Rattle.gx_core.specs.Bindings.{look_up, Types, types_bound, numbers_bound_by, branch_numbers, branch_types, position_bound, position_numbers, clause_types_bound, clause_numbers_bound, block_types_bound, block_numbers_bound}
use Rattle.gx_core.specs.Invariant.{is_among, IsInScope, IsScoped, ArePartsScoped}
use Rattle.gx_core.specs.Converting.{expected_atomic}
use Rattle.gx_static.specs.Rule.{answer_ruling, call_answer_ruling, cast_ruling, converted_ruling, converted_type, converted_arguments_rule, Ruling, if_atomized, if_all_atomized, constructor_rule, called_type, has_type, has_none, all_items, is_atomic, nodes_type, step_rule, reaching, step_ruling, order_rule, data_rule, binary_rule, takes_argument, arguments_rule, answer_rule, call_rule, ruling, variable_ruling, allows_clause, allows_key, tuples_occur, returned_rule, clauses_rule, if_taken, seen_argument, constructed_text, type_by}
use Rattle.gx_static.specs.Judgement.{typed, with_typed, concluded, judged, parts_judged}
use Rattle.gx_static.specs.Laws.{ScopedVariablesHaveTypes}
use Rattle.gx_static.proofs.Failing.{IfRejected, made_fails, own_fails}

abbrev pub Bound : Place → Code → Type 0
Bound place code = code ≢ XPST0008

abbrev pub in_scope : Types → List ℕ
in_scope types = map (λ t. t.0) types

not_found : (types : Types) (number : ℕ) → look_up types number ≡ None → is_among (in_scope types) number ≡ false
not_found [] number e = refl
not_found (t ∷ types) number e =
    elim (nat_eq t.0 number) as (λ (same : Bool). (if same then Some t.1 else look_up types number) ≡ None → (same || is_among (in_scope types) number) ≡ false) [
      | true ↦ λ g. absurd (cc)
      | false ↦ λ g. not_found types number g
    ] e

-- a test decides whether there is a type
tested_code : (test : Bool) (t : SequenceType) (given code : Code) (part : Option ℕ) → given ≢ XPST0008 → (if test then has_type t else has_none given None) ≡ has_none code part → code ≢ XPST0008
tested_code true t given code part n e = absurd (cc)
tested_code false t given code part n e = let same : given ≡ code = cc in subst (λ (c : Code). c ≢ XPST0008) same n

variable_code : (s : SchemaSet) (number : ℕ) (types : Types) (found : Option SequenceType) (code : Code) (part : Option ℕ) → look_up types number ≡ found → is_among (in_scope types) number ≡ true → variable_ruling s number found ≡ has_none code part → code ≢ XPST0008
variable_code s number types None code part e h r = let clash = not_found types number e in absurd (cc)
variable_code s number types (Some t) code part e h r = absurd (cc)

other_code : (code : Code) (part : Option ℕ) → has_none XPTY0004 None ≡ has_none code part → code ≢ XPST0008
other_code code part e h = cc

binary_code : (s : SchemaSet) (class : BinaryClass) (t u : SequenceType) (code : Code) (part : Option ℕ) → binary_rule s class t u ≡ has_none code part → code ≢ XPST0008
binary_code s (classes.Arithmetic operation) t u code part e = tested_code _ _ XPTY0004 code part (λ x. cc) e
binary_code s (classes.Value op) t u code part e = tested_code _ _ XPTY0004 code part (λ x. cc) e
binary_code s (classes.General op) t u code part e = tested_code _ _ XPTY0004 code part (λ x. cc) e
binary_code s (classes.Nodes op) t u code part e = tested_code _ _ XPTY0004 code part (λ x. cc) e
binary_code s classes.Range t u code part e = tested_code _ _ XPTY0004 code part (λ x. cc) e
binary_code s (classes.Combination op) t u code part e = tested_code _ _ XPTY0004 code part (λ x. cc) e

-- parameters none of which has the code
abbrev HaveOtherCodes : List Parameter → Type 0
HaveOtherCodes [] = Unit {0}
HaveOtherCodes (p ∷ ps) = (p.code ≢ XPST0008) × HaveOtherCodes ps

values_code : (count : ℕ) → HaveOtherCodes (replicate count value_at_most)
values_code zero = tt
values_code (suc count) = (λ e. cc, values_code count)

text_parameters_code : (function : TextFunction) → HaveOtherCodes (text_parameters_of function)
text_parameters_code texts.StringLength = (λ e. cc, tt)
text_parameters_code texts.NormalizeSpace = (λ e. cc, tt)
text_parameters_code (texts.Concat count) = values_code count
text_parameters_code texts.Translate = (λ e. cc, (λ e. cc, (λ e. cc, tt)))
text_parameters_code _ = (λ e. cc, (λ e. cc, tt))

value_parameters_code : (function : ValueFunction) → HaveOtherCodes (value_parameters_of function)
value_parameters_code values.Substring = (λ e. cc, (λ e. cc, (λ e. cc, tt)))
value_parameters_code values.SubstringFrom = (λ e. cc, (λ e. cc, tt))
value_parameters_code values.Compare = (λ e. cc, (λ e. cc, tt))
value_parameters_code values.NormalizeTo = (λ e. cc, (λ e. cc, tt))
value_parameters_code values.IndexOf = (λ e. cc, (λ e. cc, tt))
value_parameters_code _ = (λ e. cc, tt)

item_parameters_code : (function : ItemFunction) → HaveOtherCodes (item_parameters_of function)
item_parameters_code over_items.SubsequenceFrom = (λ e. cc, (λ e. cc, tt))
item_parameters_code over_items.Subsequence = (λ e. cc, (λ e. cc, (λ e. cc, tt)))
item_parameters_code over_items.Remove = (λ e. cc, (λ e. cc, tt))
item_parameters_code over_items.InsertBefore = (λ e. cc, (λ e. cc, (λ e. cc, tt)))
item_parameters_code over_items.DeepEqual = (λ e. cc, (λ e. cc, tt))
item_parameters_code over_items.Error = tt
item_parameters_code _ = (λ e. cc, tt)

parameters_code : (function : Function) → HaveOtherCodes (parameters_of function)
parameters_code functions.True = tt
parameters_code functions.False = tt
parameters_code functions.Position = tt
parameters_code functions.Last = tt
parameters_code (functions.OfTexts function) = text_parameters_code function
parameters_code (functions.OfValues function) = value_parameters_code function
parameters_code (functions.OfItems function) = item_parameters_code function
parameters_code _ = (λ e. cc, tt)

answer_code : (found : Option Builtin) (code : Code) (part : Option ℕ) → answer_rule found ≡ has_none code part → code ≢ XPST0008
answer_code None code part e = other_code code part e
answer_code (Some b) code part e = absurd (cc)

data_code : (s : SchemaSet) (t : SequenceType) (code : Code) (part : Option ℕ) → data_rule s t ≡ has_none code part → code ≢ XPST0008
unfolding data_rule
data_code s t code part e = tested_code (has_data s t) (type_of_data s t) FOTY0012 code part (λ x. cc) e

cast_code : (kind : TypeName) (r : Ruling) (code : Code) (part : Option ℕ) → ((c : Code) (there : Option ℕ) → r ≡ has_none c there → c ≢ XPST0008) → cast_ruling kind r ≡ has_none code part → code ≢ XPST0008
cast_code kind (has_type t) code part h e = absurd (cc)
cast_code kind (has_none own there) code part h e = h code part e

seen_code : (s : SchemaSet) (takes : ParameterType) (t : SequenceType) (code : Code) (part : Option ℕ) → seen_argument s takes t ≡ has_none code part → code ≢ XPST0008
seen_code s takes t code part e = by_conversion (conversion_of takes) e
  where
    by_conversion : (conversion : Conversion) → type_by s conversion t ≡ has_none code part → code ≢ XPST0008
    by_conversion Nothing h = absurd (cc)
    by_conversion Data h = data_code s t code part h
    by_conversion (DataAndCast kind) h = cast_code (names.Builtin kind) (data_rule s t) code part (data_code s t) h

taken_code : (takes : SequenceType → Bool) (own : Code) (number : ℕ) (next seen : Ruling) (code : Code) (part : Option ℕ) → own ≢ XPST0008
    → ((other : Code) (there : Option ℕ) → seen ≡ has_none other there → other ≢ XPST0008) → (next ≡ has_none code part → code ≢ XPST0008)
    → if_taken takes own number next seen ≡ has_none code part → code ≢ XPST0008
taken_code takes own number next (has_type t) code part o h k e =
    elim (takes t) as (λ (b : Bool). (if b then next else has_none own (Some number)) ≡ has_none code part → code ≢ XPST0008) [
      | true ↦ λ f. k f
      | false ↦ λ f. let same : own ≡ code = cc in subst (λ (c : Code). c ≢ XPST0008) same o
    ] e
taken_code takes own number next (has_none other there) code part o h k e = let same : other ≡ code = cc in subst (λ (c : Code). c ≢ XPST0008) same (h other there refl)

arguments_code : (s : SchemaSet) (ps : List Parameter) (ts : List SequenceType) (number : ℕ) (r : Ruling) (code : Code) (part : Option ℕ) → HaveOtherCodes ps
    → (r ≡ has_none code part → code ≢ XPST0008) → arguments_rule s ps ts number r ≡ has_none code part → code ≢ XPST0008
arguments_code s [] [] number r code part h k e = k e
arguments_code s [] (t ∷ ts) number r code part h k e = other_code code part e
arguments_code s (p ∷ ps) [] number r code part h k e = other_code code part e
arguments_code s (p ∷ ps) (t ∷ ts) number r code part h k e =
    taken_code (takes_argument s p.takes) p.code number (arguments_rule s ps ts (number + 1) r) (seen_argument s p.takes t) code part h.0 (λ other there l. seen_code s p.takes t other there l)
    (λ l. arguments_code s ps ts (number + 1) r code part h.1 k l) e

ruled_code : (s : SchemaSet) (over_values : Option ValueFunction) (of_items : Option ItemFunction) (function : Function) (ts : List SequenceType) (code : Code) (part : Option ℕ)
    → answer_ruling s over_values of_items function ts ≡ has_none code part → code ≢ XPST0008
ruled_code s None None function ts code part e = answer_code (called_type function) code part e
ruled_code s None (Some of_items) function ts code part e = absurd (cc)
ruled_code s (Some over_values) of_items function ts code part e = absurd (cc)

call_code : (s : SchemaSet) (function : Function) (ts : List SequenceType) (code : Code) (part : Option ℕ) → call_rule s function ts ≡ has_none code part → code ≢ XPST0008
unfolding call_rule
call_code s function ts code part e =
    arguments_code s (parameters_of function) ts 0 (call_answer_ruling s function ts) code part (parameters_code function)
    (λ k. ruled_code s (value_function_of function) (item_function_of function) function ts code part k) e

-- a step from a variable that has a type
another_code : (given code : Code) (there part : Option ℕ) → given ≢ XPST0008 → has_none given there ≡ has_none code part → code ≢ XPST0008
another_code given code there part n e = let same : given ≡ code = cc in subst (λ (c : Code). c ≢ XPST0008) same n

reached_code : (given context : SequenceType) (code : Code) (part : Option ℕ) → reaching context (has_type given) ≡ has_none code part → code ≢ XPST0008
reached_code given context code part e =
    elim (same_type nothing given && not (same_type never context)) as (λ (b : Bool). (if b then has_none XPST0005 None else has_type given) ≡ has_none code part → code ≢ XPST0008) [
      | true ↦ λ f. another_code XPST0005 code None part (λ x. cc) f
      | false ↦ λ f. absurd (cc)
    ] e

context_code : (s : SchemaSet) (axis : Axis) (asks : Test) (context : SequenceType) (code : Code) (part : Option ℕ) → reaching context (step_rule s axis asks context) ≡ has_none code part → code ≢ XPST0008
context_code s axis asks context code part e =
    elim (is_included s context node_type) as (λ (b : Bool). reaching context (if b then has_type (step_type s axis asks context) else has_none XPTY0020 None) ≡ has_none code part → code ≢ XPST0008) [
      | true ↦ λ f. reached_code (step_type s axis asks context) context code part f
      | false ↦ λ f. another_code XPTY0020 code None part (λ x. cc) f
    ] e

step_code : (s : SchemaSet) (axis : Axis) (asks : Test) (number : ℕ) (types : Types) (found : Option SequenceType) (code : Code) (part : Option ℕ) → look_up types number ≡ found → is_among (in_scope types) number ≡ true
    → step_ruling s axis asks number found ≡ has_none code part → code ≢ XPST0008
step_code s axis asks number types None code part e h r = let clash = not_found types number e in absurd (cc)
step_code s axis asks number types (Some t) code part e h r = context_code s axis asks t code part r

order_code : (s : SchemaSet) (t : SequenceType) (code : Code) (part : Option ℕ) → order_rule s t ≡ has_none code part → code ≢ XPST0008
order_code s t code part e =
    elim (is_included s t nodes_type) as (λ (b : Bool). (if b then has_type (times_of (prime_of t) (occurrence_of t)) else (if all_items is_atomic t then has_type t else has_none XPTY0018 None)) ≡ has_none code part → code ≢ XPST0008) [
      | true ↦ λ f. absurd (cc)
      | false ↦ λ f. tested_code (all_items is_atomic t) t XPTY0018 code part (λ x. cc) f
    ] e

-- ---- constructors

atomized_code : (r : Ruling) (number : ℕ) (next : SequenceType → Ruling) (code : Code) (part : Option ℕ) → ((c : Code) (there : Option ℕ) → r ≡ has_none c there → c ≢ XPST0008)
    → ((t : SequenceType) → next t ≡ has_none code part → code ≢ XPST0008) → if_atomized r number next ≡ has_none code part → code ≢ XPST0008
atomized_code (has_type t) number next code part h k e = k t e
atomized_code (has_none given there) number next code part h k e = another_code given code (Some number) part (h given there refl) e

all_atomized_code : (s : SchemaSet) (ts : List SequenceType) (number : ℕ) (t : SequenceType) (code : Code) (part : Option ℕ) → if_all_atomized s ts number (has_type t) ≡ has_none code part → code ≢ XPST0008
all_atomized_code s [] number t code part e = absurd (cc)
all_atomized_code s (u ∷ ts) number t code part e =
    atomized_code (data_rule s u) number (λ v. if_all_atomized s ts (number + 1) (has_type t)) code part (data_code s u)
    (λ v f. all_atomized_code s ts (number + 1) t code part f) e

constructor_code : (s : SchemaSet) (constructor : Constructor) (ts : List SequenceType) (code : Code) (part : Option ℕ) → constructor_rule s constructor ts ≡ has_none code part → code ≢ XPST0008
constructor_code s (constructors.Element name) ts code part e = tested_code _ _ XQTY0024 code part (λ x. cc) e
constructor_code s (constructors.Attribute name) ts code part e = all_atomized_code s ts 0 (item (items.Attribute (Some name) (names.Builtin UntypedAtomic))) code part e
constructor_code s constructors.Text [] code part e = other_code code part e
constructor_code s constructors.Text (t ∷ []) code part e =
    atomized_code (data_rule s t) 0 (λ values. has_type (constructed_text values)) code part (data_code s t) (λ values f. absurd (cc)) e
constructor_code s constructors.Text (t ∷ u ∷ ts) code part e = other_code code part e
constructor_code s constructors.Document [] code part e = other_code code part e
constructor_code s constructors.Document (t ∷ []) code part e = tested_code _ _ XPTY0004 code part (λ x. cc) e
constructor_code s constructors.Document (t ∷ u ∷ ts) code part e = other_code code part e

-- ---- calls of declared functions

conversion_code : (s : SchemaSet) (o : Option TypeName) (t : SequenceType) (code : Code) (part : Option ℕ) → converted_ruling s o t ≡ has_none code part → code ≢ XPST0008
conversion_code s None t code part e = absurd (cc)
conversion_code s (Some kind) t code part e = cast_code kind (data_rule s t) code part (data_code s t) e

pub converted_code : (s : SchemaSet) (expected t : SequenceType) (code : Code) (part : Option ℕ) → converted_type s expected t ≡ has_none code part → code ≢ XPST0008
unfolding converted_type
converted_code s expected t code part e = conversion_code s (expected_atomic expected) t code part e

converted_arguments_code : (s : SchemaSet) (parameters ts : List SequenceType) (number : ℕ) (result : SequenceType) (code : Code) (part : Option ℕ)
    → converted_arguments_rule s parameters ts number (has_type result) ≡ has_none code part → code ≢ XPST0008
converted_arguments_code s [] [] number result code part e = absurd (cc)
converted_arguments_code s [] (t ∷ ts) number result code part e = other_code code part e
converted_arguments_code s (p ∷ parameters) [] number result code part e = other_code code part e
converted_arguments_code s (p ∷ parameters) (t ∷ ts) number result code part e =
    taken_code (λ u. is_included s u p) XPTY0004 number (converted_arguments_rule s parameters ts (number + 1) (has_type result)) (converted_type s p t) code part (λ x. cc)
    (λ other there k. converted_code s p t other there k) (λ k. converted_arguments_code s parameters ts (number + 1) result code part k) e

-- ---- blocks

returned_code : (s : SchemaSet) (orders : List KeyOrder) (tuples : Occurs) (ts : List SequenceType) (code : Code) (part : Option ℕ) → returned_rule (allows_key s) orders tuples ts ≡ has_none code part → code ≢ XPST0008
returned_code s [] tuples [] code part e = other_code code part e
returned_code s [] tuples (t ∷ []) code part e = absurd (cc)
returned_code s [] tuples (t ∷ u ∷ ts) code part e = other_code code part e
returned_code s (order ∷ orders) tuples [] code part e = other_code code part e
returned_code s (order ∷ orders) tuples (t ∷ ts) code part e =
    elim (allows_key s t) as (λ (b : Bool). (if b then returned_rule (allows_key s) orders tuples ts else has_none XPTY0004 None) ≡ has_none code part → code ≢ XPST0008) [
      | true ↦ λ k. returned_code s orders tuples ts code part k
      | false ↦ λ k. other_code code part k
    ] e

clauses_code : (s : SchemaSet) (clauses : List ClauseKind) (orders : List KeyOrder) (tuples : Occurs) (number : ℕ) (ts : List SequenceType) (code : Code) (part : Option ℕ)
    → clauses_rule (allows_clause s) clauses number (returned_rule (allows_key s) orders tuples) ts ≡ has_none code part → code ≢ XPST0008
clauses_code s [] orders tuples number ts code part e = returned_code s orders tuples ts code part e
clauses_code s (kind ∷ clauses) orders tuples number [] code part e = other_code code part e
clauses_code s (kind ∷ clauses) orders tuples number (t ∷ ts) code part e =
    elim (allows_clause s kind t) as (λ (b : Bool). (if b then clauses_rule (allows_clause s) clauses (number + 1) (returned_rule (allows_key s) orders tuples) ts else has_none XPTY0004 (Some number)) ≡ has_none code part → code ≢ XPST0008) [
      | true ↦ λ k. clauses_code s clauses orders tuples (number + 1) ts code part k
      | false ↦ λ k. another_code XPTY0004 code (Some number) part (λ x. cc) k
    ] e

-- no rule but that of a variable has the code
ruling_code : (s : SchemaSet) (operator : Operator) (ts : List SequenceType) (types : Types) (code : Code) (part : Option ℕ) → IsInScope (in_scope types) operator → ruling s operator ts types ≡ has_none code part → code ≢ XPST0008
ruling_code s (operators.Var number) [] types code part h e = variable_code s number types (look_up types number) code part refl h e
ruling_code s (operators.Var number) (t ∷ ts) types code part h e = other_code code part e
ruling_code s (operators.Lit value) [] types code part h e = tested_code _ _ XPTY0004 code part (λ x. cc) e
ruling_code s (operators.Lit value) (t ∷ ts) types code part h e = other_code code part e
ruling_code s operators.Empty [] types code part h e = absurd (cc)
ruling_code s operators.Empty (t ∷ ts) types code part h e = other_code code part e
ruling_code s operators.Seq (t ∷ u ∷ []) types code part h e = absurd (cc)
ruling_code s operators.Seq _ types code part h e = other_code code part e
ruling_code s (operators.For binder position) (t ∷ u ∷ []) types code part h e = tested_code _ _ XPTY0004 code part (λ x. cc) e
ruling_code s (operators.For binder position) _ types code part h e = other_code code part e
ruling_code s (operators.SomeIn binder) (t ∷ u ∷ []) types code part h e = tested_code _ _ XPTY0004 code part (λ x. cc) e
ruling_code s (operators.SomeIn binder) _ types code part h e = other_code code part e
ruling_code s (operators.EveryIn binder) (t ∷ u ∷ []) types code part h e = tested_code _ _ XPTY0004 code part (λ x. cc) e
ruling_code s (operators.EveryIn binder) _ types code part h e = other_code code part e
ruling_code s (operators.Step axis asks number) [] types code part h e = step_code s axis asks number types (look_up types number) code part refl h e
ruling_code s (operators.Step axis asks number) (t ∷ ts) types code part h e = other_code code part e
ruling_code s operators.Nodes (t ∷ []) types code part h e = tested_code _ _ XPTY0019 code part (λ x. cc) e
ruling_code s operators.Nodes _ types code part h e = other_code code part e
ruling_code s operators.Order (t ∷ []) types code part h e = order_code s t code part e
ruling_code s operators.Order _ types code part h e = other_code code part e
ruling_code s operators.NoContext [] types code part h e = let same : XPDY0002 ≡ code = cc in subst (λ (c : Code). c ≢ XPST0008) same (λ x. cc)
ruling_code s operators.NoContext (t ∷ ts) types code part h e = other_code code part e
ruling_code s (operators.Block clauses keys) ts types code part h e = clauses_code s clauses keys (tuples_occur clauses ts) 0 ts code part e
ruling_code s (operators.Let binder) (t ∷ u ∷ []) types code part h e = tested_code _ _ XPTY0004 code part (λ x. cc) e
ruling_code s (operators.Let binder) _ types code part h e = other_code code part e
ruling_code s (operators.Switch cases default) (t ∷ ts) types code part h e = tested_code _ _ XPTY0004 code part (λ x. cc) e
ruling_code s (operators.Switch cases default) [] types code part h e = other_code code part e
ruling_code s (operators.Nth number backwards) (t ∷ []) types code part h e = absurd (cc)
ruling_code s (operators.Nth number backwards) _ types code part h e = other_code code part e
ruling_code s (operators.Final backwards) (t ∷ []) types code part h e = absurd (cc)
ruling_code s (operators.Final backwards) _ types code part h e = other_code code part e
ruling_code s operators.DataOf (t ∷ []) types code part h e = data_code s t code part e
ruling_code s operators.DataOf _ types code part h e = other_code code part e
ruling_code s operators.If (t ∷ u ∷ v ∷ []) types code part h e = tested_code _ _ XPTY0004 code part (λ x. cc) e
ruling_code s operators.If _ types code part h e = other_code code part e
ruling_code s (operators.Cast kind allows_empty) (t ∷ []) types code part h e = tested_code _ _ XPTY0004 code part (λ x. cc) e
ruling_code s (operators.Cast kind allows_empty) _ types code part h e = other_code code part e
ruling_code s (operators.Castable kind allows_empty) (t ∷ []) types code part h e = tested_code _ _ XPTY0004 code part (λ x. cc) e
ruling_code s (operators.Castable kind allows_empty) _ types code part h e = other_code code part e
ruling_code s (operators.Treat kind) (t ∷ []) types code part h e = absurd (cc)
ruling_code s (operators.Treat kind) _ types code part h e = other_code code part e
ruling_code s (operators.Call function) ts types code part h e = call_code s function ts code part e
ruling_code s (operators.Construct constructor count) ts types code part h e = constructor_code s constructor ts code part e
ruling_code s (operators.User signature count) ts types code part h e = converted_arguments_code s signature.parameters ts 0 signature.result code part e
ruling_code s operators.Neg (t ∷ []) types code part h e = tested_code _ _ XPTY0004 code part (λ x. cc) e
ruling_code s operators.Neg _ types code part h e = other_code code part e
ruling_code s (operators.Binary operator) (t ∷ u ∷ []) types code part h e = binary_code s (class_of operator) t u code part e
ruling_code s (operators.Binary operator) _ types code part h e = other_code code part e

-- what is bound for a part has the numbers that its operator binds there
abbrev pub places_of : List SequenceType → List (Unit {0})
places_of ts = map (λ t. tt) ts

bound_agree : (number : ℕ) (t : SequenceType) → in_scope (position_bound number t) ≡ position_numbers number
bound_agree zero t = refl
bound_agree (suc number) t = refl

branches_agree : (cases : List TypeCase) (default : ℕ) (operand : SequenceType) (branches : List SequenceType) → in_scope (branch_types cases default operand branches) ≡ branch_numbers cases default (places_of branches)
branches_agree [] default operand branches = bound_agree default operand
branches_agree (c ∷ cases) default operand [] = bound_agree c.variable c.kind
branches_agree (c ∷ cases) default operand (t ∷ branches) = branches_agree cases default operand branches

clause_numbers_agree : (kind : ClauseKind) (t : SequenceType) (bound : Types) → in_scope (clause_types_bound kind t ++ bound) ≡ clause_numbers_bound kind ++ in_scope bound
clause_numbers_agree (kinds.For binder zero) t bound = refl
clause_numbers_agree (kinds.For binder (suc number)) t bound = refl
clause_numbers_agree (kinds.Let binder) t bound = refl
clause_numbers_agree kinds.Where t bound = refl

block_numbers_agree : (clauses : List ClauseKind) (before : List SequenceType) (bound : Types) → in_scope (block_types_bound clauses before bound) ≡ block_numbers_bound clauses (places_of before) (in_scope bound)
block_numbers_agree [] before bound = refl
block_numbers_agree (kind ∷ clauses) [] bound = refl
block_numbers_agree (kind ∷ clauses) (t ∷ before) bound =
    block_numbers_agree clauses before (clause_types_bound kind t ++ bound) ∙ ap (block_numbers_bound clauses (places_of before)) (clause_numbers_agree kind t bound)

pub numbers_agree : (operator : Operator) (before : List SequenceType) → in_scope (types_bound operator before) ≡ numbers_bound_by operator (places_of before)
numbers_agree (operators.Block clauses keys) before = block_numbers_agree clauses before []
numbers_agree (operators.For binder zero) [] = refl
numbers_agree (operators.For binder zero) (t ∷ []) = refl
numbers_agree (operators.For binder zero) (t ∷ u ∷ ts) = refl
numbers_agree (operators.For binder (suc number)) [] = refl
numbers_agree (operators.For binder (suc number)) (t ∷ []) = refl
numbers_agree (operators.For binder (suc number)) (t ∷ u ∷ ts) = refl
numbers_agree (operators.SomeIn binder) [] = refl
numbers_agree (operators.SomeIn binder) (t ∷ []) = refl
numbers_agree (operators.SomeIn binder) (t ∷ u ∷ ts) = refl
numbers_agree (operators.EveryIn binder) [] = refl
numbers_agree (operators.EveryIn binder) (t ∷ []) = refl
numbers_agree (operators.EveryIn binder) (t ∷ u ∷ ts) = refl
numbers_agree (operators.Let binder) [] = refl
numbers_agree (operators.Let binder) (t ∷ []) = refl
numbers_agree (operators.Let binder) (t ∷ u ∷ ts) = refl
numbers_agree (operators.Switch cases default) [] = refl
numbers_agree (operators.Switch cases default) (operand ∷ branches) = branches_agree cases default operand branches
numbers_agree _ before = refl

pub in_scope_joined : (bound types : Types) → in_scope (bound ++ types) ≡ in_scope bound ++ in_scope types
in_scope_joined [] types = refl
in_scope_joined (b ∷ bound) types = ap (λ ns. b.0 ∷ ns) (in_scope_joined bound types)

scope_of_part : (operator : Operator) (before : List SequenceType) (types : Types) → numbers_bound_by operator (places_of before) ++ in_scope types ≡ in_scope (types_bound operator before ++ types)
scope_of_part operator before types = ap (λ ns. ns ++ in_scope types) (sym (numbers_agree operator before)) ∙ sym (in_scope_joined (types_bound operator before) types)

pub one_more_place : (before : List SequenceType) (t : SequenceType) → places_of before ++ tt ∷ [] ≡ places_of (before ++ t ∷ [])
one_more_place [] t = refl
one_more_place (b ∷ before) t = ap (λ ps. tt ∷ ps) (one_more_place before t)

mutual
  pub judged_bound : (s : SchemaSet) (e : CoreExpression) (types : Types) → IsScoped (in_scope types) e → IfRejected Bound (judged s e types)
  judged_bound s (At own outer tt operator parts) types h =
      made_fails (parts_judged s operator [] parts types) (λ ts. concluded own outer operator ts (ruling s operator (each_of annotation_of ts) types))
      Bound Bound (parts_bound s operator [] parts types h.1) (λ place code k. k)
      (λ ts e. own_fails own outer operator ts (ruling s operator (each_of annotation_of ts) types) Bound (λ code part r. ruling_code s operator (each_of annotation_of ts) types code part h.0 r))

  parts_bound : (s : SchemaSet) (operator : Operator) (before : List SequenceType) (parts : Parts (Unit {0})) (types : Types) → ArePartsScoped (in_scope types) operator (places_of before) parts → IfRejected Bound (parts_judged s operator before parts types)
  parts_bound s operator before no_parts types h = tt
  parts_bound s operator before (a_part first others) types h =
      made_fails (judged s first (types_bound operator before ++ types)) (λ t. with_typed (parts_judged s operator (before ++ annotation_of t ∷ []) others types) (λ ts. typed (a_part t ts)))
      Bound Bound (judged_bound s first (types_bound operator before ++ types) (subst (λ (scope : List ℕ). IsScoped scope first) (scope_of_part operator before types) h.0)) (λ place code k. k)
      (λ t e. made_fails (parts_judged s operator (before ++ annotation_of t ∷ []) others types) (λ ts. typed (a_part t ts))
      Bound Bound (parts_bound s operator (before ++ annotation_of t ∷ []) others types (subst (λ (places : List (Unit {0})). ArePartsScoped (in_scope types) operator places others) (one_more_place before (annotation_of t)) h.1))
      (λ place code k. k) (λ ts f. tt))

pub scoped_variables_have_types : ScopedVariablesHaveTypes
scoped_variables_have_types s e types place code h j = subst (IfRejected Bound) j (judged_bound s e types h)

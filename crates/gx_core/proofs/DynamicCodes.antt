-- An evaluation raises the codes of dynamic errors alone.
use Rattle.std.proofs.Common.{◌≡◌, zero, length, drop, Bool, true, false, not, List, [], ◌∷◌, ◌++◌, map}
use Rattle.std.proofs.Common.{Option, None, Some, Result, Ok, Err, refl, subst, if◌then◌else◌, ◌&&◌}
use Rattle.std.specs.Prelude.{ℕ, suc, nat_le, option_map}
use Rattle.std.specs.List.{list_all, list_any, slice_get}
use Rattle.gx_base.specs.declared.code.Code.{Code}
use Rattle.gx_base.specs.declared.code.Code.TheVariants.{GLXD0002, XPDY0050}
use Rattle.gx_base.specs.Code.{is_dynamic}
use Rattle.gx_base.specs.declared.type_name.TypeName.{TypeName}
use Rattle.gx_base.specs.declared.type_name.TypeName.TheVariants as names
use Rattle.gx_base.specs.declared.limits.TheConstants.{RANGE_ITEMS}
use Rattle.gx_num.specs.declared.Number.{Number}
use Rattle.gx_num.specs.declared.NumFault.{NumFault}
use Rattle.gx_num.specs.declared.NumFault.TheVariants.{Overflow, DivZero}
use Rattle.gx_num.specs.Arithmetic.{exact_negation, in_range_or_overflow}
use Rattle.gx_facets.specs.declared.Atomic.{Atomic}
use Rattle.gx_types.specs.SchemaSet.{SchemaSet}
use Rattle.gx_types.specs.SequenceType.{SequenceType}
use Rattle.gx_types.specs.declared.step.Axis.{Axis}
use Rattle.gx_types.specs.declared.step.Test.{Test}
use Rattle.gx_atomic.specs.declared.casting.CastError.{CastError}
use Rattle.gx_atomic.specs.declared.casting.CastError.TheVariants as casts
use Rattle.gx_atomic.specs.declared.comparison.Op.{Op}
use Rattle.gx_atomic.specs.Cast.{cast_of}
use Rattle.gx_atomic.specs.Comparison.{Decision, value_comparison, general_comparison}
use Rattle.gx_funcs.specs.declared.function.Function.{Function}
use Rattle.gx_funcs.specs.declared.function.Function.TheVariants as functions
use Rattle.gx_funcs.specs.declared.function.Parameter.{Parameter}
use Rattle.gx_funcs.specs.declared.function.Conversion.{Conversion}
use Rattle.gx_funcs.specs.declared.function.Conversion.TheVariants.{Nothing, Data, DataAndCast}
use Rattle.gx_funcs.specs.declared.value_function.ValueFunction.{ValueFunction}
use Rattle.gx_funcs.specs.Values.{ValueAnswer, value_answer}
use Rattle.gx_funcs.specs.Function.{ItemView, effective_boolean, string_of_items, one_answer, truth_atom, boolean_atom, string_atom, applied, text_function_of, value_function_of, item_function_of, value_parameters_of, item_parameters_of, conversion_of}
use Rattle.gx_model.specs.Forest.{Forest, PlainNode, then_found}
use Rattle.gx_funcs.specs.declared.text_function.TextFunction.{TextFunction}
use Rattle.gx_funcs.specs.Texts.{text_answer}
use Rattle.gx_model.specs.Item.{Item, atom, node, Items, atoms}
use Rattle.gx_model.specs.Atomization.{atomized}
use Rattle.gx_model.specs.DocumentOrder.{in_document_order}
use Rattle.gx_sorting.specs.declared.keys.KeyOrder.{KeyOrder}
use Rattle.gx_core.specs.declared.operator.ClauseKind.{ClauseKind}
use Rattle.gx_core.specs.declared.operator.ClauseKind.TheVariants as kinds
use Rattle.gx_core.specs.Blocks.{Tuple, key_of, tuple_keys, tuples_of_each, tuples_if, tuples_of}
use Rattle.gx_core.specs.Blocks.{in_key_order, returned, block_returned, block_denoted}
use Rattle.gx_core.specs.declared.operator.Operator.{Operator}
use Rattle.gx_core.specs.declared.operator.Operator.TheVariants as operators
use Rattle.gx_core.specs.declared.expression.ArithmeticOp.{ArithmeticOp}
use Rattle.gx_core.specs.declared.expression.BinaryClass.{BinaryClass}
use Rattle.gx_core.specs.declared.expression.BinaryClass.TheVariants.{Arithmetic, Value, General, Nodes, Range, Combination}
use Rattle.gx_core.specs.declared.expression.NodeComparison.{NodeComparison}
use Rattle.gx_core.specs.declared.expression.Declaration.{Declaration}
use Rattle.gx_core.specs.declared.expression.Declaration.TheVariants.{Global}
use Rattle.gx_core.specs.declared.expression.Declaration.TheVariants as declarations
use Rattle.gx_core.specs.declared.expression.DeclaredFunction.{DeclaredFunction}
use Rattle.gx_core.specs.declared.signature.FunctionSignature.{FunctionSignature}
use Rattle.gx_core.specs.BinaryOperators.{class_of}
use Rattle.gx_core.specs.Expression.{Expression, At, Parts, no_parts, a_part}
use Rattle.gx_core.specs.declared.constructor.Constructor.{Constructor}
use Rattle.gx_core.specs.declared.constructor.Constructor.TheVariants as constructors
use Rattle.gx_core.specs.Constructing.{Built, built_tree, repeated_name, too_deep, wrong_content, built, document_built, attribute_built}
use Rattle.gx_core.specs.Constructing.{texts_of_parts, tree_appended, built_outcome, text_outcome, constructor_outcome}
use Rattle.gx_core.specs.Outcome.{Outcome, gives, raises, wrong, after, given}
use Rattle.gx_core.specs.Operands.{on_one, on_two}
use Rattle.gx_core.specs.Arithmetic.{number_of_item, computed, result_of, computed_of_items, negation_of_item}
use Rattle.gx_core.specs.Comparing.{truth_value, condition_of, value_of_item, compared_items}
use Rattle.gx_core.specs.Comparing.{cast_failure, decided, atoms_among, generally_compared}
use Rattle.gx_core.specs.ComparingNodes.{compared_nodes}
use Rattle.gx_core.specs.CombiningNodes.{combined}
use Rattle.gx_core.specs.Ranging.{integer_of_item, range_length, integers_from, range_between, range_of_items}
use Rattle.gx_core.specs.Casting.{cast_outcome, cast_items, castable_items}
use Rattle.gx_core.specs.Arguments.{argument_by, arguments_by, argument_values, all_argument_values}
use Rattle.gx_core.specs.Calling.{views_of, answered, all_argument_texts, called_as}
use Rattle.gx_core.specs.ItemCalling.{lexical_name, name_of_items, roots_of_items, number_of_items, integer_of_items, string_item, item_answer}
use Rattle.gx_funcs.specs.declared.item_function.ItemFunction.{ItemFunction}
use Rattle.gx_funcs.specs.declared.item_function.ItemFunction.TheVariants as item_functions
use Rattle.gx_funcs.specs.Positions.{from_position, so_many_from, without_position, inserted_before}
use Rattle.gx_core.proofs.ValueCodes.{AnswersDynamically, values_dynamic}
use Rattle.gx_core.specs.Paths.{is_node, places_of, stepped, put_in_order}
use Rattle.gx_core.specs.declared.cases.TypeCase.{TypeCase}
use Rattle.gx_core.specs.Instances.{is_instance}
use Rattle.gx_core.specs.Bindings.{look_up, position_bound}
use Rattle.gx_core.specs.Meaning.{CallOutcomes, Context, Bindings, Denotation, binary_meaning, acts, all_of, for_each, item_bound}
use Rattle.gx_core.specs.Meaning.{decides, any_decides, branch, switched, denoted, meaning, meanings}
use Rattle.gx_core.specs.Converting.{is_untyped, is_any_atomic_type, item_converted, items_converted, converted_to, expected_atomic, converted, arguments_converted}
use Rattle.gx_core.specs.Functions.{functions_of, arguments_bound, calls_over, context_over}
use Rattle.gx_core.specs.QueryMeaning.{globals_bound, outcome_within, QueriesRaiseDynamicCodes}
use Rattle.gx_core.specs.Laws.{RaisesDynamicCodes, ExpressionsRaiseDynamicCodes}

-- the same by cases: a result, a dynamic code, or a type error
abbrev IsDynamic : {R : Type 0} → Outcome R → Type 0
IsDynamic (gives result forest) = Unit {0}
IsDynamic (raises code) = is_dynamic code ≡ true
IsDynamic wrong = Unit {0}

by_cases : {R : Type 0} (outcome : Outcome R) → IsDynamic outcome → RaisesDynamicCodes outcome
by_cases (gives result forest) h code e = absurd (cc)
by_cases (raises other) h code e = let same : other ≡ code = cc in subst (λ (c : Code). is_dynamic c ≡ true) same h
by_cases wrong h code e = absurd (cc)

of_codes : {R : Type 0} (outcome : Outcome R) → RaisesDynamicCodes outcome → IsDynamic outcome
of_codes (gives result forest) h = tt
of_codes (raises code) h = h code refl
of_codes wrong h = tt

-- calls of functions raise the codes of dynamic errors alone
abbrev AreCallsDynamic : CallOutcomes → Type 0
AreCallsDynamic calls = (signature : FunctionSignature) (values : List Items) (forest : Forest) → IsDynamic (calls signature values forest)

-- ---- what follows

dynamic_after : {R S : Type 0} (outcome : Outcome R) (next : R → Forest → Outcome S) → IsDynamic outcome
    → ((result : R) (forest : Forest) → IsDynamic (next result forest)) → IsDynamic (after outcome next)
dynamic_after (gives result forest) next h k = k result forest
dynamic_after (raises code) next h k = h
dynamic_after wrong next h k = tt

dynamic_given : {R S : Type 0} (x : Option R) (next : R → Outcome S) → ((r : R) → IsDynamic (next r)) → IsDynamic (given x next)
dynamic_given None next k = tt
dynamic_given (Some x) next k = k x

dynamic_on_one : (xs : Items) (forest : Forest) (next : Item → Forest → Outcome Items) → ((x : Item) → IsDynamic (next x forest))
    → IsDynamic (on_one xs forest next)
dynamic_on_one [] forest next k = tt
dynamic_on_one (x ∷ []) forest next k = k x
dynamic_on_one (x ∷ y ∷ xs) forest next k = tt

dynamic_on_two : (xs ys : Items) (forest : Forest) (next : Item → Item → Forest → Outcome Items)
    → ((x y : Item) → IsDynamic (next x y forest)) → IsDynamic (on_two xs ys forest next)
dynamic_on_two (x ∷ []) (y ∷ []) forest next k = k x y
dynamic_on_two [] [] forest next k = tt
dynamic_on_two [] (y ∷ []) forest next k = tt
dynamic_on_two (x ∷ []) [] forest next k = tt
dynamic_on_two _ _ forest next k = tt

-- ---- arithmetic and ranges

dynamic_computed : (result : Result Number NumFault) (forest : Forest) → IsDynamic (computed result forest)
dynamic_computed (Ok n) forest = tt
dynamic_computed (Err Overflow) forest = refl
dynamic_computed (Err DivZero) forest = refl

dynamic_arithmetic : (operation : ArithmeticOp) (x y : Item) (forest : Forest) → IsDynamic (computed_of_items operation x y forest)
dynamic_arithmetic operation x y forest =
    dynamic_given (number_of_item x) (λ m. given (number_of_item y) (λ n. computed (result_of operation m n) forest))
    (λ m. dynamic_given (number_of_item y) (λ n. computed (result_of operation m n) forest)
    (λ n. dynamic_computed (result_of operation m n) forest))

dynamic_negation : (x : Item) (forest : Forest) → IsDynamic (negation_of_item x forest)
dynamic_negation x forest =
    dynamic_given (number_of_item x) (λ n. computed (in_range_or_overflow (exact_negation n)) forest)
    (λ n. dynamic_computed (in_range_or_overflow (exact_negation n)) forest)

dynamic_choice : (b : Bool) (chosen otherwise : Outcome Items) → IsDynamic chosen → IsDynamic otherwise
    → IsDynamic (if b then chosen else otherwise)
dynamic_choice true chosen otherwise h k = h
dynamic_choice false chosen otherwise h k = k

dynamic_range : (x y : Item) (forest : Forest) → IsDynamic (range_of_items x y forest)
dynamic_range x y forest =
    dynamic_given (integer_of_item x) (λ first. given (integer_of_item y) (λ last. range_between first last forest))
    (λ first. dynamic_given (integer_of_item y) (λ last. range_between first last forest)
    (λ last. dynamic_choice (nat_le (range_length first last) RANGE_ITEMS)
    (gives (atoms (integers_from first (range_length first last))) forest) (raises GLXD0002) tt refl))

-- ---- casts and comparisons

dynamic_failure : (error : CastError) → IsDynamic (cast_failure error)
dynamic_failure casts.FORG0001 = refl
dynamic_failure casts.FOCA0001 = refl
dynamic_failure casts.FOCA0003 = refl
dynamic_failure casts.FOCA0006 = refl
dynamic_failure casts.Memory = tt

dynamic_cast_outcome : (result : Result Atomic CastError) (forest : Forest) → IsDynamic (cast_outcome result forest)
dynamic_cast_outcome (Ok a) forest = tt
dynamic_cast_outcome (Err error) forest = dynamic_failure error

dynamic_cast : (schemas : SchemaSet) (kind : TypeName) (optional : Bool) (xs : Items) (forest : Forest)
    → IsDynamic (cast_items schemas kind optional xs forest)
dynamic_cast schemas kind optional [] forest = dynamic_choice optional (gives [] forest) wrong tt tt
dynamic_cast schemas kind optional (atom a ∷ []) forest = dynamic_cast_outcome (cast_of schemas a kind) forest
dynamic_cast schemas kind optional (atom a ∷ y ∷ xs) forest = tt
dynamic_cast schemas kind optional (node place ∷ xs) forest = tt

dynamic_castable : (schemas : SchemaSet) (kind : TypeName) (optional : Bool) (xs : Items) (forest : Forest)
    → IsDynamic (castable_items schemas kind optional xs forest)
dynamic_castable schemas kind optional [] forest = tt
dynamic_castable schemas kind optional (atom a ∷ []) forest = tt
dynamic_castable schemas kind optional (atom a ∷ y ∷ xs) forest = tt
dynamic_castable schemas kind optional (node place ∷ xs) forest = tt

dynamic_comparison : (op : Op) (x y : Item) (forest : Forest) → IsDynamic (compared_items op x y forest)
dynamic_comparison op x y forest =
    dynamic_given (value_of_item x)
    (λ a. given (value_of_item y) (λ b. given (value_comparison op a b) (λ truth. gives (truth_value truth) forest)))
    (λ a. dynamic_given (value_of_item y) (λ b. given (value_comparison op a b) (λ truth. gives (truth_value truth) forest))
    (λ b. dynamic_given (value_comparison op a b) (λ truth. gives (truth_value truth) forest) (λ truth. tt)))

dynamic_decision : (decision : Decision) (forest : Forest) → IsDynamic (decided decision forest)
dynamic_decision (Some (Ok truth)) forest = tt
dynamic_decision (Some (Err error)) forest = dynamic_failure error
dynamic_decision None forest = tt

dynamic_general : (op : Op) (xs ys : Items) (forest : Forest) → IsDynamic (generally_compared op xs ys forest)
dynamic_general op [] ys forest = tt
dynamic_general op (x ∷ xs) [] forest = tt
dynamic_general op (x ∷ xs) (y ∷ ys) forest =
    dynamic_given (atoms_among (x ∷ xs)) (λ as'. given (atoms_among (y ∷ ys)) (λ bs. decided (general_comparison op as' bs) forest))
    (λ as'. dynamic_given (atoms_among (y ∷ ys)) (λ bs. decided (general_comparison op as' bs) forest)
    (λ bs. dynamic_decision (general_comparison op as' bs) forest))

dynamic_nodes : (op : NodeComparison) (x y : Item) (forest : Forest) → IsDynamic (compared_nodes op x y forest)
dynamic_nodes op (node a) (node b) forest = tt
dynamic_nodes op (node a) (atom y) forest = tt
dynamic_nodes op (atom x) y forest = tt

dynamic_binary : (class : BinaryClass) (xs ys : Items) (forest : Forest) → IsDynamic (binary_meaning class xs ys forest)
dynamic_binary (Arithmetic operation) xs ys forest =
    dynamic_on_two xs ys forest (computed_of_items operation) (λ x y. dynamic_arithmetic operation x y forest)
dynamic_binary (Value op) xs ys forest = dynamic_on_two xs ys forest (compared_items op) (λ x y. dynamic_comparison op x y forest)
dynamic_binary (General op) xs ys forest = dynamic_general op xs ys forest
dynamic_binary (Nodes op) xs ys forest = dynamic_on_two xs ys forest (compared_nodes op) (λ x y. dynamic_nodes op x y forest)
dynamic_binary Range xs ys forest = dynamic_on_two xs ys forest range_of_items (λ x y. dynamic_range x y forest)
dynamic_binary (Combination op) xs ys forest =
    dynamic_choice (list_all is_node xs && list_all is_node ys)
    (gives (map node (in_document_order forest (combined op (places_of xs) (places_of ys)))) forest) wrong tt tt

-- ---- paths and calls

dynamic_step : (schemas : SchemaSet) (axis : Axis) (asks : Test) (xs : Items) (forest : Forest)
    → IsDynamic (stepped schemas axis asks xs forest)
dynamic_step schemas axis asks (node place ∷ []) forest = tt
dynamic_step schemas axis asks [] forest = tt
dynamic_step schemas axis asks (node place ∷ y ∷ xs) forest = tt
dynamic_step schemas axis asks (atom a ∷ xs) forest = tt

dynamic_order : (xs : Items) (forest : Forest) → IsDynamic (put_in_order xs forest)
dynamic_order xs forest =
    dynamic_choice (list_all is_node xs) (gives (map node (in_document_order forest (places_of xs))) forest)
    (if list_any is_node xs then wrong else gives xs forest) tt
    (dynamic_choice (list_any is_node xs) wrong (gives xs forest) tt tt)

-- a function answers no error
dynamic_answer : {V : Type 0} (x : Option V) (answer : V → Atomic) (forest : Forest)
    → IsDynamic (given (option_map (λ v. one_answer (answer v)) x) (λ answer. answered answer forest))
dynamic_answer None answer forest = tt
dynamic_answer (Some x) answer forest = tt

dynamic_call : (function : Function) (views : List (List ItemView)) (forest : Forest)
    → IsDynamic (given (applied function views) (λ answer. answered answer forest))
dynamic_call functions.True [] forest = tt
dynamic_call functions.False [] forest = tt
dynamic_call functions.Boolean (items ∷ []) forest = dynamic_answer (effective_boolean items) (boolean_atom items) forest
dynamic_call functions.Not (items ∷ []) forest = dynamic_answer (effective_boolean items) (λ truth. truth_atom (not truth)) forest
dynamic_call functions.Count (items ∷ []) forest = tt
dynamic_call functions.Empty (items ∷ []) forest = tt
dynamic_call functions.Exists (items ∷ []) forest = tt
dynamic_call functions.String (items ∷ []) forest = dynamic_answer (string_of_items items) string_atom forest
dynamic_call _ _ forest = tt

-- ---- constructors

dynamic_built : (b : Built) (forest : Forest) → IsDynamic (built_outcome b forest)
dynamic_built (built_tree t) forest = tt
dynamic_built repeated_name forest = refl
dynamic_built too_deep forest = refl
dynamic_built wrong_content forest = tt

dynamic_text : (values : List Atomic) (forest : Forest) → IsDynamic (text_outcome values forest)
dynamic_text [] forest = tt
dynamic_text (a ∷ values) forest = tt

dynamic_constructor : (schemas : SchemaSet) (constructor : Constructor) (parts : List Items) (forest : Forest)
    → IsDynamic (constructor_outcome schemas constructor parts forest)
dynamic_constructor schemas (constructors.Element name) parts forest = dynamic_built (built name parts forest) forest
dynamic_constructor schemas (constructors.Attribute name) parts forest =
    dynamic_given (texts_of_parts schemas forest parts) (λ value. tree_appended (attribute_built name value) forest) (λ value. tt)
dynamic_constructor schemas constructors.Text (content ∷ []) forest =
    dynamic_given (then_found (atomized schemas forest content) atoms_among) (λ values. text_outcome values forest)
    (λ values. dynamic_text values forest)
dynamic_constructor schemas constructors.Document (content ∷ []) forest = dynamic_built (document_built content forest) forest
dynamic_constructor schemas _ parts forest = tt

-- ---- conversions

dynamic_item_converted : (schemas : SchemaSet) (kind : TypeName) (x : Item) (forest : Forest) → IsDynamic (item_converted schemas kind x forest)
dynamic_item_converted schemas kind (atom a) forest =
    dynamic_choice (is_untyped a.value && not (is_any_atomic_type kind)) (cast_outcome (cast_of schemas a kind) forest) (gives (atom a ∷ []) forest)
    (dynamic_cast_outcome (cast_of schemas a kind) forest) tt
dynamic_item_converted schemas kind (node place) forest = tt

dynamic_items_converted : (schemas : SchemaSet) (kind : TypeName) (xs : Items) (forest : Forest) → IsDynamic (items_converted schemas kind xs forest)
dynamic_items_converted schemas kind [] forest = tt
dynamic_items_converted schemas kind (x ∷ xs) forest =
    dynamic_after (item_converted schemas kind x forest) (λ ys left. after (items_converted schemas kind xs left) (λ zs last. gives (ys ++ zs) last))
    (dynamic_item_converted schemas kind x forest)
    (λ ys left. dynamic_after (items_converted schemas kind xs left) (λ zs last. gives (ys ++ zs) last)
    (dynamic_items_converted schemas kind xs left) (λ zs last. tt))

dynamic_converted_to : (expected : Option TypeName) (schemas : SchemaSet) (xs : Items) (forest : Forest) → IsDynamic (converted_to expected schemas xs forest)
dynamic_converted_to None schemas xs forest = tt
dynamic_converted_to (Some kind) schemas xs forest =
    dynamic_given (atomized schemas forest xs) (λ ys. items_converted schemas kind ys forest) (λ ys. dynamic_items_converted schemas kind ys forest)

dynamic_arguments : (schemas : SchemaSet) (parameters : List SequenceType) (arguments : List Items) (forest : Forest)
    → IsDynamic (arguments_converted schemas parameters arguments forest)
dynamic_arguments schemas [] [] forest = tt
dynamic_arguments schemas (expected ∷ parameters) (xs ∷ arguments) forest =
    dynamic_after (converted schemas expected xs forest)
    (λ ys left. after (arguments_converted schemas parameters arguments left) (λ values last. gives (ys ∷ values) last))
    (dynamic_converted_to (expected_atomic expected) schemas xs forest)
    (λ ys left. dynamic_after (arguments_converted schemas parameters arguments left) (λ values last. gives (ys ∷ values) last)
    (dynamic_arguments schemas parameters arguments left) (λ values last. tt))
dynamic_arguments schemas [] (xs ∷ arguments) forest = tt
dynamic_arguments schemas (expected ∷ parameters) [] forest = tt

-- ---- functions over strings, over atomic values and over items

dynamic_argument : (conversion : Conversion) (schemas : SchemaSet) (xs : Items) (forest : Forest) → IsDynamic (argument_by conversion schemas xs forest)
dynamic_argument Nothing schemas xs forest = tt
dynamic_argument Data schemas xs forest = dynamic_given (atomized schemas forest xs) (λ ys. gives ys forest) (λ ys. tt)
dynamic_argument (DataAndCast kind) schemas xs forest = dynamic_converted_to (Some (names.Builtin kind)) schemas xs forest

dynamic_values : (conversion : Conversion) (schemas : SchemaSet) (xs : Items) (forest : Forest) → IsDynamic (argument_values conversion schemas xs forest)
dynamic_values conversion schemas xs forest =
    dynamic_after (argument_by conversion schemas xs forest) (λ ys left. given (atoms_among ys) (λ values. gives values left)) (dynamic_argument conversion schemas xs forest)
    (λ ys left. dynamic_given (atoms_among ys) (λ values. gives values left) (λ values. tt))

dynamic_all_values : (schemas : SchemaSet) (parameters : List Parameter) (arguments : List Items) (forest : Forest)
    → IsDynamic (all_argument_values schemas parameters arguments forest)
dynamic_all_values schemas [] [] forest = tt
dynamic_all_values schemas (parameter ∷ parameters) (xs ∷ arguments) forest =
    dynamic_after (argument_values (conversion_of parameter.takes) schemas xs forest)
    (λ values left. after (all_argument_values schemas parameters arguments left) (λ others last. gives (values ∷ others) last))
    (dynamic_values (conversion_of parameter.takes) schemas xs forest)
    (λ values left. dynamic_after (all_argument_values schemas parameters arguments left) (λ others last. gives (values ∷ others) last)
    (dynamic_all_values schemas parameters arguments left) (λ others last. tt))
dynamic_all_values schemas [] (xs ∷ arguments) forest = tt
dynamic_all_values schemas (parameter ∷ parameters) [] forest = tt

dynamic_answered : (answer : ValueAnswer) (forest : Forest) → AnswersDynamically answer → IsDynamic (given answer (λ found. answered found forest))
dynamic_answered None forest h = tt
dynamic_answered (Some (Ok items)) forest h = tt
dynamic_answered (Some (Err code)) forest h = h

dynamic_seen : (schemas : SchemaSet) (parameters : List Parameter) (arguments : List Items) (forest : Forest) → IsDynamic (arguments_by schemas parameters arguments forest)
dynamic_seen schemas [] [] forest = tt
dynamic_seen schemas (parameter ∷ parameters) (xs ∷ arguments) forest =
    dynamic_after (argument_by (conversion_of parameter.takes) schemas xs forest)
    (λ ys left. after (arguments_by schemas parameters arguments left) (λ others last. gives (ys ∷ others) last))
    (dynamic_argument (conversion_of parameter.takes) schemas xs forest)
    (λ ys left. dynamic_after (arguments_by schemas parameters arguments left) (λ others last. gives (ys ∷ others) last)
    (dynamic_seen schemas parameters arguments left) (λ others last. tt))
dynamic_seen schemas [] (xs ∷ arguments) forest = tt
dynamic_seen schemas (parameter ∷ parameters) [] forest = tt

dynamic_item_answer : (function : ItemFunction) (arguments : List Items) (forest : Forest) → IsDynamic (item_answer function arguments forest)
dynamic_item_answer item_functions.Name (xs ∷ []) forest =
    dynamic_given (name_of_items lexical_name forest xs) (λ t. gives (string_item t) forest) (λ t. tt)
dynamic_item_answer item_functions.LocalName (xs ∷ []) forest =
    dynamic_given (name_of_items (λ name. name.local) forest xs) (λ t. gives (string_item t) forest) (λ t. tt)
dynamic_item_answer item_functions.Root (xs ∷ []) forest = dynamic_given (roots_of_items forest xs) (λ roots. gives roots forest) (λ roots. tt)
dynamic_item_answer item_functions.Reverse (xs ∷ []) forest = tt
dynamic_item_answer item_functions.SubsequenceFrom (xs ∷ ys ∷ []) forest =
    dynamic_given (number_of_items ys) (λ start. gives (from_position start xs) forest) (λ start. tt)
dynamic_item_answer item_functions.Subsequence (xs ∷ ys ∷ zs ∷ []) forest =
    dynamic_given (number_of_items ys) (λ start. given (number_of_items zs) (λ count. gives (so_many_from start count xs) forest))
    (λ start. dynamic_given (number_of_items zs) (λ count. gives (so_many_from start count xs) forest) (λ count. tt))
dynamic_item_answer item_functions.Remove (xs ∷ ys ∷ []) forest =
    dynamic_given (integer_of_items ys) (λ position. gives (without_position position xs) forest) (λ position. tt)
dynamic_item_answer item_functions.InsertBefore (xs ∷ ys ∷ zs ∷ []) forest =
    dynamic_given (integer_of_items ys) (λ position. gives (inserted_before position zs xs) forest) (λ position. tt)
dynamic_item_answer item_functions.ZeroOrOne ([] ∷ []) forest = tt
dynamic_item_answer item_functions.ZeroOrOne ((x ∷ []) ∷ []) forest = tt
dynamic_item_answer item_functions.ZeroOrOne ((x ∷ y ∷ xs) ∷ []) forest = refl
dynamic_item_answer item_functions.OneOrMore ([] ∷ []) forest = refl
dynamic_item_answer item_functions.OneOrMore ((x ∷ xs) ∷ []) forest = tt
dynamic_item_answer item_functions.ExactlyOne ([] ∷ []) forest = refl
dynamic_item_answer item_functions.ExactlyOne ((x ∷ []) ∷ []) forest = tt
dynamic_item_answer item_functions.ExactlyOne ((x ∷ y ∷ xs) ∷ []) forest = refl
dynamic_item_answer item_functions.DeepEqual (xs ∷ ys ∷ []) forest = tt
dynamic_item_answer item_functions.Error [] forest = refl
dynamic_item_answer _ _ forest = tt

dynamic_called : (schemas : SchemaSet) (function : Function) (texts : Option TextFunction) (over_values : Option ValueFunction) (over_items : Option ItemFunction)
    (values : List Items) (forest : Forest)
    → IsDynamic (called_as texts over_values over_items schemas function values forest)
dynamic_called schemas function None None None values forest = dynamic_call function (map (views_of forest) values) forest
dynamic_called schemas function None None (Some over_items) values forest =
    dynamic_after (arguments_by schemas (item_parameters_of over_items) values forest) (λ seen left. item_answer over_items seen left)
    (dynamic_seen schemas (item_parameters_of over_items) values forest) (λ seen left. dynamic_item_answer over_items seen left)
dynamic_called schemas function None (Some over_values) over_items values forest =
    dynamic_after (all_argument_values schemas (value_parameters_of over_values) values forest)
    (λ found left. given (value_answer over_values found) (λ answer. answered answer left))
    (dynamic_all_values schemas (value_parameters_of over_values) values forest)
    (λ found left. dynamic_answered (value_answer over_values found) left (values_dynamic over_values found))
dynamic_called schemas function (Some texts) over_values over_items values forest =
    dynamic_given (all_argument_texts schemas forest values)
    (λ arguments. given (text_answer texts arguments) (λ answer. gives (atom answer ∷ []) forest))
    (λ arguments. dynamic_given (text_answer texts arguments) (λ answer. gives (atom answer ∷ []) forest) (λ answer. tt))

-- ---- operators

dynamic_act : (context : Context) → AreCallsDynamic context.calls → (operator : Operator) (values : List Items) (forest : Forest)
    → IsDynamic (acts context operator values forest)
dynamic_act context k (operators.Lit value) [] forest = tt
dynamic_act context k operators.Empty [] forest = tt
dynamic_act context k operators.Seq (xs ∷ ys ∷ []) forest = tt
dynamic_act context k operators.Nodes (xs ∷ []) forest = dynamic_choice (list_all is_node xs) (gives xs forest) wrong tt tt
dynamic_act context k operators.Order (xs ∷ []) forest = dynamic_order xs forest
dynamic_act context k (operators.Nth number reverse) (xs ∷ []) forest = tt
dynamic_act context k (operators.Final reverse) (xs ∷ []) forest = tt
dynamic_act context k operators.DataOf (xs ∷ []) forest =
    dynamic_given (atomized context.schemas forest xs) (λ ys. gives ys forest) (λ ys. tt)
dynamic_act context k (operators.Cast kind optional) (xs ∷ []) forest = dynamic_cast context.schemas kind optional xs forest
dynamic_act context k (operators.Castable kind optional) (xs ∷ []) forest = dynamic_castable context.schemas kind optional xs forest
dynamic_act context k (operators.Treat kind) (xs ∷ []) forest =
    dynamic_choice (is_instance context.schemas forest kind xs) (gives xs forest) (raises XPDY0050) tt refl
dynamic_act context k (operators.Call function) values forest = dynamic_called context.schemas function (text_function_of function) (value_function_of function) (item_function_of function) values forest
dynamic_act context k operators.Neg (xs ∷ []) forest = dynamic_on_one xs forest negation_of_item (λ x. dynamic_negation x forest)
dynamic_act context k (operators.Binary operator) (xs ∷ ys ∷ []) forest = dynamic_binary (class_of operator) xs ys forest
dynamic_act context k (operators.Construct constructor count) values forest =
    dynamic_constructor context.schemas constructor values forest
dynamic_act context k (operators.User signature count) values forest =
    dynamic_after (arguments_converted context.schemas signature.parameters values forest) (λ arguments left. context.calls signature arguments left)
    (dynamic_arguments context.schemas signature.parameters values forest) (λ arguments left. k signature arguments left)
dynamic_act context k _ _ forest = tt

-- each part raises the codes of dynamic errors alone, wherever it stands
abbrev AreDynamic : List Denotation → Type 0
AreDynamic [] = Unit {0}
AreDynamic (part ∷ parts) = ((bindings : Bindings) (forest : Forest) → IsDynamic (part bindings forest)) × AreDynamic parts

dynamic_all : (parts : List Denotation) (bindings : Bindings) (forest : Forest) → AreDynamic parts
    → IsDynamic (all_of parts bindings forest)
dynamic_all [] bindings forest h = tt
dynamic_all (part ∷ parts) bindings forest h =
    dynamic_after (part bindings forest) (λ value left. after (all_of parts bindings left) (λ values last. gives (value ∷ values) last))
    (h.0 bindings forest)
    (λ value left. dynamic_after (all_of parts bindings left) (λ values last. gives (value ∷ values) last)
    (dynamic_all parts bindings left h.1) (λ values last. tt))

dynamic_each : (next : ℕ → Item → Forest → Outcome Items) (number : ℕ) (done xs : Items) (forest : Forest)
    → ((n : ℕ) (x : Item) (now : Forest) → IsDynamic (next n x now)) → IsDynamic (for_each next number done xs forest)
dynamic_each next number done [] forest k = tt
dynamic_each next number done (x ∷ xs) forest k =
    dynamic_after (next number x forest) (λ more left. for_each next (suc number) (done ++ more) xs left) (k number x forest)
    (λ more left. dynamic_each next (suc number) (done ++ more) xs left k)

dynamic_search : (decisive : Bool) (test : Item → Forest → Outcome Items) (xs : Items) (forest : Forest)
    → ((x : Item) (now : Forest) → IsDynamic (test x now)) → IsDynamic (any_decides decisive test xs forest)
dynamic_search decisive test [] forest k = tt
dynamic_search decisive test (x ∷ xs) forest k =
    dynamic_after (test x forest) (λ ys left. given (condition_of ys)
    (λ truth. if decides decisive truth then gives (truth_value decisive) left else any_decides decisive test xs left)) (k x forest)
    (λ ys left. dynamic_given (condition_of ys)
    (λ truth. if decides decisive truth then gives (truth_value decisive) left else any_decides decisive test xs left)
    (λ truth. dynamic_choice (decides decisive truth) (gives (truth_value decisive) left) (any_decides decisive test xs left) tt
    (dynamic_search decisive test xs left k)))

dynamic_branch : (b : Bool) (chosen otherwise : Denotation) (bindings : Bindings) (forest : Forest)
    → IsDynamic (chosen bindings forest) → IsDynamic (otherwise bindings forest) → IsDynamic (branch b chosen otherwise bindings forest)
dynamic_branch true chosen otherwise bindings forest h k = h
dynamic_branch false chosen otherwise bindings forest h k = k

dynamic_switched : (schemas : SchemaSet) (cases : List TypeCase) (default : ℕ) (branches : List Denotation) (xs : Items)
    (bindings : Bindings) (forest : Forest)
    → AreDynamic branches → IsDynamic (switched schemas cases default branches xs bindings forest)
dynamic_switched schemas [] default (otherwise ∷ []) xs bindings forest h = h.0 (position_bound default xs ++ bindings) forest
dynamic_switched schemas (c ∷ cases) default (chosen ∷ branches) xs bindings forest h =
    dynamic_choice (is_instance schemas forest c.kind xs) (chosen (position_bound c.variable xs ++ bindings) forest)
    (switched schemas cases default branches xs bindings forest)
    (h.0 (position_bound c.variable xs ++ bindings) forest) (dynamic_switched schemas cases default branches xs bindings forest h.1)
dynamic_switched schemas [] default [] xs bindings forest h = tt
dynamic_switched schemas [] default (b ∷ d ∷ branches) xs bindings forest h = tt
dynamic_switched schemas (c ∷ cases) default [] xs bindings forest h = tt

-- ---- blocks

dynamic_keys : (orders : List KeyOrder) (parts : List Denotation) (bindings : Bindings) (forest : Forest) → AreDynamic parts
    → IsDynamic (tuple_keys orders parts bindings forest)
dynamic_keys [] parts bindings forest h = tt
dynamic_keys (order ∷ orders) [] bindings forest h = tt
dynamic_keys (order ∷ orders) (part ∷ parts) bindings forest h =
    dynamic_after (part bindings forest)
    (λ xs left. given (key_of xs) (λ key. after (tuple_keys orders parts bindings left) (λ keys last. gives (key ∷ keys) last)))
    (h.0 bindings forest)
    (λ xs left. dynamic_given (key_of xs) (λ key. after (tuple_keys orders parts bindings left) (λ keys last. gives (key ∷ keys) last))
    (λ key. dynamic_after (tuple_keys orders parts bindings left) (λ keys last. gives (key ∷ keys) last)
    (dynamic_keys orders parts bindings left h.1) (λ keys last. tt)))

dynamic_tuples_of_each : (next : ℕ → Item → Forest → Outcome (List Tuple)) (number : ℕ) (xs : Items) (forest : Forest)
    → ((n : ℕ) (x : Item) (now : Forest) → IsDynamic (next n x now)) → IsDynamic (tuples_of_each next number xs forest)
dynamic_tuples_of_each next number [] forest k = tt
dynamic_tuples_of_each next number (x ∷ xs) forest k =
    dynamic_after (next number x forest)
    (λ found left. after (tuples_of_each next (suc number) xs left) (λ others last. gives (found ++ others) last)) (k number x forest)
    (λ found left. dynamic_after (tuples_of_each next (suc number) xs left) (λ others last. gives (found ++ others) last)
    (dynamic_tuples_of_each next (suc number) xs left k) (λ others last. tt))

dynamic_tuples_if : (truth : Bool) (found : Forest → Outcome (List Tuple)) (forest : Forest) → IsDynamic (found forest)
    → IsDynamic (tuples_if truth found forest)
dynamic_tuples_if true found forest h = h
dynamic_tuples_if false found forest h = tt

dynamic_tuples : (kinds : List ClauseKind) (orders : List KeyOrder) (parts : List Denotation) (bound outer : Bindings) (forest : Forest)
    → AreDynamic parts → IsDynamic (tuples_of kinds orders parts bound outer forest)
dynamic_tuples [] orders parts bound outer forest h =
    dynamic_after (tuple_keys orders parts (bound ++ outer) forest) (λ keys left. gives (record { keys = keys; bound = bound } ∷ []) left)
    (dynamic_keys orders parts (bound ++ outer) forest h) (λ keys left. tt)
dynamic_tuples (kind ∷ kinds) orders [] bound outer forest h = tt
dynamic_tuples (kinds.For binder position ∷ others) orders (source ∷ parts) bound outer forest h =
    dynamic_after (source (bound ++ outer) forest)
    (λ xs left. tuples_of_each (λ number x now. tuples_of others orders parts
    (item_bound binder.variable position number x ++ bound) outer now) 1 xs left) (h.0 (bound ++ outer) forest)
    (λ xs left. dynamic_tuples_of_each
    (λ number x now. tuples_of others orders parts (item_bound binder.variable position number x ++ bound) outer now) 1 xs left
    (λ number x now. dynamic_tuples others orders parts (item_bound binder.variable position number x ++ bound) outer now h.1))
dynamic_tuples (kinds.Let binder ∷ others) orders (value ∷ parts) bound outer forest h =
    dynamic_after (value (bound ++ outer) forest) (λ xs left. tuples_of others orders parts ((binder.variable, xs) ∷ bound) outer left)
    (h.0 (bound ++ outer) forest)
    (λ xs left. dynamic_tuples others orders parts ((binder.variable, xs) ∷ bound) outer left h.1)
dynamic_tuples (kinds.Where ∷ others) orders (condition ∷ parts) bound outer forest h =
    dynamic_after (condition (bound ++ outer) forest)
    (λ xs left. given (condition_of xs) (λ truth. tuples_if truth (λ now. tuples_of others orders parts bound outer now) left))
    (h.0 (bound ++ outer) forest)
    (λ xs left. dynamic_given (condition_of xs) (λ truth. tuples_if truth (λ now. tuples_of others orders parts bound outer now) left)
    (λ truth. dynamic_tuples_if truth (λ now. tuples_of others orders parts bound outer now) left
    (dynamic_tuples others orders parts bound outer left h.1)))

dynamic_returned : (body : Denotation) (outer : Bindings) (done : Items) (tuples : List Bindings) (forest : Forest)
    → ((bindings : Bindings) (now : Forest) → IsDynamic (body bindings now)) → IsDynamic (returned body outer done tuples forest)
dynamic_returned body outer done [] forest k = tt
dynamic_returned body outer done (bound ∷ tuples) forest k =
    dynamic_after (body (bound ++ outer) forest) (λ more left. returned body outer (done ++ more) tuples left) (k (bound ++ outer) forest)
    (λ more left. dynamic_returned body outer (done ++ more) tuples left k)

dynamic_block_returned : (orders : List KeyOrder) (returns : List Denotation) (bindings : Bindings) (tuples : List Tuple) (forest : Forest)
    → AreDynamic returns → IsDynamic (block_returned orders returns bindings tuples forest)
dynamic_block_returned orders [] bindings tuples forest h = tt
dynamic_block_returned orders (body ∷ []) bindings tuples forest h =
    dynamic_returned body bindings [] (map (λ t. t.bound) (in_key_order orders tuples)) forest h.0
dynamic_block_returned orders (body ∷ other ∷ more) bindings tuples forest h = tt

dynamic_dropped : (n : ℕ) (parts : List Denotation) → AreDynamic parts → AreDynamic (drop n parts)
dynamic_dropped zero parts h = h
dynamic_dropped (suc n) [] h = tt
dynamic_dropped (suc n) (part ∷ parts) h = dynamic_dropped n parts h.1

dynamic_block : (kinds : List ClauseKind) (orders : List KeyOrder) (parts : List Denotation) (bindings : Bindings) (forest : Forest)
    → AreDynamic parts → IsDynamic (block_denoted kinds orders parts bindings forest)
dynamic_block kinds orders parts bindings forest h =
    dynamic_after (tuples_of kinds orders parts [] bindings forest)
    (block_returned orders (drop (length orders) (drop (length kinds) parts)) bindings)
    (dynamic_tuples kinds orders parts [] bindings forest h)
    (λ tuples left. dynamic_block_returned orders (drop (length orders) (drop (length kinds) parts)) bindings tuples left
    (dynamic_dropped (length orders) (drop (length kinds) parts) (dynamic_dropped (length kinds) parts h)))

dynamic_operator : (context : Context) → AreCallsDynamic context.calls → (operator : Operator) (parts : List Denotation) (bindings : Bindings) (forest : Forest)
    → AreDynamic parts → IsDynamic (denoted context operator parts bindings forest)
dynamic_operator context k (operators.Var number) [] bindings forest h =
    dynamic_given (look_up bindings number) (λ value. gives value forest) (λ value. tt)
dynamic_operator context k (operators.For binder position) (source ∷ body ∷ []) bindings forest h =
    dynamic_after (source bindings forest)
    (λ xs left. for_each (λ number x now. body (item_bound binder.variable position number x ++ bindings) now) 1 [] xs left)
    (h.0 bindings forest)
    (λ xs left. dynamic_each (λ number x now. body (item_bound binder.variable position number x ++ bindings) now) 1 [] xs left
    (λ number x now. h.1.0 (item_bound binder.variable position number x ++ bindings) now))
dynamic_operator context k (operators.SomeIn binder) (source ∷ test ∷ []) bindings forest h =
    dynamic_after (source bindings forest) (λ xs left. any_decides true (λ x now. test ((binder.variable, x ∷ []) ∷ bindings) now) xs left)
    (h.0 bindings forest)
    (λ xs left. dynamic_search true (λ x now. test ((binder.variable, x ∷ []) ∷ bindings) now) xs left
    (λ x now. h.1.0 ((binder.variable, x ∷ []) ∷ bindings) now))
dynamic_operator context k (operators.EveryIn binder) (source ∷ test ∷ []) bindings forest h =
    dynamic_after (source bindings forest) (λ xs left. any_decides false (λ x now. test ((binder.variable, x ∷ []) ∷ bindings) now) xs left)
    (h.0 bindings forest)
    (λ xs left. dynamic_search false (λ x now. test ((binder.variable, x ∷ []) ∷ bindings) now) xs left
    (λ x now. h.1.0 ((binder.variable, x ∷ []) ∷ bindings) now))
dynamic_operator context k (operators.Block kinds orders) parts bindings forest h = dynamic_block kinds orders parts bindings forest h
dynamic_operator context k (operators.Step axis asks number) [] bindings forest h =
    dynamic_given (look_up bindings number) (λ value. stepped context.schemas axis asks value forest)
    (λ value. dynamic_step context.schemas axis asks value forest)
dynamic_operator context k (operators.Let binder) (value ∷ body ∷ []) bindings forest h =
    dynamic_after (value bindings forest) (λ xs left. body ((binder.variable, xs) ∷ bindings) left) (h.0 bindings forest)
    (λ xs left. h.1.0 ((binder.variable, xs) ∷ bindings) left)
dynamic_operator context k (operators.Switch cases default) (operand ∷ branches) bindings forest h =
    dynamic_after (operand bindings forest) (λ xs left. switched context.schemas cases default branches xs bindings left)
    (h.0 bindings forest)
    (λ xs left. dynamic_switched context.schemas cases default branches xs bindings left h.1)
dynamic_operator context k operators.If (condition ∷ chosen ∷ otherwise ∷ []) bindings forest h =
    dynamic_after (condition bindings forest) (λ xs left. given (condition_of xs) (λ truth. branch truth chosen otherwise bindings left))
    (h.0 bindings forest)
    (λ xs left. dynamic_given (condition_of xs) (λ truth. branch truth chosen otherwise bindings left)
    (λ truth. dynamic_branch truth chosen otherwise bindings left (h.1.0 bindings left) (h.1.1.0 bindings left)))
dynamic_operator context k (operators.For binder position) _ bindings forest h = tt
dynamic_operator context k (operators.SomeIn binder) _ bindings forest h = tt
dynamic_operator context k (operators.EveryIn binder) _ bindings forest h = tt
dynamic_operator context k (operators.Let binder) _ bindings forest h = tt
dynamic_operator context k operators.If _ bindings forest h = tt
dynamic_operator context k (operators.Switch cases default) [] bindings forest h = tt
dynamic_operator context k operator parts bindings forest h =
    dynamic_after (all_of parts bindings forest) (acts context operator) (dynamic_all parts bindings forest h)
    (λ values left. dynamic_act context k operator values left)

-- ---- expressions and queries

mutual
  dynamic_expression : (A : Type 0) (context : Context) → AreCallsDynamic context.calls → (e : Expression A) (bindings : Bindings) (forest : Forest)
      → IsDynamic (meaning context e bindings forest)
  dynamic_expression A context k (At place outer annotation operator parts) bindings forest =
      dynamic_operator context k operator (meanings context parts) bindings forest (dynamic_parts A context k parts)

  dynamic_parts : (A : Type 0) (context : Context) → AreCallsDynamic context.calls → (parts : Parts A) → AreDynamic (meanings context parts)
  dynamic_parts A context k no_parts = tt
  dynamic_parts A context k (a_part first others) = (dynamic_expression A context k first, dynamic_parts A context k others)

pub expressions_raise_dynamic_codes : ExpressionsRaiseDynamicCodes
expressions_raise_dynamic_codes context e bindings forest calls =
    by_cases (meaning context e bindings forest)
    (dynamic_expression (Unit {0}) context (λ signature values now. of_codes (context.calls signature values now) (calls signature values now)) e bindings forest)

-- however many calls may be active
dynamic_calls : (A : Type 0) (schemas : SchemaSet) (functions : List (DeclaredFunction A)) (globals : Bindings) (left : ℕ)
    → AreCallsDynamic (calls_over schemas functions globals left)
unfolding calls_over
dynamic_calls A schemas functions globals zero signature values forest = refl
dynamic_calls A schemas functions globals (suc left) signature values forest =
    let context : Context = record { schemas = schemas; calls = calls_over schemas functions globals left } in
    dynamic_given (slice_get functions signature.number)
    (λ f. after (meaning context f.body (arguments_bound f.parameters values ++ globals) forest) (λ xs now. converted schemas f.result xs now))
    (λ f. dynamic_after (meaning context f.body (arguments_bound f.parameters values ++ globals) forest) (λ xs now. converted schemas f.result xs now)
    (dynamic_expression A context (dynamic_calls A schemas functions globals left) f.body (arguments_bound f.parameters values ++ globals) forest)
    (λ xs now. dynamic_converted_to (expected_atomic f.result) schemas xs now))

dynamic_globals : (A : Type 0) (schemas : SchemaSet) (functions : List (DeclaredFunction A)) (limit : ℕ) (ds : List (Declaration A))
    (documents : List PlainNode) (bindings : Bindings) (forest : Forest)
    → IsDynamic (globals_bound schemas functions limit ds documents bindings forest)
dynamic_globals A schemas functions limit [] documents bindings forest = tt
dynamic_globals A schemas functions limit (declarations.Function f ∷ others) documents bindings forest =
    dynamic_globals A schemas functions limit others documents bindings forest
dynamic_globals A schemas functions limit (Global name binder (Some value) ∷ others) documents bindings forest =
    dynamic_after (meaning (context_over schemas functions bindings limit) value bindings forest)
    (λ items left. globals_bound schemas functions limit others documents ((binder.variable, items) ∷ bindings) left)
    (dynamic_expression A (context_over schemas functions bindings limit) (dynamic_calls A schemas functions bindings limit) value bindings forest)
    (λ items left. dynamic_globals A schemas functions limit others documents ((binder.variable, items) ∷ bindings) left)
dynamic_globals A schemas functions limit (Global name binder None ∷ others) [] bindings forest = tt
dynamic_globals A schemas functions limit (Global name binder None ∷ others) (document ∷ documents) bindings forest =
    dynamic_globals A schemas functions limit others documents ((binder.variable, node document ∷ []) ∷ bindings) forest

pub queries_raise_dynamic_codes : QueriesRaiseDynamicCodes
queries_raise_dynamic_codes limit schemas core documents forest =
    let functions : List (DeclaredFunction (Unit {0})) = functions_of core.declarations in
    by_cases (outcome_within limit schemas core documents forest)
    (dynamic_after (globals_bound schemas functions limit core.declarations documents [] forest)
    (λ bindings left. meaning (context_over schemas functions bindings limit) core.body bindings left)
    (dynamic_globals (Unit {0}) schemas functions limit core.declarations documents [] forest)
    (λ bindings left. dynamic_expression (Unit {0}) (context_over schemas functions bindings limit) (dynamic_calls (Unit {0}) schemas functions bindings limit) core.body bindings left))

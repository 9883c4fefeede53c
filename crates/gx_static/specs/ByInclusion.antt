-- The static rules where each demand on the type of an operand is inclusion, and the judgement by them (XQuery 1.0 and XPath 2.0 Formal Semantics, section 4).
use Rattle.std.specs.Prelude.{◌≡◌, ℕ, ◌+◌, Bool, true, false, ◌&&◌, ◌||◌, List, [], ◌∷◌, ◌++◌, Option, None, Some, if◌then◌else◌}
use Rattle.gx_base.specs.declared.code.Code.TheVariants.{XPTY0004, XPTY0018}
use Rattle.gx_base.specs.declared.type_name.Builtin.{Builtin}
use Rattle.gx_base.specs.declared.type_name.Builtin.TheVariants.{AnyAtomic, Integer, Decimal, UntypedAtomic, Boolean}
use Rattle.gx_base.specs.declared.type_name.TypeName.{TypeName}
use Rattle.gx_types.specs.declared.item_type.ItemType.{ItemType}
use Rattle.gx_types.specs.declared.item_type.ItemType.TheVariants as items
use Rattle.gx_types.specs.SchemaSet.{SchemaSet}
use Rattle.gx_types.specs.SchemaInvariant.{IsSchemaSet}
use Rattle.gx_types.specs.SameType.{same_type}
use Rattle.gx_types.specs.Occurrence.{occurrence_of}
use Rattle.gx_types.specs.Prime.{prime_of}
use Rattle.gx_types.specs.TypeRules.{choice_of, times_of}
use Rattle.gx_types.specs.SequenceType.{SequenceType, never, item, optional, star}
use Rattle.gx_include.specs.Decision.{is_included}
use Rattle.gx_steptype.specs.StepType.{any_item}
use Rattle.gx_funcs.specs.declared.function.Function.{Function}
use Rattle.gx_funcs.specs.declared.function.Parameter.{Parameter}
use Rattle.gx_funcs.specs.declared.function.ParameterType.{ParameterType}
use Rattle.gx_funcs.specs.declared.function.ParameterType.TheVariants as parameters
use Rattle.gx_funcs.specs.Function.{parameters_of}
use Rattle.gx_core.specs.declared.expression.ArithmeticOp.{ArithmeticOp}
use Rattle.gx_core.specs.declared.expression.ArithmeticOp.TheVariants.{Div, IDiv}
use Rattle.gx_core.specs.declared.expression.BinaryClass.{BinaryClass}
use Rattle.gx_core.specs.declared.expression.BinaryClass.TheVariants.{Arithmetic, Value, General, Range, Nodes, Combination}
use Rattle.gx_core.specs.declared.expression.Binder.{Binder}
use Rattle.gx_core.specs.declared.expression.Declaration.TheVariants.{Global}
use Rattle.gx_core.specs.declared.expression.Declaration.TheVariants as declarations
use Rattle.gx_sorting.specs.declared.keys.KeyOrder.{KeyOrder}
use Rattle.gx_core.specs.declared.operator.ClauseKind.{ClauseKind}
use Rattle.gx_core.specs.declared.operator.ClauseKind.TheVariants as kinds
use Rattle.gx_core.specs.declared.operator.Operator.{Operator}
use Rattle.gx_core.specs.declared.operator.Operator.TheVariants as operators
use Rattle.gx_core.specs.BinaryOperators.{class_of}
use Rattle.gx_core.specs.Bindings.{Types, types_bound}
use Rattle.gx_core.specs.Expression.{CoreExpression, At, Parts, no_parts, a_part, each_of, annotation_of}
use Rattle.gx_core.specs.Queries.{Core, CoreDeclaration, TypedDeclaration}
use Rattle.gx_core.specs.QueryMeaning.{global_types, types_declared, parameter_types}
use Rattle.gx_core.specs.Soundness.{TypedExpression}
use Rattle.gx_static.specs.declared.comparison.Family.{Family}
use Rattle.gx_static.specs.declared.comparison.Family.TheVariants as families
use Rattle.gx_static.specs.Rule.{Ruling, has_type, has_none, type_if, atomic, all_items, integer_if, both_occur, value_comparison_type, boolean_types, nodes_type, optional_node, call_answer_ruling, seen_argument, if_taken, rule, ruling, is_as_written, node_comparison_rule, set_rule, tuples_occur, returned_rule, clauses_rule}
use Rattle.gx_static.specs.Demands.{family_type}
use Rattle.gx_static.specs.Judgement.{typed, judged, parts_judged}
use Rattle.gx_static.specs.NormalTypes.{IsNormalType, HaveNormalTypes, CastsToAtomicTypes}
use Rattle.gx_static.specs.QueryJudgement.{declaration_judged, declarations_judged}

-- ---- arithmetic, negations and ranges

-- at most one value of a built-in type, and any number of them
abbrev pub is_optional_value : SchemaSet → Builtin → SequenceType → Bool
is_optional_value schemas builtin t = is_included schemas t (optional (atomic builtin))

abbrev pub are_values : SchemaSet → Builtin → SequenceType → Bool
are_values schemas builtin t = is_included schemas t (star (atomic builtin))

-- `div` gives a decimal, `idiv` an integer, and all other operations an integer where both operands are integers
abbrev pub number_included : SchemaSet → ArithmeticOp → SequenceType → SequenceType → Builtin
number_included schemas Div left right = Decimal
number_included schemas IDiv left right = Integer
number_included schemas operation left right = integer_if (are_values schemas Integer left && are_values schemas Integer right)

abbrev pub arithmetic_included : SchemaSet → ArithmeticOp → (left right : SequenceType) → Ruling
arithmetic_included schemas operation left right =
    type_if (is_optional_value schemas Decimal left && is_optional_value schemas Decimal right)
    (if same_type never left then never else times_of (atomic (number_included schemas operation left right)) (both_occur left right))

abbrev pub negation_included : SchemaSet → SequenceType → Ruling
negation_included schemas operand =
    type_if (is_optional_value schemas Decimal operand) (times_of (atomic (integer_if (are_values schemas Integer operand))) (occurrence_of operand))

abbrev pub range_included : SchemaSet → (left right : SequenceType) → Ruling
range_included schemas left right = type_if (is_optional_value schemas Integer left && is_optional_value schemas Integer right) (star (atomic Integer))

-- ---- comparisons

-- at most one value of a family on both sides
abbrev pub are_optional_in : SchemaSet → (left right : SequenceType) → Family → Bool
are_optional_in schemas left right family = is_included schemas left (optional (family_type family)) && is_included schemas right (optional (family_type family))

abbrev pub value_comparison_included : SchemaSet → (left right : SequenceType) → Ruling
value_comparison_included schemas left right =
    type_if (are_optional_in schemas left right families.Number || are_optional_in schemas left right families.Text || are_optional_in schemas left right families.Truth)
    (value_comparison_type left right)

-- one item is of a type
abbrev pub is_item_of : SchemaSet → SequenceType → ItemType → Bool
is_item_of schemas t kind = is_included schemas (item kind) t

abbrev pub are_of : SchemaSet → (t u : SequenceType) → (a b : ItemType) → Bool
are_of schemas t u a b = is_item_of schemas t a && is_item_of schemas u b

-- two items of one family, or an untyped one and a boolean
abbrev pub are_comparable_kinds : SchemaSet → (a b : ItemType) → Bool
are_comparable_kinds schemas a b =
    are_of schemas (family_type families.Number) (family_type families.Number) a b
    || are_of schemas (family_type families.Text) (family_type families.Text) a b
    || are_of schemas (family_type families.Truth) (family_type families.Truth) a b
    || are_of schemas (atomic UntypedAtomic) (family_type families.Truth) a b
    || are_of schemas (family_type families.Truth) (atomic UntypedAtomic) a b

abbrev pub general_comparison_included : SchemaSet → (left right : SequenceType) → Ruling
general_comparison_included schemas left right =
    type_if (all_items (λ a. all_items (are_comparable_kinds schemas a) right) left) (if same_type never left then never else atomic Boolean)

abbrev pub binary_included : SchemaSet → BinaryClass → (left right : SequenceType) → Ruling
binary_included schemas (Arithmetic operation) left right = arithmetic_included schemas operation left right
binary_included schemas (Value op) left right = value_comparison_included schemas left right
binary_included schemas (General op) left right = general_comparison_included schemas left right
binary_included schemas (Nodes op) left right = node_comparison_rule schemas left right
binary_included schemas Range left right = range_included schemas left right
binary_included schemas (Combination op) left right = set_rule schemas op left right

-- ---- conditionals, paths and casts

abbrev pub conditional_included : SchemaSet → (condition chosen otherwise : SequenceType) → Ruling
conditional_included schemas condition chosen otherwise = type_if (is_included schemas condition (atomic Boolean)) (choice_of chosen otherwise)

abbrev pub quantifier_included : SchemaSet → Binder → (source test : SequenceType) → Ruling
quantifier_included schemas binder source test =
    type_if (is_as_written schemas binder.kind (prime_of source) && is_included schemas test (atomic Boolean)) (atomic Boolean)

-- a block: a condition is one boolean, and a key at most one value of one family
abbrev pub includes_clause : SchemaSet → ClauseKind → SequenceType → Bool
includes_clause schemas (kinds.For binder position) source = is_as_written schemas binder.kind (prime_of source)
includes_clause schemas (kinds.Let binder) value = is_as_written schemas binder.kind value
includes_clause schemas kinds.Where condition = is_included schemas condition (atomic Boolean)

abbrev pub includes_key : SchemaSet → SequenceType → Bool
includes_key schemas key =
    are_optional_in schemas key key families.Number || are_optional_in schemas key key families.Text || are_optional_in schemas key key families.Truth

abbrev pub block_included : SchemaSet → List ClauseKind → List KeyOrder → List SequenceType → Ruling
block_included schemas clauses keys types = clauses_rule (includes_clause schemas) clauses 0 (returned_rule (includes_key schemas) keys (tuples_occur clauses types)) types

abbrev pub order_included : SchemaSet → SequenceType → Ruling
order_included schemas operand =
    if is_included schemas operand nodes_type then has_type (times_of (prime_of operand) (occurrence_of operand)) else (if are_values schemas AnyAtomic operand then has_type operand else has_none XPTY0018 None)

-- the operand of a cast
abbrev pub cast_operand : (allows_empty : Bool) → SequenceType
cast_operand true = optional (atomic AnyAtomic)
cast_operand false = atomic AnyAtomic

abbrev pub cast_included : SchemaSet → TypeName → (allows_empty : Bool) → SequenceType → Ruling
cast_included schemas kind allows_empty operand =
    type_if (is_included schemas operand (cast_operand allows_empty)) (times_of (item (items.Atom kind)) (occurrence_of operand))

abbrev pub castable_included : SchemaSet → SequenceType → Ruling
castable_included schemas operand = type_if (is_optional_value schemas AnyAtomic operand) (atomic Boolean)

-- ---- calls

abbrev pub taken_type : ParameterType → SequenceType
taken_type parameters.Items = star any_item
taken_type parameters.OptionalItem = optional any_item
taken_type parameters.TruthValue = boolean_types
taken_type parameters.OptionalText = optional (family_type families.Text)
taken_type parameters.OneText = family_type families.Text
taken_type parameters.Texts = star (family_type families.Text)
taken_type parameters.OptionalValue = optional (atomic AnyAtomic)
taken_type parameters.OptionalNumber = optional (atomic Decimal)
taken_type parameters.OneNumber = atomic Decimal
taken_type parameters.Numbers = star (atomic Decimal)
taken_type parameters.Integers = star (atomic Integer)
taken_type parameters.Values = star (atomic AnyAtomic)
taken_type parameters.OneValue = atomic AnyAtomic
taken_type parameters.OptionalNode = optional_node
taken_type parameters.OneInteger = atomic Integer

abbrev pub arguments_included : SchemaSet → List Parameter → List SequenceType → (number : ℕ) → Ruling → Ruling
arguments_included schemas [] [] number ruling = ruling
arguments_included schemas (parameter ∷ others) (argument ∷ arguments) number ruling =
    if_taken (λ t. is_included schemas t (taken_type parameter.takes)) parameter.code number (arguments_included schemas others arguments (number + 1) ruling)
    (seen_argument schemas parameter.takes argument)
arguments_included schemas _ _ number ruling = has_none XPTY0004 None

abbrev pub call_included : SchemaSet → Function → List SequenceType → Ruling
call_included schemas function arguments =
    arguments_included schemas (parameters_of function) arguments 0 (call_answer_ruling schemas function arguments)

-- ---- each operator; the rules of all others name inclusion, or demand nothing of an operand

abbrev pub rule_included : SchemaSet → Operator → List SequenceType → Ruling
rule_included schemas operators.Order (operand ∷ []) = order_included schemas operand
rule_included schemas (operators.SomeIn binder) (source ∷ test ∷ []) = quantifier_included schemas binder source test
rule_included schemas (operators.EveryIn binder) (source ∷ test ∷ []) = quantifier_included schemas binder source test
rule_included schemas (operators.Block clauses keys) parts = block_included schemas clauses keys parts
rule_included schemas operators.If (condition ∷ chosen ∷ otherwise ∷ []) = conditional_included schemas condition chosen otherwise
rule_included schemas (operators.Cast kind allows_empty) (operand ∷ []) = cast_included schemas kind allows_empty operand
rule_included schemas (operators.Castable kind allows_empty) (operand ∷ []) = castable_included schemas operand
rule_included schemas (operators.Call function) arguments = call_included schemas function arguments
rule_included schemas operators.Neg (operand ∷ []) = negation_included schemas operand
rule_included schemas (operators.Binary operator) (left ∷ right ∷ []) = binary_included schemas (class_of operator) left right
rule_included schemas operator parts = rule schemas operator parts

-- as it stands in an expression
abbrev pub ruling_included : SchemaSet → Operator → List SequenceType → Types → Ruling
ruling_included schemas (operators.Var number) parts types = ruling schemas (operators.Var number) parts types
ruling_included schemas (operators.Step axis asks number) parts types = ruling schemas (operators.Step axis asks number) parts types
ruling_included schemas operator parts types = rule_included schemas operator parts

-- ---- the judgement

-- in the judgement of an expression, each operator whose parts have types has the type, or the code, that these rules give it
abbrev mutual
  pub IsJudgedByInclusion : SchemaSet → CoreExpression → Types → Type 0
  IsJudgedByInclusion schemas (At place outer annotation operator parts) types =
      PartsAreJudgedByInclusion schemas operator [] parts types
      × ((typing : Parts SequenceType) → parts_judged schemas operator [] parts types ≡ typed typing
      → ruling schemas operator (each_of annotation_of typing) types ≡ ruling_included schemas operator (each_of annotation_of typing) types)

  pub PartsAreJudgedByInclusion : SchemaSet → Operator → (before : List SequenceType) → Parts (Unit {0}) → Types → Type 0
  PartsAreJudgedByInclusion schemas operator before no_parts types = Unit {0}
  PartsAreJudgedByInclusion schemas operator before (a_part first others) types =
      IsJudgedByInclusion schemas first (types_bound operator before ++ types)
      × ((t : TypedExpression) → judged schemas first (types_bound operator before ++ types) ≡ typed t → PartsAreJudgedByInclusion schemas operator (before ++ annotation_of t ∷ []) others types)

-- each value and each body in turn, under the types of the globals before it
abbrev pub ValuesAreJudgedByInclusion : SchemaSet → List CoreDeclaration → Types → Type 0
ValuesAreJudgedByInclusion schemas [] types = Unit {0}
ValuesAreJudgedByInclusion schemas (declarations.Function function ∷ others) types =
    IsJudgedByInclusion schemas function.body (parameter_types function.parameters ++ types)
    × ((d : TypedDeclaration) → declaration_judged schemas (declarations.Function function) types ≡ typed d → ValuesAreJudgedByInclusion schemas others (global_types d ++ types))
ValuesAreJudgedByInclusion schemas (Global name binder None ∷ others) types =
    ValuesAreJudgedByInclusion schemas others (global_types (Global name binder None) ++ types)
ValuesAreJudgedByInclusion schemas (Global name binder (Some value) ∷ others) types =
    IsJudgedByInclusion schemas value types
    × ((d : TypedDeclaration) → declaration_judged schemas (Global name binder (Some value)) types ≡ typed d → ValuesAreJudgedByInclusion schemas others (global_types d ++ types))

-- and the body
pub record IsQueryJudgedByInclusion (schemas : SchemaSet) (core : Core) : Type 0 where
  pub values : ValuesAreJudgedByInclusion schemas core.declarations []
  pub body : (ds : List TypedDeclaration) → declarations_judged schemas core.declarations [] ≡ typed ds → IsJudgedByInclusion schemas core.body (types_declared ds [])

-- ---- laws

-- each cast of a query names an atomic type, and the type of each external variable and of each parameter is normal
abbrev pub IsNormalIfWritten : SchemaSet → Option SequenceType → Type 0
IsNormalIfWritten schemas None = Unit {0}
IsNormalIfWritten schemas (Some t) = IsNormalType schemas t

abbrev pub NameKnownTypes : SchemaSet → List CoreDeclaration → Type 0
NameKnownTypes schemas [] = Unit {0}
NameKnownTypes schemas (declarations.Function function ∷ others) =
    HaveNormalTypes schemas (parameter_types function.parameters) × CastsToAtomicTypes schemas function.body × NameKnownTypes schemas others
NameKnownTypes schemas (Global name binder None ∷ others) = IsNormalIfWritten schemas binder.kind × NameKnownTypes schemas others
NameKnownTypes schemas (Global name binder (Some value) ∷ others) = CastsToAtomicTypes schemas value × NameKnownTypes schemas others

pub record NamesKnownTypes (schemas : SchemaSet) (core : Core) : Type 0 where
  pub declarations : NameKnownTypes schemas core.declarations
  pub body : CastsToAtomicTypes schemas core.body

-- such a query is judged by inclusion
abbrev pub QueriesAreJudgedByInclusion : Type 0
QueriesAreJudgedByInclusion = (schemas : SchemaSet) (core : Core) → IsSchemaSet schemas → NamesKnownTypes schemas core → IsQueryJudgedByInclusion schemas core

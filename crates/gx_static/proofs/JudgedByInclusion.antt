-- A query is judged by inclusion.
use Rattle.std.proofs.Common.{◌≡◌, ℕ, ◌+◌, Bool, true, false, ◌&&◌, ◌||◌, inl, inr, List, [], ◌∷◌, ◌++◌, Option, None, Some, refl, sym, ◌∙◌, ap, subst, if◌then◌else◌}
use Rattle.std.proofs.lemmas.Bool.{and_from, and_parts, or_cases, or_left, or_right}
use Rattle.gx_base.specs.declared.name.Name.{Name}
use Rattle.gx_base.specs.declared.code.Code.TheVariants.{XPTY0004, XPTY0018}
use Rattle.gx_base.specs.declared.type_name.TypeName.{TypeName}
use Rattle.gx_base.specs.declared.type_name.Builtin.TheVariants.{Integer, Decimal, UntypedAtomic, Boolean}
use Rattle.gx_types.specs.declared.item_type.ItemType.{ItemType}
use Rattle.gx_types.specs.declared.item_type.ItemType.TheVariants as items
use Rattle.gx_types.specs.SchemaSet.{SchemaSet}
use Rattle.gx_types.specs.SchemaInvariant.{HoldsOfEach, IsSchemaSet}
use Rattle.gx_types.specs.Derivation.{bases_of}
use Rattle.gx_types.specs.Grounded.{Grounded}
use Rattle.gx_types.specs.SameType.{same_type}
use Rattle.gx_types.specs.Occurrence.{occurrence_of}
use Rattle.gx_types.specs.Prime.{prime_of}
use Rattle.gx_types.specs.TypeRules.{choice_of, times_of}
use Rattle.gx_types.specs.SequenceType.{SequenceType, never, nothing, item, both, either, optional, star, plus}
use Rattle.gx_include.specs.Decision.{is_included}
use Rattle.gx_include.proofs.Deciding.{inclusion_is_decided}
use Rattle.gx_steptype.specs.StepType.{any_item}
use Rattle.gx_funcs.specs.declared.function.Function.{Function}
use Rattle.gx_funcs.specs.declared.function.Parameter.{Parameter}
use Rattle.gx_funcs.specs.declared.function.ParameterType.{ParameterType}
use Rattle.gx_funcs.specs.declared.function.ParameterType.TheVariants as parameters
use Rattle.gx_funcs.specs.Function.{parameters_of}
use Rattle.gx_core.specs.declared.expression.ArithmeticOp.{ArithmeticOp}
use Rattle.gx_core.specs.declared.expression.ArithmeticOp.TheVariants as operations
use Rattle.gx_core.specs.declared.expression.BinaryClass.{BinaryClass}
use Rattle.gx_core.specs.declared.expression.BinaryClass.TheVariants as classes
use Rattle.gx_core.specs.declared.expression.Binder.{Binder}
use Rattle.gx_core.specs.declared.expression.Declaration.TheVariants.{Global}
use Rattle.gx_core.specs.declared.expression.Declaration.TheVariants as declarations
use Rattle.gx_sorting.specs.declared.keys.KeyOrder.{KeyOrder}
use Rattle.gx_core.specs.declared.operator.ClauseKind.{ClauseKind}
use Rattle.gx_core.specs.declared.operator.ClauseKind.TheVariants as kinds
use Rattle.gx_types.specs.Occurs.{Occurs}
use Rattle.gx_core.specs.declared.operator.Operator.{Operator}
use Rattle.gx_core.specs.declared.operator.Operator.TheVariants as operators
use Rattle.gx_core.specs.BinaryOperators.{class_of}
use Rattle.gx_core.specs.Bindings.{Types, types_bound}
use Rattle.gx_core.specs.Expression.{CoreExpression, At, Parts, no_parts, a_part, each_of, annotation_of, outer_of}
use Rattle.gx_core.specs.Queries.{CoreDeclaration, TypedDeclaration, CoreFunction}
use Rattle.gx_core.specs.QueryMeaning.{external_types, global_types, types_declared, parameter_types}
use Rattle.gx_core.specs.Soundness.{TypedExpression}
use Rattle.gx_static.specs.declared.comparison.Family.{Family}
use Rattle.gx_static.specs.declared.comparison.Family.TheVariants as families
use Rattle.gx_static.proofs.NormalRules.{seen_is_normal}
use Rattle.gx_static.specs.Rule.{result_rule, if_taken, seen_argument, Ruling, has_type, has_none, type_if, atomic, all_items, is_atomic_in, is_of_family, is_at_most_one, is_at_least_one, is_all_in, is_optional_in, are_of_one_family, are_comparable_items, integer_if, both_occur, number_type, arithmetic_rule, negation_rule, range_rule, value_comparison_type, value_comparison_rule, general_comparison_rule, binary_rule, conditional_rule, quantifier_rule, order_rule, cast_rule, castable_rule, nodes_type, is_as_written, takes_argument, arguments_rule, call_rule, rule, ruling, allows_clause, allows_key, tuples_occur, returned_rule, clauses_rule, call_answer_ruling}
use Rattle.gx_static.specs.Judgement.{Judged, typed, rejected, with_typed, judged}
use Rattle.gx_static.specs.QueryJudgement.{declared_as, declared_where, function_with, declaration_judged, declarations_judged}
use Rattle.gx_static.specs.NormalTypes.{GivesNormalType, CastsToAtomicType, IsOfKnownType, IsMadeOfItems, IsNormalType, HaveNormalTypes, CastsToAtomicTypes, PartsCastToAtomicTypes, IsNormalThroughout, AreNormalThroughout}
use Rattle.gx_static.specs.Demands.{Demand, of_type, of_family, of_atomic, of_any, meets_demand, demanded_type, family_type, AreOfOneFamily}
use Rattle.gx_static.specs.ByInclusion.{includes_clause, includes_key, is_optional_value, are_values, number_included, arithmetic_included, negation_included, range_included, are_optional_in, value_comparison_included, is_item_of, are_comparable_kinds, general_comparison_included, binary_included, conditional_included, quantifier_included, order_included, cast_included, castable_included, taken_type, arguments_included, call_included, rule_included, ruling_included, IsJudgedByInclusion, PartsAreJudgedByInclusion, ValuesAreJudgedByInclusion, IsNormalIfWritten, NameKnownTypes, QueriesAreJudgedByInclusion}
use Rattle.gx_static.proofs.DemandLaws.{demands_are_inclusion}
use Rattle.gx_static.proofs.DemandRules.{gives_if, all_pass, all_rules_demand_inclusion}
use Rattle.gx_type_laws.proofs.Items.{both_hold}
use Rattle.gx_static.proofs.NormalTyping.{bound_are_normal, IfTyped, made_typed, annotation_is_normal, annotations_are_normal, judged_is_normal, parts_are_normal}

same_tests : (a b : Bool) → (a ≡ true → b ≡ true) → (b ≡ true → a ≡ true) → a ≡ b
same_tests true true f h = refl
same_tests true false f h = sym (f refl)
same_tests false true f h = h refl
same_tests false false f h = refl

-- the two groupings of three tests
regrouped : (a b c : Bool) → (a && (b && c)) ≡ (a && b && c)
regrouped true b c = refl
regrouped false b c = refl

module _ (s : SchemaSet) (is : IsSchemaSet s) where
  g : Grounded (bases_of s)
  g = is.grounded

  -- ---- demands

  any_same : (demand : Demand) (t : SequenceType) → IsNormalType s t → all_items (meets_demand s demand) t ≡ is_included s t (star (demanded_type demand))
  any_same demand t n =
      let d = demands_are_inclusion s demand t g n in
      let i = inclusion_is_decided s t (star (demanded_type demand)) g in
      same_tests (all_items (meets_demand s demand) t) (is_included s t (star (demanded_type demand))) (λ e. i.1 (d.0.any_number e)) (λ e. d.1.any_number (i.0 e))

  optional_same : (demand : Demand) (t : SequenceType) → IsNormalType s t → (is_at_most_one t && all_items (meets_demand s demand) t) ≡ is_included s t (optional (demanded_type demand))
  optional_same demand t n =
      let d = demands_are_inclusion s demand t g n in
      let i = inclusion_is_decided s t (optional (demanded_type demand)) g in
      same_tests (is_at_most_one t && all_items (meets_demand s demand) t) (is_included s t (optional (demanded_type demand))) (λ e. i.1 (d.0.at_most_one e)) (λ e. d.1.at_most_one (i.0 e))

  one_same : (demand : Demand) (t : SequenceType) → IsNormalType s t → (is_at_least_one t && is_at_most_one t && all_items (meets_demand s demand) t) ≡ is_included s t (demanded_type demand)
  one_same demand t n =
      let d = demands_are_inclusion s demand t g n in
      let i = inclusion_is_decided s t (demanded_type demand) g in
      same_tests (is_at_least_one t && is_at_most_one t && all_items (meets_demand s demand) t) (is_included s t (demanded_type demand)) (λ e. i.1 (d.0.one e)) (λ e. d.1.one (i.0 e))

  -- ---- arithmetic, negations and ranges

  whole_same : (left right : SequenceType) → IsNormalType s left → IsNormalType s right → integer_if (is_all_in s Integer left && is_all_in s Integer right) ≡ integer_if (are_values s Integer left && are_values s Integer right)
  whole_same left right m n =
      let p : is_all_in s Integer left ≡ are_values s Integer left = any_same (of_type Integer) left m in
      let q : is_all_in s Integer right ≡ are_values s Integer right = any_same (of_type Integer) right n in
      λ i. integer_if (p i && q i)

  number_same : (operation : ArithmeticOp) (left right : SequenceType) → IsNormalType s left → IsNormalType s right → number_type s operation left right ≡ number_included s operation left right
  number_same operations.Div left right m n = refl
  number_same operations.IDiv left right m n = refl
  number_same _ left right m n = whole_same left right m n

  arithmetic_same : (operation : ArithmeticOp) (left right : SequenceType) → IsNormalType s left → IsNormalType s right → arithmetic_rule s operation left right ≡ arithmetic_included s operation left right
  arithmetic_same operation left right m n =
      let p : is_optional_in s Decimal left ≡ is_optional_value s Decimal left = optional_same (of_type Decimal) left m in
      let q : is_optional_in s Decimal right ≡ is_optional_value s Decimal right = optional_same (of_type Decimal) right n in
      let r = number_same operation left right m n in
      λ i. type_if (p i && q i) (if same_type never left then never else times_of (atomic (r i)) (both_occur left right))

  negation_same : (t : SequenceType) → IsNormalType s t → negation_rule s t ≡ negation_included s t
  negation_same t n =
      let p : is_optional_in s Decimal t ≡ is_optional_value s Decimal t = optional_same (of_type Decimal) t n in
      let q : is_all_in s Integer t ≡ are_values s Integer t = any_same (of_type Integer) t n in
      λ i. type_if (p i) (times_of (atomic (integer_if (q i))) (occurrence_of t))

  range_same : (left right : SequenceType) → IsNormalType s left → IsNormalType s right → range_rule s left right ≡ range_included s left right
  range_same left right m n =
      let p : is_optional_in s Integer left ≡ is_optional_value s Integer left = optional_same (of_type Integer) left m in
      let q : is_optional_in s Integer right ≡ is_optional_value s Integer right = optional_same (of_type Integer) right n in
      λ i. type_if (p i && q i) (star (atomic Integer))

  -- ---- comparisons

  abbrev one_family : (left right : SequenceType) → Bool
  one_family left right = are_optional_in s left right families.Number || are_optional_in s left right families.Text || are_optional_in s left right families.Truth

  family_from : (left right : SequenceType) (family : Family) → are_optional_in s left right family ≡ true → AreOfOneFamily s left right
  family_from left right family e =
      let p = and_parts (is_included s left (optional (family_type family))) (is_included s right (optional (family_type family))) e in
      (family, (inclusion_is_decided s left (optional (family_type family)) g).0 p.0, (inclusion_is_decided s right (optional (family_type family)) g).0 p.1)

  some_family : (left right : SequenceType) → one_family left right ≡ true → AreOfOneFamily s left right
  some_family left right e =
      elim (or_cases (are_optional_in s left right families.Number || are_optional_in s left right families.Text) (are_optional_in s left right families.Truth) e) as (λ _. AreOfOneFamily s left right) [
        | inl p ↦ elim (or_cases (are_optional_in s left right families.Number) (are_optional_in s left right families.Text) p) as (λ _. AreOfOneFamily s left right) [
          | inl q ↦ family_from left right families.Number q
          | inr q ↦ family_from left right families.Text q
        ]
        | inr p ↦ family_from left right families.Truth p
      ]

  among_families : (left right : SequenceType) (family : Family) → are_optional_in s left right family ≡ true → one_family left right ≡ true
  among_families left right families.Number e =
      or_left (are_optional_in s left right families.Number || are_optional_in s left right families.Text) (are_optional_in s left right families.Truth)
      (or_left (are_optional_in s left right families.Number) (are_optional_in s left right families.Text) e)
  among_families left right families.Text e =
      or_left (are_optional_in s left right families.Number || are_optional_in s left right families.Text) (are_optional_in s left right families.Truth)
      (or_right (are_optional_in s left right families.Number) (are_optional_in s left right families.Text) e)
  among_families left right families.Truth e = or_right (are_optional_in s left right families.Number || are_optional_in s left right families.Text) (are_optional_in s left right families.Truth) e

  is_family : (left right : SequenceType) → AreOfOneFamily s left right → one_family left right ≡ true
  is_family left right h =
      among_families left right h.0
      (and_from (is_included s left (optional (family_type h.0))) (is_included s right (optional (family_type h.0)))
      ((inclusion_is_decided s left (optional (family_type h.0)) g).1 h.1) ((inclusion_is_decided s right (optional (family_type h.0)) g).1 h.2))

  compared_same : (left right : SequenceType) → IsNormalType s left → IsNormalType s right → (is_at_most_one left && is_at_most_one right && are_of_one_family s left right) ≡ one_family left right
  compared_same left right m n =
      let test : Bool = is_at_most_one left && is_at_most_one right && are_of_one_family s left right in
      let t : SequenceType = value_comparison_type left right in
      let c = (all_rules_demand_inclusion s g).comparison left right m n in
      same_tests test (one_family left right) (λ e. is_family left right (c.0 ((gives_if test t).1 e))) (λ e. (gives_if test t).0 (c.1 (some_family left right e)))

  value_comparison_same : (left right : SequenceType) → IsNormalType s left → IsNormalType s right → value_comparison_rule s left right ≡ value_comparison_included s left right
  value_comparison_same left right m n = ap (λ (b : Bool). type_if b (value_comparison_type left right)) (compared_same left right m n)

  -- a test of each item type of a normal type
  made_same : (f h : ItemType → Bool) (t : SequenceType) → IsMadeOfItems s t → ((kind : ItemType) → IsOfKnownType s kind → f kind ≡ h kind) → all_items f t ≡ all_items h t
  made_same f h never m k = absurd m
  made_same f h nothing m k = absurd m
  made_same f h (item kind) m k = k kind m
  made_same f h (both a b) m k = let p = made_same f h a m.0 k in let q = made_same f h b m.1 k in λ i. p i && q i
  made_same f h (either a b) m k = let p = made_same f h a m.0 k in let q = made_same f h b m.1 k in λ i. p i && q i
  made_same f h (optional a) m k = made_same f h a m k
  made_same f h (star a) m k = made_same f h a m k
  made_same f h (plus a) m k = made_same f h a m k

  items_same : (f h : ItemType → Bool) (t : SequenceType) → IsNormalType s t → ((kind : ItemType) → IsOfKnownType s kind → f kind ≡ h kind) → all_items f t ≡ all_items h t
  items_same f h never n k = refl
  items_same f h nothing n k = refl
  items_same f h (item kind) n k = made_same f h (item kind) n k
  items_same f h (both a b) n k = made_same f h (both a b) n k
  items_same f h (either a b) n k = made_same f h (either a b) n k
  items_same f h (optional a) n k = made_same f h (optional a) n k
  items_same f h (star a) n k = made_same f h (star a) n k
  items_same f h (plus a) n k = made_same f h (plus a) n k

  family_same : (family : Family) (kind : ItemType) → IsOfKnownType s kind → is_of_family s family kind ≡ is_item_of s (family_type family) kind
  family_same family kind known = one_same (of_family family) (item kind) known

  untyped_same : (kind : ItemType) → IsOfKnownType s kind → is_atomic_in s UntypedAtomic kind ≡ is_item_of s (atomic UntypedAtomic) kind
  untyped_same kind known = one_same (of_type UntypedAtomic) (item kind) known

  comparable_same : (a b : ItemType) → IsOfKnownType s a → IsOfKnownType s b → are_comparable_items s a b ≡ are_comparable_kinds s a b
  comparable_same a b k l =
      let na = family_same families.Number a k in
      let nb = family_same families.Number b l in
      let ta = family_same families.Text a k in
      let tb = family_same families.Text b l in
      let ba = family_same families.Truth a k in
      let bb = family_same families.Truth b l in
      let ua = untyped_same a k in
      let ub = untyped_same b l in
      λ i. (na i && nb i) || (ta i && tb i) || (ba i && bb i) || (ua i && bb i) || (ba i && ub i)

  general_comparison_same : (left right : SequenceType) → IsNormalType s left → IsNormalType s right → general_comparison_rule s left right ≡ general_comparison_included s left right
  general_comparison_same left right m n =
      ap (λ (b : Bool). type_if b (if same_type never left then never else atomic Boolean))
      (items_same (λ a. all_items (are_comparable_items s a) right) (λ a. all_items (are_comparable_kinds s a) right) left m
      (λ a k. items_same (are_comparable_items s a) (are_comparable_kinds s a) right n (λ b l. comparable_same a b k l)))

  binary_same : (class : BinaryClass) (left right : SequenceType) → IsNormalType s left → IsNormalType s right → binary_rule s class left right ≡ binary_included s class left right
  binary_same (classes.Arithmetic operation) left right m n = arithmetic_same operation left right m n
  binary_same (classes.Value op) left right m n = value_comparison_same left right m n
  binary_same (classes.General op) left right m n = general_comparison_same left right m n
  binary_same (classes.Nodes op) left right m n = refl
  binary_same classes.Range left right m n = range_same left right m n
  binary_same (classes.Combination op) left right m n = refl

  -- ---- conditionals, paths and casts

  conditional_same : (condition chosen otherwise : SequenceType) → IsNormalType s condition → conditional_rule s condition chosen otherwise ≡ conditional_included s condition chosen otherwise
  conditional_same condition chosen otherwise n =
      ap (λ (b : Bool). type_if b (choice_of chosen otherwise)) (regrouped (is_at_least_one condition) (is_at_most_one condition) (is_all_in s Boolean condition) ∙ one_same (of_type Boolean) condition n)

  quantifier_same : (binder : Binder) (source test : SequenceType) → IsNormalType s test → quantifier_rule s binder source test ≡ quantifier_included s binder source test
  quantifier_same binder source test n =
      ap (λ (b : Bool). type_if b (atomic Boolean)) (grouped (is_as_written s binder.kind (prime_of source)) (is_at_least_one test) (is_optional_in s Boolean test)
      ∙ ap (λ (b : Bool). is_as_written s binder.kind (prime_of source) && b) (regrouped (is_at_least_one test) (is_at_most_one test) (is_all_in s Boolean test) ∙ one_same (of_type Boolean) test n))
    where
      grouped : (a b c : Bool) → (a && b && c) ≡ (a && (b && c))
      grouped true b c = refl
      grouped false b c = refl

  -- ---- blocks

  clause_same : (kind : ClauseKind) (t : SequenceType) → IsNormalType s t → allows_clause s kind t ≡ includes_clause s kind t
  clause_same (kinds.For binder position) t n = refl
  clause_same (kinds.Let binder) t n = refl
  clause_same kinds.Where t n = regrouped (is_at_least_one t) (is_at_most_one t) (is_all_in s Boolean t) ∙ one_same (of_type Boolean) t n

  key_same : (t : SequenceType) → IsNormalType s t → allows_key s t ≡ includes_key s t
  key_same t n = twice (is_at_most_one t) (are_of_one_family s t t) ∙ compared_same t t n n
    where
      twice : (a b : Bool) → (a && b) ≡ (a && a && b)
      twice true b = refl
      twice false b = refl

  returned_same : (orders : List KeyOrder) (tuples : Occurs) (ts : List SequenceType) → HoldsOfEach (IsNormalType s) ts → returned_rule (allows_key s) orders tuples ts ≡ returned_rule (includes_key s) orders tuples ts
  returned_same [] tuples [] n = refl
  returned_same [] tuples (t ∷ []) n = refl
  returned_same [] tuples (t ∷ u ∷ ts) n = refl
  returned_same (order ∷ orders) tuples [] n = refl
  returned_same (order ∷ orders) tuples (t ∷ ts) n =
      let test = key_same t n.0 in
      let others = returned_same orders tuples ts n.1 in
      λ i. if test i then others i else has_none XPTY0004 None

  clauses_same : (clauses : List ClauseKind) (orders : List KeyOrder) (tuples : Occurs) (number : ℕ) (ts : List SequenceType) → HoldsOfEach (IsNormalType s) ts
      → clauses_rule (allows_clause s) clauses number (returned_rule (allows_key s) orders tuples) ts ≡ clauses_rule (includes_clause s) clauses number (returned_rule (includes_key s) orders tuples) ts
  clauses_same [] orders tuples number ts n = returned_same orders tuples ts n
  clauses_same (kind ∷ clauses) orders tuples number [] n = refl
  clauses_same (kind ∷ clauses) orders tuples number (t ∷ ts) n =
      let test = clause_same kind t n.0 in
      let others = clauses_same clauses orders tuples (number + 1) ts n.1 in
      λ i. if test i then others i else has_none XPTY0004 (Some number)

  order_same : (t : SequenceType) → IsNormalType s t → order_rule s t ≡ order_included s t
  order_same t n =
      ap (λ (b : Bool). if is_included s t nodes_type then has_type (times_of (prime_of t) (occurrence_of t)) else (if b then has_type t else has_none XPTY0018 None)) (any_same of_atomic t n)

  cast_same : (kind : TypeName) (allows_empty : Bool) (t : SequenceType) → IsNormalType s t → cast_rule kind allows_empty t ≡ cast_included s kind allows_empty t
  cast_same kind true t n = ap (λ (b : Bool). type_if b (times_of (item (items.Atom kind)) (occurrence_of t))) (optional_same of_atomic t n)
  cast_same kind false t n = ap (λ (b : Bool). type_if b (times_of (item (items.Atom kind)) (occurrence_of t))) (one_same of_atomic t n)

  castable_same : (t : SequenceType) → IsNormalType s t → castable_rule t ≡ castable_included s t
  castable_same t n = ap (λ (b : Bool). type_if b (atomic Boolean)) (optional_same of_atomic t n)

  -- ---- calls

  argument_same : (takes : ParameterType) (t : SequenceType) → IsNormalType s t → takes_argument s takes t ≡ is_included s t (taken_type takes)
  argument_same parameters.Items t n = sym (all_pass s t) ∙ any_same of_any t n
  argument_same parameters.OptionalItem t n =
      let a = (all_rules_demand_inclusion s g).argument t n in
      let i = inclusion_is_decided s t (optional any_item) g in
      same_tests (is_at_most_one t) (is_included s t (optional any_item)) (λ e. i.1 (a.0 e)) (λ e. a.1 (i.0 e))
  argument_same parameters.TruthValue t n = refl
  argument_same parameters.OptionalText t n = optional_same (of_family families.Text) t n
  argument_same parameters.OneText t n = one_same (of_family families.Text) t n
  argument_same parameters.Texts t n = any_same (of_family families.Text) t n
  argument_same parameters.OptionalValue t n = optional_same of_atomic t n
  argument_same parameters.OptionalNumber t n = optional_same (of_type Decimal) t n
  argument_same parameters.OneNumber t n = one_same (of_type Decimal) t n
  argument_same parameters.Numbers t n = any_same (of_type Decimal) t n
  argument_same parameters.Integers t n = any_same (of_type Integer) t n
  argument_same parameters.Values t n = any_same of_atomic t n
  argument_same parameters.OneValue t n = one_same of_atomic t n
  argument_same parameters.OptionalNode t n = refl
  argument_same parameters.OneInteger t n = one_same (of_type Integer) t n

  taken_same : (p : Parameter) (number : ℕ) (next other : Ruling) (r : Ruling) → GivesNormalType s r → next ≡ other
      → if_taken (takes_argument s p.takes) p.code number next r ≡ if_taken (λ t. is_included s t (taken_type p.takes)) p.code number other r
  taken_same p number next other (has_type t) n e = let test = argument_same p.takes t n in λ i. if test i then e i else has_none p.code (Some number)
  taken_same p number next other (has_none code part) n e = refl

  arguments_same : (ps : List Parameter) (ts : List SequenceType) (number : ℕ) (r : Ruling) → HoldsOfEach (IsNormalType s) ts → arguments_rule s ps ts number r ≡ arguments_included s ps ts number r
  arguments_same [] [] number r n = refl
  arguments_same [] (t ∷ ts) number r n = refl
  arguments_same (p ∷ ps) [] number r n = refl
  arguments_same (p ∷ ps) (t ∷ ts) number r n =
      taken_same p number (arguments_rule s ps ts (number + 1) r) (arguments_included s ps ts (number + 1) r) (seen_argument s p.takes t) (seen_is_normal s p.takes t is n.0)
      (arguments_same ps ts (number + 1) r n.1)

  call_same : (function : Function) (ts : List SequenceType) → HoldsOfEach (IsNormalType s) ts → call_rule s function ts ≡ call_included s function ts
  unfolding call_rule
  call_same function ts n = arguments_same (parameters_of function) ts 0 (call_answer_ruling s function ts) n

  -- ---- each operator

  rule_same : (operator : Operator) (ts : List SequenceType) → HoldsOfEach (IsNormalType s) ts → rule s operator ts ≡ rule_included s operator ts
  rule_same operators.Order (t ∷ []) n = order_same t n.0
  rule_same (operators.SomeIn binder) (source ∷ test ∷ []) n = quantifier_same binder source test n.1.0
  rule_same (operators.EveryIn binder) (source ∷ test ∷ []) n = quantifier_same binder source test n.1.0
  rule_same (operators.Block clauses keys) ts n = clauses_same clauses keys (tuples_occur clauses ts) 0 ts n
  rule_same operators.If (condition ∷ chosen ∷ otherwise ∷ []) n = conditional_same condition chosen otherwise n.0
  rule_same (operators.Cast kind allows_empty) (t ∷ []) n = cast_same kind allows_empty t n.0
  rule_same (operators.Castable kind allows_empty) (t ∷ []) n = castable_same t n.0
  rule_same (operators.Call function) ts n = call_same function ts n
  rule_same operators.Neg (t ∷ []) n = negation_same t n.0
  rule_same (operators.Binary operator) (left ∷ right ∷ []) n = binary_same (class_of operator) left right n.0 n.1.0
  rule_same _ _ n = refl

  ruling_same : (operator : Operator) (ts : List SequenceType) (types : Types) → HoldsOfEach (IsNormalType s) ts → ruling s operator ts types ≡ ruling_included s operator ts types
  ruling_same (operators.Var number) ts types n = refl
  ruling_same (operators.Step axis asks number) ts types n = refl
  ruling_same operator ts types n = rule_same operator ts n

-- ---- expressions

abbrev IsNormalBinding : SchemaSet → ℕ × SequenceType → Type 0
IsNormalBinding s binding = IsNormalType s binding.1

mutual
  expression_included : (s : SchemaSet) → IsSchemaSet s → (e : CoreExpression) (types : Types) → CastsToAtomicTypes s e → HaveNormalTypes s types → IsJudgedByInclusion s e types
  expression_included s is (At place outer tt operator parts) types c n = (
    parts_included s is operator [] parts types c.0 c.1 n tt,
    λ ts j. ruling_same s is operator (each_of annotation_of ts) types
        (annotations_are_normal s ts (subst (IfTyped (AreNormalThroughout s)) j (parts_are_normal s is operator [] parts types c.0 c.1 n tt))),
  )

  parts_included : (s : SchemaSet) → IsSchemaSet s → (operator : Operator) (before : List SequenceType) (parts : Parts (Unit {0})) (types : Types) → CastsToAtomicType s operator → PartsCastToAtomicTypes s parts → HaveNormalTypes s types
      → HoldsOfEach (IsNormalType s) before → PartsAreJudgedByInclusion s operator before parts types
  parts_included s is operator before no_parts types o c n b = tt
  parts_included s is operator before (a_part first others) types o c n b =
      let inner : HaveNormalTypes s (types_bound operator before ++ types) = both_hold (IsNormalBinding s) (types_bound operator before) types (bound_are_normal s operator before o b) n in (
        expression_included s is first (types_bound operator before ++ types) c.0 inner,
        λ t j. parts_included s is operator (before ++ annotation_of t ∷ []) others types o c.1 n
            (both_hold (IsNormalType s) before (annotation_of t ∷ []) b
            (annotation_is_normal s t (subst (IfTyped (IsNormalThroughout s)) j (judged_is_normal s is first (types_bound operator before ++ types) c.0 inner)), tt)),
      )

-- ---- whole queries

external_is_normal : (s : SchemaSet) (binder : Binder) (kind : Option SequenceType) → IsNormalIfWritten s kind → HaveNormalTypes s (external_types binder kind)
external_is_normal s binder None h = tt
external_is_normal s binder (Some t) h = (h, tt)

abbrev DeclaresNormally : SchemaSet → TypedDeclaration → Type 0
DeclaresNormally s d = HaveNormalTypes s (global_types d)

declared_is_normal : (s : SchemaSet) (name : Name) (binder : Binder) (t : TypedExpression) → IsNormalThroughout s t → IfTyped (DeclaresNormally s) (declared_as s name binder t)
declared_is_normal s name binder t h =
    elim (is_as_written s binder.kind (annotation_of t)) as (λ (b : Bool). IfTyped (DeclaresNormally s) (if b then typed (Global name binder (Some t)) else rejected binder.place XPTY0004)) [
      | true ↦ (annotation_is_normal s t h, tt)
      | false ↦ tt
    ]

value_is_normal : (s : SchemaSet) → IsSchemaSet s → (name : Name) (binder : Binder) (value : CoreExpression) (types : Types) → CastsToAtomicTypes s value → HaveNormalTypes s types
    → IfTyped (DeclaresNormally s) (declaration_judged s (Global name binder (Some value)) types)
value_is_normal s is name binder value types c n =
    made_typed (IsNormalThroughout s) (DeclaresNormally s) (judged s value types) (declared_as s name binder) (judged_is_normal s is value types c n) (λ t h. declared_is_normal s name binder t h)

-- a function declares no variable
function_is_normal : (s : SchemaSet) (function : CoreFunction) (types : Types) → IfTyped (DeclaresNormally s) (declaration_judged s (declarations.Function function) types)
function_is_normal s function types =
    made_typed (λ t. Unit {0}) (DeclaresNormally s) (judged s function.body (parameter_types function.parameters ++ types)) (function_with s function.place function.name function.parameters function.result)
    (always (judged s function.body (parameter_types function.parameters ++ types))) (λ t h. by_ruling t (result_rule s function.result (annotation_of t)))
  where
    always : (j : Judged TypedExpression) → IfTyped (λ t. Unit {0}) j
    always (typed t) = tt
    always (rejected place code) = tt

    by_ruling : (t : TypedExpression) (r : Ruling) → IfTyped (DeclaresNormally s)
        (declared_where (outer_of t) (declarations.Function (record { place = function.place; name = function.name; parameters = function.parameters; result = function.result; body = t })) r)
    by_ruling t (has_type u) = tt
    by_ruling t (has_none code part) = tt

values_included : (s : SchemaSet) → IsSchemaSet s → (ds : List CoreDeclaration) (types : Types) → NameKnownTypes s ds → HaveNormalTypes s types → ValuesAreJudgedByInclusion s ds types
values_included s is [] types h n = tt
values_included s is (declarations.Function function ∷ ds) types h n = (
  expression_included s is function.body (parameter_types function.parameters ++ types) h.1 (both_hold (IsNormalBinding s) (parameter_types function.parameters) types h.0 n),
  λ d j. values_included s is ds (global_types d ++ types) h.2
      (both_hold (IsNormalBinding s) (global_types d) types (subst (IfTyped (DeclaresNormally s)) j (function_is_normal s function types)) n),
)
values_included s is (Global name binder None ∷ ds) types h n =
    values_included s is ds (external_types binder binder.kind ++ types) h.1 (both_hold (IsNormalBinding s) (external_types binder binder.kind) types (external_is_normal s binder binder.kind h.0) n)
values_included s is (Global name binder (Some value) ∷ ds) types h n = (
  expression_included s is value types h.0 n,
  λ d j. values_included s is ds (global_types d ++ types) h.1
      (both_hold (IsNormalBinding s) (global_types d) types (subst (IfTyped (DeclaresNormally s)) j (value_is_normal s is name binder value types h.0 n)) n),
)

-- the types of the globals behind declarations
abbrev LeaveNormally : SchemaSet → Types → List TypedDeclaration → Type 0
LeaveNormally s types ds = HaveNormalTypes s (types_declared ds types)

declarations_are_normal : (s : SchemaSet) → IsSchemaSet s → (ds : List CoreDeclaration) (types : Types) → NameKnownTypes s ds → HaveNormalTypes s types → IfTyped (LeaveNormally s types) (declarations_judged s ds types)
declarations_are_normal s is [] types h n = n
declarations_are_normal s is (declarations.Function function ∷ ds) types h n =
    made_typed (DeclaresNormally s) (LeaveNormally s types) (declaration_judged s (declarations.Function function) types) (λ d. with_typed (declarations_judged s ds (global_types d ++ types)) (λ ts. typed (d ∷ ts)))
    (function_is_normal s function types)
    (λ d k. made_typed (LeaveNormally s (global_types d ++ types)) (LeaveNormally s types) (declarations_judged s ds (global_types d ++ types)) (λ ts. typed (d ∷ ts))
    (declarations_are_normal s is ds (global_types d ++ types) h.2 (both_hold (IsNormalBinding s) (global_types d) types k n)) (λ ts l. l))
declarations_are_normal s is (Global name binder None ∷ ds) types h n =
    made_typed (LeaveNormally s (external_types binder binder.kind ++ types)) (LeaveNormally s types) (declarations_judged s ds (external_types binder binder.kind ++ types)) (λ ts. typed (Global name binder None ∷ ts))
    (declarations_are_normal s is ds (external_types binder binder.kind ++ types) h.1 (both_hold (IsNormalBinding s) (external_types binder binder.kind) types (external_is_normal s binder binder.kind h.0) n))
    (λ ts k. k)
declarations_are_normal s is (Global name binder (Some value) ∷ ds) types h n =
    made_typed (DeclaresNormally s) (LeaveNormally s types) (declaration_judged s (Global name binder (Some value)) types) (λ d. with_typed (declarations_judged s ds (global_types d ++ types)) (λ ts. typed (d ∷ ts)))
    (value_is_normal s is name binder value types h.0 n)
    (λ d k. made_typed (LeaveNormally s (global_types d ++ types)) (LeaveNormally s types) (declarations_judged s ds (global_types d ++ types)) (λ ts. typed (d ∷ ts))
    (declarations_are_normal s is ds (global_types d ++ types) h.1 (both_hold (IsNormalBinding s) (global_types d) types k n)) (λ ts l. l))

pub queries_are_judged_by_inclusion : QueriesAreJudgedByInclusion
queries_are_judged_by_inclusion s core is h = record {
  values = values_included s is core.declarations [] h.declarations tt;
  body = λ ds j. expression_included s is core.body (types_declared ds []) h.body
      (subst (IfTyped (LeaveNormally s [])) j (declarations_are_normal s is core.declarations [] h.declarations tt));
}

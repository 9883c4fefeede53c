-- The rules that test item types demand inclusion.
use Rattle.std.proofs.Common.{◌≡◌, ◌↔◌, Bool, true, false, ◌&&◌, ◌||◌, ◌⊎◌, inl, inr, None, refl, if◌then◌else◌}
use Rattle.std.proofs.lemmas.Bool.{and_from, and_parts, or_cases, or_left, or_right}
use Rattle.gx_base.specs.declared.code.Code.TheVariants.{XPTY0018}
use Rattle.gx_base.specs.declared.type_name.Builtin.{Builtin}
use Rattle.gx_base.specs.declared.type_name.Builtin.TheVariants.{Integer, Decimal, Boolean}
use Rattle.gx_types.specs.declared.item_type.ItemType.TheVariants as items
use Rattle.gx_types.specs.SchemaSet.{SchemaSet}
use Rattle.gx_types.specs.Derivation.{bases_of}
use Rattle.gx_types.specs.Grounded.{Grounded}
use Rattle.gx_types.specs.Occurrence.{occurrence_of}
use Rattle.gx_types.specs.Prime.{prime_of}
use Rattle.gx_types.specs.SequenceType.{SequenceType, never, nothing, item, both, either, optional, star, plus}
use Rattle.gx_types.specs.TypeRules.{choice_of, times_of}
use Rattle.gx_include.specs.Inclusion.{IsIncluded}
use Rattle.gx_include.specs.Decision.{is_included}
use Rattle.gx_include.proofs.Deciding.{inclusion_is_decided}
use Rattle.gx_steptype.specs.StepType.{any_item}
use Rattle.gx_static.specs.declared.comparison.Family.{Family}
use Rattle.gx_static.specs.declared.comparison.Family.TheVariants as families
use Rattle.gx_static.specs.Rule.{has_type, has_none, type_if, integer_if, arithmetic_type, value_comparison_type, atomic, all_items, is_atomic, is_at_most_one, is_at_least_one, is_all_in, is_optional_in, is_of_family, are_of_family, are_of_one_family, nodes_type, order_rule}
use Rattle.gx_static.specs.NormalTypes.{IsNormalType}
use Rattle.gx_static.specs.Demands.{Demand, of_type, of_family, of_atomic, of_any, meets_demand, demanded_type, family_type, IsIncludedIfMet, IsMetIfIncluded, GivesType, AreOfOneFamily, RulesDemandInclusion, AllRulesDemandInclusion}
use Rattle.gx_static.proofs.DemandLaws.{demands_are_inclusion}

pub gives_if : (test : Bool) (t : SequenceType) → GivesType (type_if test t) ↔ (test ≡ true)
gives_if true t = (λ _. refl, λ _. tt)
gives_if false t = (λ h. absurd h, λ e. absurd (cc))

-- a rule whose test is a fact gives a type exactly where the fact holds
exactly : (test : Bool) (t : SequenceType) (Fact : Type 0) → (test ≡ true → Fact) → (Fact → test ≡ true) → GivesType (type_if test t) ↔ Fact
exactly test t Fact f g = (λ h. f ((gives_if test t).0 h), λ q. (gives_if test t).1 (g q))

pub all_pass : (s : SchemaSet) (t : SequenceType) → all_items (meets_demand s of_any) t ≡ true
all_pass s never = refl
all_pass s nothing = refl
all_pass s (item kind) = refl
all_pass s (both a b) = and_from (all_items (meets_demand s of_any) a) (all_items (meets_demand s of_any) b) (all_pass s a) (all_pass s b)
all_pass s (either a b) = and_from (all_items (meets_demand s of_any) a) (all_items (meets_demand s of_any) b) (all_pass s a) (all_pass s b)
all_pass s (optional a) = all_pass s a
all_pass s (star a) = all_pass s a
all_pass s (plus a) = all_pass s a

-- a type that two tests may give
gives_by_either : (first second : Bool) (t u : SequenceType) → GivesType (if first then has_type t else (if second then has_type u else has_none XPTY0018 None)) ↔ ((first ≡ true) ⊎ (second ≡ true))
gives_by_either true second t u = (λ _. inl refl, λ _. tt)
gives_by_either false true t u = (λ _. inr refl, λ _. tt)
gives_by_either false false t u = (λ h. absurd h, λ h. elim h as (λ _. ⊥) [ inl e ↦ cc | inr e ↦ cc ])

module _ (s : SchemaSet) (g : Grounded (bases_of s)) where
  included : (demand : Demand) (t : SequenceType) → IsNormalType s t → IsIncludedIfMet s demand t
  included demand t n = (demands_are_inclusion s demand t g n).0

  met : (demand : Demand) (t : SequenceType) → IsNormalType s t → IsMetIfIncluded s demand t
  met demand t n = (demands_are_inclusion s demand t g n).1

  -- two operands of at most one value each
  both_optional : (b : Builtin) (left right given : SequenceType) → IsNormalType s left → IsNormalType s right
      → GivesType (type_if (is_optional_in s b left && is_optional_in s b right) given) ↔ (IsIncluded s left (optional (atomic b)) × IsIncluded s right (optional (atomic b)))
  both_optional b left right given m n =
      exactly (is_optional_in s b left && is_optional_in s b right) given (IsIncluded s left (optional (atomic b)) × IsIncluded s right (optional (atomic b)))
      (λ e. let p = and_parts (is_optional_in s b left) (is_optional_in s b right) e in
      ((included (of_type b) left m).at_most_one p.0, (included (of_type b) right n).at_most_one p.1))
      (λ h. and_from (is_optional_in s b left) (is_optional_in s b right) ((met (of_type b) left m).at_most_one h.0) ((met (of_type b) right n).at_most_one h.1))

  -- at most one value of a family
  family_included : (family : Family) (t : SequenceType) → IsNormalType s t → is_at_most_one t ≡ true → all_items (is_of_family s family) t ≡ true → IsIncluded s t (optional (family_type family))
  family_included family t n e f = (included (of_family family) t n).at_most_one (and_from (is_at_most_one t) (all_items (is_of_family s family) t) e f)

  family_met : (family : Family) (t : SequenceType) → IsNormalType s t → IsIncluded s t (optional (family_type family)) → (is_at_most_one t ≡ true) × (all_items (is_of_family s family) t ≡ true)
  family_met family t n i = and_parts (is_at_most_one t) (all_items (is_of_family s family) t) ((met (of_family family) t n).at_most_one i)

  both_of_family : (left right : SequenceType) → IsNormalType s left → IsNormalType s right → is_at_most_one left ≡ true → is_at_most_one right ≡ true
      → (family : Family) → are_of_family s left right family ≡ true → AreOfOneFamily s left right
  both_of_family left right m n e f family h =
      let p = and_parts (all_items (is_of_family s family) left) (all_items (is_of_family s family) right) h in
      (family, family_included family left m e p.0, family_included family right n f p.1)

  of_one_family : (left right : SequenceType) → IsNormalType s left → IsNormalType s right → is_at_most_one left ≡ true → is_at_most_one right ≡ true
      → are_of_one_family s left right ≡ true → AreOfOneFamily s left right
  of_one_family left right m n e f h =
      elim (or_cases (are_of_family s left right families.Number || are_of_family s left right families.Text) (are_of_family s left right families.Truth) h) as (λ _. AreOfOneFamily s left right) [
        | inl p ↦ elim (or_cases (are_of_family s left right families.Number) (are_of_family s left right families.Text) p) as (λ _. AreOfOneFamily s left right) [
          | inl q ↦ both_of_family left right m n e f families.Number q
          | inr q ↦ both_of_family left right m n e f families.Text q
        ]
        | inr p ↦ both_of_family left right m n e f families.Truth p
      ]

  some_family : (left right : SequenceType) (family : Family) → are_of_family s left right family ≡ true → are_of_one_family s left right ≡ true
  some_family left right families.Number h =
      or_left (are_of_family s left right families.Number || are_of_family s left right families.Text) (are_of_family s left right families.Truth)
      (or_left (are_of_family s left right families.Number) (are_of_family s left right families.Text) h)
  some_family left right families.Text h =
      or_left (are_of_family s left right families.Number || are_of_family s left right families.Text) (are_of_family s left right families.Truth)
      (or_right (are_of_family s left right families.Number) (are_of_family s left right families.Text) h)
  some_family left right families.Truth h = or_right (are_of_family s left right families.Number || are_of_family s left right families.Text) (are_of_family s left right families.Truth) h

  compared : (left right given : SequenceType) → IsNormalType s left → IsNormalType s right
      → GivesType (type_if (is_at_most_one left && is_at_most_one right && are_of_one_family s left right) given) ↔ AreOfOneFamily s left right
  compared left right given m n =
      exactly (is_at_most_one left && is_at_most_one right && are_of_one_family s left right) given (AreOfOneFamily s left right)
      (λ e. let p = and_parts (is_at_most_one left && is_at_most_one right) (are_of_one_family s left right) e in
      let q = and_parts (is_at_most_one left) (is_at_most_one right) p.0 in
      of_one_family left right m n q.0 q.1 p.1)
      (λ h. let p = family_met h.0 left m h.1 in
      let q = family_met h.0 right n h.2 in
      and_from (is_at_most_one left && is_at_most_one right) (are_of_one_family s left right)
      (and_from (is_at_most_one left) (is_at_most_one right) p.0 q.0)
      (some_family left right h.0 (and_from (all_items (is_of_family s h.0) left) (all_items (is_of_family s h.0) right) p.1 q.1)))

  -- the two groupings of three tests
  regrouped : (a b c : Bool) → (a && (b && c)) ≡ (a && b && c)
  regrouped true b c = refl
  regrouped false b c = refl

  one_boolean : (t given : SequenceType) → IsNormalType s t → GivesType (type_if (is_at_least_one t && is_optional_in s Boolean t) given) ↔ IsIncluded s t (atomic Boolean)
  one_boolean t given n =
      exactly (is_at_least_one t && is_optional_in s Boolean t) given (IsIncluded s t (atomic Boolean))
      (λ e. let same = regrouped (is_at_least_one t) (is_at_most_one t) (is_all_in s Boolean t) in (included (of_type Boolean) t n).one (cc))
      (λ i. let same = regrouped (is_at_least_one t) (is_at_most_one t) (is_all_in s Boolean t) in let e = (met (of_type Boolean) t n).one i in cc)

  atomic_optional : (t given : SequenceType) → IsNormalType s t → GivesType (type_if (is_at_most_one t && all_items is_atomic t) given) ↔ IsIncluded s t (optional (demanded_type of_atomic))
  atomic_optional t given n =
      exactly (is_at_most_one t && all_items is_atomic t) given (IsIncluded s t (optional (demanded_type of_atomic))) (included of_atomic t n).at_most_one (met of_atomic t n).at_most_one

  atomic_one : (t given : SequenceType) → IsNormalType s t → GivesType (type_if (is_at_least_one t && is_at_most_one t && all_items is_atomic t) given) ↔ IsIncluded s t (demanded_type of_atomic)
  atomic_one t given n =
      exactly (is_at_least_one t && is_at_most_one t && all_items is_atomic t) given (IsIncluded s t (demanded_type of_atomic)) (included of_atomic t n).one (met of_atomic t n).one

  at_most_one_item : (t : SequenceType) → IsNormalType s t → (is_at_most_one t ≡ true) ↔ IsIncluded s t (optional any_item)
  at_most_one_item t n = (
    λ e. (included of_any t n).at_most_one (and_from (is_at_most_one t) (all_items (meets_demand s of_any) t) e (all_pass s t)),
    λ i. (and_parts (is_at_most_one t) (all_items (meets_demand s of_any) t) ((met of_any t n).at_most_one i)).0,
  )

  ordered : (t : SequenceType) → IsNormalType s t → GivesType (order_rule s t) ↔ (IsIncluded s t nodes_type ⊎ IsIncluded s t (star (demanded_type of_atomic)))
  ordered t n = (
    λ h. elim (either_test.0 h) as (λ _. IsIncluded s t nodes_type ⊎ IsIncluded s t (star (demanded_type of_atomic))) [
      | inl e ↦ inl ((inclusion_is_decided s t nodes_type g).0 e)
      | inr e ↦ inr ((included of_atomic t n).any_number e)
    ],
    λ h. either_test.1 (elim h as (λ _. (is_included s t nodes_type ≡ true) ⊎ (all_items is_atomic t ≡ true)) [
      | inl i ↦ inl ((inclusion_is_decided s t nodes_type g).1 i)
      | inr i ↦ inr ((met of_atomic t n).any_number i)
    ]),
  )
    where
      either_test : GivesType (order_rule s t) ↔ ((is_included s t nodes_type ≡ true) ⊎ (all_items is_atomic t ≡ true))
      either_test = gives_by_either (is_included s t nodes_type) (all_items is_atomic t) (times_of (prime_of t) (occurrence_of t)) t

  rules : RulesDemandInclusion s
  rules = record {
    arithmetic = λ operation left right m n. both_optional Decimal left right (arithmetic_type s operation left right) m n;
    range = λ left right m n. both_optional Integer left right (star (atomic Integer)) m n;
    negation = λ operand n. exactly (is_optional_in s Decimal operand) (times_of (atomic (integer_if (is_all_in s Integer operand))) (occurrence_of operand)) (IsIncluded s operand (optional (atomic Decimal)))
        (included (of_type Decimal) operand n).at_most_one (met (of_type Decimal) operand n).at_most_one;
    comparison = λ left right m n. compared left right (value_comparison_type left right) m n;
    condition = λ chosen otherwise condition n. one_boolean condition (choice_of chosen otherwise) n;
    cast = λ kind operand n. atomic_one operand (times_of (item (items.Atom kind)) (occurrence_of operand)) n;
    optional_cast = λ kind operand n. atomic_optional operand (times_of (item (items.Atom kind)) (occurrence_of operand)) n;
    castable = λ operand n. atomic_optional operand (atomic Boolean) n;
    order = ordered;
    argument = at_most_one_item;
  }

pub all_rules_demand_inclusion : AllRulesDemandInclusion
all_rules_demand_inclusion s g = rules s g

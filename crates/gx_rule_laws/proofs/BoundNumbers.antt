-- The numbers that plans bind: compiling keeps them, none stands twice, and 0 is none of them.
use Rattle.std.proofs.Common.{◌≡◌, ◌≢◌, ℕ, zero, suc, ◌+◌, ◌≤◌, Bool, true, false, ◌||◌, List, [], ◌∷◌, ◌++◌, refl, sym, ◌∙◌, ap, nat_eq, arith}
use Rattle.std.proofs.lemmas.Bool.{eq-eqb}
use Rattle.std.proofs.lemmas.List.{append-nil}
use Rattle.gx_base.specs.declared.place.Place.{Place}
use Rattle.gx_types.specs.SequenceType.{SequenceType}
use Rattle.gx_core.specs.declared.operator.Operator.{Operator}
use Rattle.gx_core.specs.declared.operator.Operator.TheVariants as operators
use Rattle.gx_core.specs.Bindings.{position_numbers, numbers_new_in}
use Rattle.gx_core.specs.Expression.{At, Parts, no_parts, a_part, plain, plain_parts}
use Rattle.gx_core.specs.Invariant.{is_among, numbers_bound, numbers_bound_in}
use Rattle.gx_core.specs.Soundness.{TypedExpression}
use Rattle.gx_core.specs.WrittenTypes.{IsOverWrittenTypes, NamesWrittenTypes, PartsNameWrittenTypes}
use Rattle.gx_plan.specs.declared.plan.Carried.{Carried}
use Rattle.gx_plan.specs.Compiling.{compiled_operator, compiled, compiled_parts}
use Rattle.gx_sound_typing.proofs.VariableTables.{one_if, times, times_joined}

-- ---- numbers none of which stands twice, and 0 is none of them

pub record AreNumbers (numbers : List ℕ) : Type 0 where
  pub once : (number : ℕ) → times numbers number ≤ 1
  pub none : times numbers 0 ≡ 0

front_at_most : (a b c : ℕ) → c ≡ a + b → c ≤ 1 → a ≤ 1
front_at_most a b c e h = omega arith

behind_at_most : (a b c : ℕ) → c ≡ a + b → c ≤ 1 → b ≤ 1
behind_at_most a b c e h = omega arith

front_is_none : (a b c : ℕ) → c ≡ a + b → c ≡ 0 → a ≡ 0
front_is_none a b c e h = omega arith

behind_is_none : (a b c : ℕ) → c ≡ a + b → c ≡ 0 → b ≡ 0
behind_is_none a b c e h = omega arith

pub none_in_front : (front behind : List ℕ) → times (front ++ behind) 0 ≡ 0 → times front 0 ≡ 0
none_in_front front behind h = front_is_none (times front 0) (times behind 0) (times (front ++ behind) 0) (times_joined front behind 0) h

pub none_behind : (front behind : List ℕ) → times (front ++ behind) 0 ≡ 0 → times behind 0 ≡ 0
none_behind front behind h = behind_is_none (times front 0) (times behind 0) (times (front ++ behind) 0) (times_joined front behind 0) h

pub front_numbers : (front behind : List ℕ) → AreNumbers (front ++ behind) → AreNumbers front
front_numbers front behind h = record {
  once = λ number. front_at_most (times front number) (times behind number) (times (front ++ behind) number) (times_joined front behind number) (h.once number);
  none = none_in_front front behind h.none;
}

pub numbers_behind : (front behind : List ℕ) → AreNumbers (front ++ behind) → AreNumbers behind
numbers_behind front behind h = record {
  once = λ number. behind_at_most (times front number) (times behind number) (times (front ++ behind) number) (times_joined front behind number) (h.once number);
  none = none_behind front behind h.none;
}

-- stands in gx_sound_typing/proofs/VariableTables too
pub absent : (numbers : List ℕ) (number : ℕ) → is_among numbers number ≡ false → times numbers number ≡ 0
absent [] number h = refl
absent (m ∷ numbers) number h =
    elim (nat_eq m number) as (λ (b : Bool). (b || is_among numbers number) ≡ false → one_if b + times numbers number ≡ 0) [
      | true ↦ λ e. absurd (cc)
      | false ↦ λ e. let rest = absent numbers number e in omega arith
    ] h

one_here : (m number : ℕ) → m ≡ number → one_if (nat_eq m number) ≡ 1
one_here m number e = ap (λ (b : Bool). one_if b) (eq-eqb m number e)

pub is_not_none : (number : ℕ) (rest : List ℕ) → times (number ∷ rest) 0 ≡ 0 → number ≢ 0
is_not_none number rest h e = let one = one_here number 0 e in omega arith

are_apart : (first second : ℕ) (rest : List ℕ) → times (first ∷ second ∷ rest) second ≤ 1 → second ≢ first
are_apart first second rest h e =
    let one = one_here first second (sym e) in
    let another = one_here second second refl in omega arith

-- the variable of a position is not that of the item
pub position_apart : (variable position : ℕ) (rest : List ℕ) → AreNumbers (variable ∷ position_numbers position ++ rest) → position ≢ variable
position_apart variable zero rest h e = is_not_none variable rest h.none (sym e)
position_apart variable (suc position) rest h e = are_apart variable (suc position) rest (h.once (suc position)) e

-- ---- compiling keeps numbers, and the types of cases

operator_numbers : (place outer : Place) (kind : SequenceType) (operator : Operator) (parts : Parts Carried)
    → numbers_bound (compiled_operator place outer kind operator parts) ≡ numbers_bound_in operator [] parts
operator_numbers place outer kind operators.Nodes (a_part operand no_parts) = sym (append-nil (numbers_bound operand))
operator_numbers place outer kind _ parts = refl

mutual
  pub compiled_numbers : (t : TypedExpression) → numbers_bound (compiled t) ≡ numbers_bound (plain t)
  compiled_numbers (At place outer kind operator parts) =
      operator_numbers place outer kind operator (compiled_parts parts) ∙ compiled_numbers_in operator [] parts

  compiled_numbers_in : (operator : Operator) (before : List (Unit {0})) (parts : Parts SequenceType)
      → numbers_bound_in operator before (compiled_parts parts) ≡ numbers_bound_in operator before (plain_parts parts)
  compiled_numbers_in operator before no_parts = refl
  compiled_numbers_in operator before (a_part first others) =
      let here = compiled_numbers first in
      let there = compiled_numbers_in operator (before ++ tt ∷ []) others in
      λ i. numbers_new_in operator before ++ here i ++ there i

operator_written : (place outer : Place) (kind : SequenceType) (operator : Operator) (parts : Parts Carried) → IsOverWrittenTypes operator
    → PartsNameWrittenTypes parts → NamesWrittenTypes (compiled_operator place outer kind operator parts)
operator_written place outer kind operators.Nodes (a_part operand no_parts) own h = h.0
operator_written place outer kind _ parts own h = (own, h)

mutual
  pub compiled_written : (t : TypedExpression) → NamesWrittenTypes (plain t) → NamesWrittenTypes (compiled t)
  compiled_written (At place outer kind operator parts) h =
      operator_written place outer kind operator (compiled_parts parts) h.0 (compiled_parts_written parts h.1)

  compiled_parts_written : (parts : Parts SequenceType) → PartsNameWrittenTypes (plain_parts parts) → PartsNameWrittenTypes (compiled_parts parts)
  compiled_parts_written no_parts h = tt
  compiled_parts_written (a_part first others) h = (compiled_written first h.0, compiled_parts_written others h.1)

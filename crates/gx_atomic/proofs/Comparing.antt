-- Values with themselves, empty lists, and values that can be compared.
use Rattle.std.proofs.Common.{◌≡◌, Bool, true, false, cond, List, [], ◌∷◌, Some, Ok, refl, ap, ◌∙◌}
use Rattle.std.specs.Prelude.{◌↔◌, map, All, Option, None, option_map, unwrap_or, is_some}
use Rattle.std.specs.declared.cmp.Ordering.{Ordering}
use Rattle.std.specs.declared.cmp.Ordering.TheVariants.{Less, Equal, Greater}
use Rattle.std.proofs.lemmas.Cmp.{nat_list_cmp_total, int_cmp_total, tied_itself}
use Rattle.std.proofs.lemmas.List.Elements.{All-head, All-tail}
use Rattle.gx_num.specs.Number.{units_of}
use Rattle.gx_facets.specs.declared.AtomValue.{AtomValue}
use Rattle.gx_facets.specs.declared.AtomValue.TheVariants.{Untyped, Str, Truth, Num}
use Rattle.gx_facets.specs.declared.Atomic.{Atomic}
use Rattle.gx_facets.specs.Value.{order_of}
use Rattle.gx_atomic.specs.declared.comparison.Op.{Op}
use Rattle.gx_atomic.specs.declared.comparison.Op.TheVariants.{Eq}
use Rattle.gx_atomic.specs.Comparison.{Decision, holds, is_decisive, comparison_of_casts, pair_comparison, pair_decision, pairs_of, first_decision, general_comparison}
use Rattle.gx_atomic.specs.JoinKey.{join_key_of, same_key, keys_are_written_alike}
use Rattle.gx_atomic.specs.Laws.{ValuesAreEqualToThemselves, KeysAreEqualAsValues, EmptyListsCompareFalse, ComparableByFamilies, are_comparable}
use Rattle.gx_atomic.proofs.BooleanText.{by_boolean}
use Rattle.gx_atomic.proofs.Decisions.{first_decision-cons}

-- ---- a value with itself

order-itself : (value : AtomValue) → order_of value value ≡ Some Equal
order-itself (Untyped text) = ap Some (tied_itself nat_list_cmp_total text)
order-itself (Str text) = ap Some (tied_itself nat_list_cmp_total text)
order-itself (Truth true) = refl
order-itself (Truth false) = refl
order-itself (Num n) = ap Some (tied_itself int_cmp_total (units_of n))

pub equal_to_themselves : ValuesAreEqualToThemselves
equal_to_themselves op value = ap (option_map (holds op)) (order-itself value)

-- ---- equal keys

same_where_equal : (a b : Atomic) → (same_key (join_key_of a) (join_key_of b) ≡ true) ↔ (order_of a.value b.value ≡ Some Equal)
same_where_equal a b = (by (order_of a.value b.value), λ e. ap (λ (o : Option Ordering). unwrap_or (option_map (holds Eq) o) false) e)
  where
    by : (o : Option Ordering) → unwrap_or (option_map (holds Eq) o) false ≡ true → o ≡ Some Equal
    by None h = absurd (cc)
    by (Some Less) h = absurd (cc)
    by (Some Equal) h = refl
    by (Some Greater) h = absurd (cc)

pub keys_equal : KeysAreEqualAsValues
keys_equal = record {
  equal = same_where_equal;
  hashed = λ a b e. keys_are_written_alike (join_key_of a) (join_key_of b) ((same_where_equal a b).1 e);
}

-- ---- empty lists

nothing_right : (op : Op) (a : List Atomic) → general_comparison op a [] ≡ Some (Ok false)
nothing_right op [] = refl
nothing_right op (x ∷ xs) = nothing_right op xs

pub empty_lists : EmptyListsCompareFalse
empty_lists = record { empty_left = λ op b. refl; empty_right = nothing_right }

-- ---- values that can be compared

pairs_comparable : (op : Op) (a b : AtomValue) → is_some (pair_comparison op a b) ≡ are_comparable a b
pairs_comparable op (Untyped s) (Untyped t) = refl
pairs_comparable op (Untyped s) (Str t) = refl
pairs_comparable op (Untyped s) (Truth b) = by_boolean (λ cast. is_some (comparison_of_casts op cast (Ok (Truth b))) ≡ true) (λ c. refl) refl s
pairs_comparable op (Untyped s) (Num n) = refl
pairs_comparable op (Str s) (Untyped t) = refl
pairs_comparable op (Str s) (Str t) = refl
pairs_comparable op (Str s) (Truth b) = refl
pairs_comparable op (Str s) (Num n) = refl
pairs_comparable op (Truth b) (Untyped t) = by_boolean (λ cast. is_some (comparison_of_casts op (Ok (Truth b)) cast) ≡ true) (λ c. refl) refl t
pairs_comparable op (Truth b) (Str t) = refl
pairs_comparable op (Truth b) (Truth d) = refl
pairs_comparable op (Truth b) (Num n) = refl
pairs_comparable op (Num m) (Untyped t) = refl
pairs_comparable op (Num m) (Str t) = refl
pairs_comparable op (Num m) (Truth d) = refl
pairs_comparable op (Num m) (Num n) = refl

module _ (op : Op) where
  abbrev IsComparable : Atomic × Atomic → Type 0
  IsComparable pair = are_comparable pair.0.value pair.1.value ≡ true

  either_some : (b : Bool) (d e : Decision) → is_some d ≡ true → is_some e ≡ true → is_some (cond b d e) ≡ true
  either_some true d e p q = p
  either_some false d e p q = q

  pairs_decide : (pairs : List (Atomic × Atomic)) → All IsComparable pairs → is_some (first_decision (map (pair_decision op) pairs)) ≡ true
  pairs_decide [] all = refl
  pairs_decide (pair ∷ pairs) all =
      let d = pair_decision op pair in
      let others = first_decision (map (pair_decision op) pairs) in
      let here = pairs_comparable op pair.0.value pair.1.value ∙ All-head IsComparable pair pairs all in
      ap is_some (first_decision-cons d (map (pair_decision op) pairs))
      ∙ either_some (is_decisive d) d others here (pairs_decide pairs (All-tail IsComparable pair pairs all))

pub comparable : ComparableByFamilies
comparable = record { pairs = pairs_comparable; lists = λ op a b all. pairs_decide op (pairs_of a b) all }

-- The general comparison of values of one family, by their keys.
use Rattle.std.proofs.Common.{◌≡◌, Bool, true, false, ◌||◌, cond, List, [], ◌∷◌, map, Some, Ok, refl, ap, ◌∙◌}
use Rattle.std.specs.Prelude.{find, unwrap_or}
use Rattle.std.specs.List.{list_any, All}
use Rattle.std.proofs.lemmas.List.Elements.{All-head, All-tail}
use Rattle.std.proofs.lemmas.List.Folds.{list_any-append}
use Rattle.gx_facets.specs.declared.Atomic.{Atomic}
use Rattle.gx_facets.specs.declared.AtomValue.{AtomValue}
use Rattle.gx_facets.specs.declared.AtomValue.TheVariants.{Untyped, Str, Truth, Num}
use Rattle.gx_facets.specs.Value.{same_family}
use Rattle.gx_atomic.specs.declared.comparison.Op.TheVariants.{Eq}
use Rattle.gx_atomic.specs.Comparison.{Decision, are_equal, is_decisive, pair_comparison, pair_decision, pairs_of, first_decision}
use Rattle.gx_atomic.specs.JoinKey.{join_key_of, same_key}
use Rattle.gx_join_table.specs.Joining.{have_equal_keys}
use Rattle.gx_join_table.specs.Laws.{EqualKeysAreEqualValues}

compared : (a b : AtomValue) → same_family a b ≡ true → pair_comparison Eq a b ≡ Some (Ok (are_equal a b))
compared (Untyped s) (Untyped t) e = refl
compared (Untyped s) (Str t) e = refl
compared (Untyped s) (Truth q) e = absurd (cc)
compared (Untyped s) (Num n) e = absurd (cc)
compared (Str s) (Untyped t) e = refl
compared (Str s) (Str t) e = refl
compared (Str s) (Truth q) e = absurd (cc)
compared (Str s) (Num n) e = absurd (cc)
compared (Truth p) (Untyped t) e = absurd (cc)
compared (Truth p) (Str t) e = absurd (cc)
compared (Truth p) (Truth q) e = refl
compared (Truth p) (Num n) e = absurd (cc)
compared (Num m) (Untyped t) e = absurd (cc)
compared (Num m) (Str t) e = absurd (cc)
compared (Num m) (Truth q) e = absurd (cc)
compared (Num m) (Num n) e = refl

abbrev AreOfOneFamily : Atomic × Atomic → Type 0
AreOfOneFamily pair = same_family pair.0.value pair.1.value ≡ true

abbrev pair_is_equal : Atomic × Atomic → Bool
pair_is_equal pair = are_equal pair.0.value pair.1.value

decided : (pairs : List (Atomic × Atomic)) → All AreOfOneFamily pairs → first_decision (map (pair_decision Eq) pairs) ≡ Some (Ok (list_any pair_is_equal pairs))
decided [] all = refl
decided (pair ∷ pairs) all =
    ap (λ (d : Decision). unwrap_or (cond (is_decisive d) (Some d) (find is_decisive (map (pair_decision Eq) pairs))) (Some (Ok false))) (compared pair.0.value pair.1.value (All-head AreOfOneFamily pair pairs all))
    ∙ by_test (pair_is_equal pair) (decided pairs (All-tail AreOfOneFamily pair pairs all))
  where
    by_test : (b : Bool) → first_decision (map (pair_decision Eq) pairs) ≡ Some (Ok (list_any pair_is_equal pairs))
        → unwrap_or (cond b (Some (Some (Ok b))) (find is_decisive (map (pair_decision Eq) pairs))) (Some (Ok false)) ≡ Some (Ok (b || list_any pair_is_equal pairs))
    by_test true h = refl
    by_test false h = h

in_row : (x : Atomic) (right : List Atomic) → list_any pair_is_equal (map (λ y. (x, y)) right) ≡ list_any (same_key (join_key_of x)) (map join_key_of right)
in_row x [] = refl
in_row x (y ∷ right) = ap (λ (b : Bool). are_equal x.value y.value || b) (in_row x right)

in_pairs : (left right : List Atomic) → list_any pair_is_equal (pairs_of left right) ≡ have_equal_keys same_key (map join_key_of left) (map join_key_of right)
in_pairs [] right = refl
in_pairs (x ∷ left) right =
    list_any-append pair_is_equal (map (λ y. (x, y)) right) (pairs_of left right)
    ∙ (λ i. in_row x right i || in_pairs left right i)

pub equal_where_keys_are : EqualKeysAreEqualValues
equal_where_keys_are left right all = decided (pairs_of left right) all ∙ ap (λ (b : Bool). Some (Ok b)) (in_pairs left right)

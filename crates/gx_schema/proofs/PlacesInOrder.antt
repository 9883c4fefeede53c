-- How many places stand in front of one, by a list of them in order.
use Rattle.std.proofs.Common.{◌≡◌, ◌∙◌, ℕ, zero, suc, ◌+◌, ◌≤◌, Bool, true, false, cond, nat_lt, nat_le, List, [], ◌∷◌, Option, None, Some, refl, sym, ap, arith, if◌then◌else◌}
use Rattle.std.specs.Prelude.{slice_get}
use Rattle.std.specs.List.Sorted.{IsPermutation, IsNonDecreasing, IsSorted}
use Rattle.std.specs.Ordering.{nat_cmp}
use Rattle.std.proofs.lemmas.Bool.Decides.{nat_tests}
use Rattle.std.proofs.lemmas.List.Sorted.{sum_by-IsPermutation, IsNonDecreasingBy-from_sort}
use Rattle.std.proofs.lemmas.List.Sums.{sum_by-cons}
use Rattle.gx_schema.specs.declared.declaration_count.CountedDeclaration.{CountedDeclaration}
use Rattle.gx_schema.specs.DeclarationCount.{count_in_front, first_past_count, found_behind, found_counted, greatest_count, is_behind, places_counted}
use Rattle.gx_schema.specs.FirstFound.{first_found}

in_front_of_one : (place y : ℕ) (ys : List ℕ) → count_in_front (y ∷ ys) place ≡ cond (nat_lt y place) 1 0 + count_in_front ys place
in_front_of_one place y ys = sum_by-cons (λ (other : ℕ). cond (nat_lt other place) 1 0) y ys

not_in_front : (place y : ℕ) (ys : List ℕ) → nat_lt y place ≡ false → count_in_front (y ∷ ys) place ≡ count_in_front ys place
not_in_front place y ys e = in_front_of_one place y ys ∙ rw e (omega arith)

one_in_front : (place y : ℕ) (ys : List ℕ) → nat_lt y place ≡ true → count_in_front (y ∷ ys) place ≡ suc (count_in_front ys place)
one_in_front place y ys e = in_front_of_one place y ys ∙ rw e (omega arith)

others_in_order : (y : ℕ) (ys : List ℕ) → IsNonDecreasing (y ∷ ys) → IsNonDecreasing ys
others_in_order y ys order = λ i j d i_le j_lt. order (suc i) (suc j) d (omega arith) (omega arith)

-- none is in front where the first is not
none_in_front : (place y : ℕ) (ys : List ℕ) → IsNonDecreasing (y ∷ ys) → place ≤ y → count_in_front (y ∷ ys) place ≡ 0
none_in_front place y [] order e = let behind : nat_lt y place ≡ false = grind (arith, nat_tests) in not_in_front place y [] behind
none_in_front place y (z ∷ zs) order e =
    let behind : nat_lt y place ≡ false = grind (arith, nat_tests) in
    let next : y ≤ z = order 0 1 0 (omega arith) (omega arith) in
    not_in_front place y (z ∷ zs) behind ∙ none_in_front place z zs (others_in_order y (z ∷ zs) order) (omega arith)

none_le : (a : ℕ) → nat_le (suc a) 0 ≡ false
none_le a = grind (arith, nat_tests)

some_le : (b : ℕ) → nat_le 1 (suc b) ≡ true
some_le b = grind (arith, nat_tests)

le_suc_by : (a b : ℕ) (t : Bool) → nat_le a b ≡ t → nat_le (suc a) (suc b) ≡ t
le_suc_by a b true e = grind (arith, nat_tests, e)
le_suc_by a b false e = grind (arith, nat_tests, e)

first_alone : (y : ℕ) (ys : List ℕ) (place : ℕ) (t : Bool) → IsNonDecreasing (y ∷ ys) → nat_lt y place ≡ t → nat_le 1 (count_in_front (y ∷ ys) place) ≡ t
first_alone y ys place true order e = ap (nat_le 1) (one_in_front place y ys e) ∙ some_le (count_in_front ys place)
first_alone y ys place false order e =
    let behind : place ≤ y = grind (arith, nat_tests, e) in
    ap (nat_le 1) (none_in_front place y ys order behind) ∙ none_le 0

by_first : (y : ℕ) (ys : List ℕ) (number place : ℕ) (t : Bool) → IsNonDecreasing (y ∷ ys) → nat_lt y place ≡ t
    → nat_le (suc number) (count_in_front ys place) ≡ is_behind (slice_get ys number) place
    → nat_le (suc (suc number)) (count_in_front (y ∷ ys) place) ≡ is_behind (slice_get ys number) place
by_first y ys number place true order e same =
    ap (nat_le (suc (suc number))) (one_in_front place y ys e) ∙ le_suc_by (suc number) (count_in_front ys place) (is_behind (slice_get ys number) place) same
by_first y ys number place false order e same =
    let behind : place ≤ y = grind (arith, nat_tests, e) in
    let none : count_in_front (y ∷ ys) place ≡ 0 = none_in_front place y ys order behind in
    let none_left : count_in_front ys place ≡ 0 = sym (not_in_front place y ys e) ∙ none in
    ap (nat_le (suc (suc number))) none ∙ none_le (suc number) ∙ sym (none_le number) ∙ ap (nat_le (suc number)) (sym none_left) ∙ same

-- as many and one more are in front of a place exactly where the one of that number is
in_front_by_order : (places : List ℕ) (number place : ℕ) → IsNonDecreasing places → nat_le (suc number) (count_in_front places place) ≡ is_behind (slice_get places number) place
in_front_by_order [] number place order = none_le number
in_front_by_order (y ∷ ys) zero place order = first_alone y ys place (nat_lt y place) order refl
in_front_by_order (y ∷ ys) (suc number) place order =
    by_first y ys number place (nat_lt y place) order refl (in_front_by_order ys number place (others_in_order y ys order))

pub last_within : (places sorted : List ℕ) → IsPermutation places sorted → IsSorted nat_cmp sorted → (place : ℕ)
    → is_behind (slice_get sorted 4095) place ≡ nat_le greatest_count (count_in_front places place)
last_within places sorted moved order place =
    sym (in_front_by_order sorted 4095 place (IsNonDecreasingBy-from_sort (λ (number : ℕ). number) sorted order))
    ∙ ap (nat_le greatest_count) (sum_by-IsPermutation (λ (other : ℕ). cond (nat_lt other place) 1 0) places sorted moved)

pub first_behind_last : (declarations : List CountedDeclaration) (last : Option ℕ)
    → ((place : ℕ) → is_behind last place ≡ nat_le greatest_count (count_in_front (places_counted declarations) place))
    → first_found (found_behind last) declarations ≡ first_past_count declarations
first_behind_last declarations last same =
    ap (λ (is_past : ℕ → Bool). first_found (λ (declaration : CountedDeclaration). if is_past declaration.place then Some (found_counted declaration) else None) declarations)
    (λ i place. same place i)

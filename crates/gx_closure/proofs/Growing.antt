-- Lists with values put behind theirs, unless an equal value is there.
use Rattle.std.proofs.Common.{◌≡◌, ℕ, zero, suc, Bool, true, false, ◌||◌, List, [], ◌∷◌, ◌++◌, ◌≤◌, length, length-append, arith, Some, refl, sym, ◌∙◌, ap, if◌then◌else◌}
use Rattle.std.specs.List.{slice_get, list_any, AllByRecursion, IsDistinct}
use Rattle.std.specs.Set.{is_member}
use Rattle.std.specs.Cmp.{IsEquivalence}
use Rattle.std.proofs.lemmas.Bool.{true≢false}
use Rattle.std.proofs.lemmas.List.Folds.{list_any-append}
use Rattle.std.proofs.lemmas.Map.Steps.{list_any_congr}
use Rattle.indexmap.specs.IndexSet.{insert_key, insert_all}
use Rattle.gx_closure.specs.Closure.{AreAmong}

module _ {A : Type 0} (same : A → A → Bool) where
  -- what was there stays

  member_stays : (found : List A) (x q : A) → is_member same found q ≡ true → is_member same (insert_key same found x) q ≡ true
  member_stays found x q h = by (list_any (same x) found)
    where
      by : (b : Bool) → list_any (same q) (if b then found else found ++ x ∷ []) ≡ true
      by true = h
      by false = list_any-append (same q) found (x ∷ []) ∙ ap (λ c. c || list_any (same q) (x ∷ [])) h

  pub members_stay : (xs found : List A) (q : A) → is_member same found q ≡ true → is_member same (insert_all same found xs) q ≡ true
  members_stay [] found q h = h
  members_stay (x ∷ xs) found q h = members_stay xs (insert_key same found x) q (member_stays found x q h)

  pub among_stay : (xs found values : List A) → AreAmong same found values → AreAmong same (insert_all same found xs) values
  among_stay xs found [] h = tt
  among_stay xs found (y ∷ ys) h = (members_stay xs found y h.0, among_stay xs found ys h.1)

  front_stays : (xs ys : List A) (i : ℕ) (y : A) → slice_get xs i ≡ Some y → slice_get (xs ++ ys) i ≡ Some y
  front_stays [] ys i y h = absurd (cc)
  front_stays (x ∷ xs) ys zero y h = h
  front_stays (x ∷ xs) ys (suc i) y h = front_stays xs ys i y h

  place_stays : (found : List A) (x : A) (i : ℕ) (y : A) → slice_get found i ≡ Some y → slice_get (insert_key same found x) i ≡ Some y
  place_stays found x i y h = by (list_any (same x) found)
    where
      by : (b : Bool) → slice_get (if b then found else found ++ x ∷ []) i ≡ Some y
      by true = h
      by false = front_stays found (x ∷ []) i y h

  pub places_stay : (xs found : List A) (i : ℕ) (y : A) → slice_get found i ≡ Some y → slice_get (insert_all same found xs) i ≡ Some y
  places_stay [] found i y h = h
  places_stay (x ∷ xs) found i y h = places_stay xs (insert_key same found x) i y (place_stays found x i y h)

  longer_with_one : (found : List A) (x : A) → length found ≤ length (insert_key same found x)
  longer_with_one found x = by (list_any (same x) found)
    where
      by : (b : Bool) → length found ≤ length (if b then found else found ++ x ∷ [])
      by true = omega arith
      by false = omega (arith, length-append found (x ∷ []))

  pub no_shorter : (xs found : List A) → length found ≤ length (insert_all same found xs)
  no_shorter [] found = omega arith
  no_shorter (x ∷ xs) found = omega (arith, longer_with_one found x, no_shorter xs (insert_key same found x))

  -- what is put is there

  key_is_put : IsEquivalence same → (found : List A) (x : A) → is_member same (insert_key same found x) x ≡ true
  key_is_put laws found x = by (list_any (same x) found) refl
    where
      by : (b : Bool) → list_any (same x) found ≡ b → list_any (same x) (if b then found else found ++ x ∷ []) ≡ true
      by true e = e
      by false e = list_any-append (same x) found (x ∷ []) ∙ ap (λ c. c || (same x x || false)) e ∙ ap (λ c. c || false) (laws.refl x)

  pub all_are_put : IsEquivalence same → (xs found : List A) → AreAmong same (insert_all same found xs) xs
  all_are_put laws [] found = tt
  all_are_put laws (x ∷ xs) found = (members_stay xs (insert_key same found x) x (key_is_put laws found x), all_are_put laws xs (insert_key same found x))

  -- and nothing else

  all_with_one : (P : A → Type 0) (found : List A) (x : A) → AllByRecursion P found → P x → AllByRecursion P (found ++ x ∷ [])
  all_with_one P [] x h p = (p, tt)
  all_with_one P (y ∷ found) x h p = (h.0, all_with_one P found x h.1 p)

  one_more_holds : (P : A → Type 0) (found : List A) (x : A) → AllByRecursion P found → P x → AllByRecursion P (insert_key same found x)
  one_more_holds P found x h p = by (list_any (same x) found)
    where
      by : (b : Bool) → AllByRecursion P (if b then found else found ++ x ∷ [])
      by true = h
      by false = all_with_one P found x h p

  pub all_more_hold : (P : A → Type 0) (xs found : List A) → AllByRecursion P found → AllByRecursion P xs → AllByRecursion P (insert_all same found xs)
  all_more_hold P [] found h k = h
  all_more_hold P (x ∷ xs) found h k = all_more_hold P xs (insert_key same found x) (one_more_holds P found x h k.0) k.1

  -- no value stands twice

  either_false : (a b : Bool) → a || b ≡ false → (a ≡ false) × (b ≡ false)
  either_false true b h = absurd (true≢false h)
  either_false false b h = (refl, h)

  distinct_with_one : IsEquivalence same → (found : List A) (x : A) → list_any (same x) found ≡ false → IsDistinct same found → IsDistinct same (found ++ x ∷ [])
  unfolding IsDistinct
  distinct_with_one laws [] x e h = (tt, tt)
  distinct_with_one laws (y ∷ found) x e h =
      let apart = either_false (same x y) (list_any (same x) found) e in
      (all_with_one (λ z. same y z ≡ false) found x h.0 (laws.symm y x ∙ apart.0), distinct_with_one laws found x apart.1 h.1)

  one_more_is_distinct : IsEquivalence same → (found : List A) (x : A) → IsDistinct same found → IsDistinct same (insert_key same found x)
  one_more_is_distinct laws found x h = by (list_any (same x) found) refl
    where
      by : (b : Bool) → list_any (same x) found ≡ b → IsDistinct same (if b then found else found ++ x ∷ [])
      by true e = h
      by false e = distinct_with_one laws found x e h

  pub more_are_distinct : IsEquivalence same → (xs found : List A) → IsDistinct same found → IsDistinct same (insert_all same found xs)
  more_are_distinct laws [] found h = h
  more_are_distinct laws (x ∷ xs) found h = more_are_distinct laws xs (insert_key same found x) (one_more_is_distinct laws found x h)

  -- equal values are in the same lists

  pub member_of_all : IsEquivalence same → (all found : List A) → AreAmong same all found → (q : A) → is_member same found q ≡ true → is_member same all q ≡ true
  member_of_all laws all [] h q m = absurd (true≢false (sym m))
  member_of_all laws all (y ∷ ys) h q m = by (member_of_all laws all ys h.1 q) (same q y) refl m
    where
      by : (list_any (same q) ys ≡ true → is_member same all q ≡ true) → (b : Bool) → same q y ≡ b → b || list_any (same q) ys ≡ true → is_member same all q ≡ true
      by rest true e k = list_any_congr laws q y all e ∙ h.0
      by rest false e k = rest k

  pub among_all : IsEquivalence same → (all found values : List A) → AreAmong same all found → AreAmong same found values → AreAmong same all values
  among_all laws all found [] h k = tt
  among_all laws all found (x ∷ xs) h k = (member_of_all laws all found h x k.0, among_all laws all found xs h k.1)

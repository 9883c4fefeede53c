-- The numbers of the items that pass a test.
use Rattle.std.proofs.Common.{◌≡◌, ℕ, suc, ◌+◌, ◌<◌, ◌≤◌, Bool, true, false, ◌||◌, nat_eq, List, [], ◌∷◌, ◌++◌, length, get_or, if◌then◌else◌, refl, sym, ap, ◌∙◌, arith}
use Rattle.std.specs.List.{list_any, flat_map, AllByRecursion}
use Rattle.std.proofs.lemmas.List.Folds.{list_any-append}
use Rattle.gx_join_table.specs.RowNumbers.{AscendFrom}
use Rattle.gx_join_table.specs.Joining.{numbers_from, have_equal_keys}
use Rattle.gx_join_table.proofs.AscendingLemmas.{same_numbers}

weaker : (least more : ℕ) (ns : List ℕ) → least ≤ more → AscendFrom more ns → AscendFrom least ns
weaker least more [] h a = tt
weaker least more (n ∷ ns) h a = (omega (arith, a.0), a.1)

module _ {A : Type 0} where
  pub numbers_agree : (n : ℕ) (test other : A → Bool) (xs : List A) → ((x : A) → test x ≡ other x) → numbers_from n test xs ≡ numbers_from n other xs
  numbers_agree n test other [] h = refl
  numbers_agree n test other (x ∷ xs) h = λ i. if h x i then n ∷ numbers_agree (suc n) test other xs h i else numbers_agree (suc n) test other xs h i

  -- one more item
  pub numbers_with_one_more : (n : ℕ) (test : A → Bool) (xs : List A) (x : A)
      → numbers_from n test (xs ++ x ∷ []) ≡ numbers_from n test xs ++ (if test x then (n + length xs) ∷ [] else [])
  numbers_with_one_more n test [] x = ap (λ (k : ℕ). if test x then k ∷ [] else []) (omega arith)
  numbers_with_one_more n test (y ∷ xs) x = by_test (test y) (numbers_with_one_more (suc n) test xs x)
    where
      seam : (if test x then (suc n + length xs) ∷ [] else []) ≡ (if test x then (n + length (y ∷ xs)) ∷ [] else [])
      seam = ap (λ (k : ℕ). if test x then k ∷ [] else []) (omega arith)

      by_test : (b : Bool) → numbers_from (suc n) test (xs ++ x ∷ []) ≡ numbers_from (suc n) test xs ++ (if test x then (suc n + length xs) ∷ [] else [])
          → (if b then n ∷ numbers_from (suc n) test (xs ++ x ∷ []) else numbers_from (suc n) test (xs ++ x ∷ []))
          ≡ (if b then n ∷ numbers_from (suc n) test xs else numbers_from (suc n) test xs) ++ (if test x then (n + length (y ∷ xs)) ∷ [] else [])
      by_test true h = ap (λ (l : List ℕ). n ∷ l) (h ∙ ap (λ (l : List ℕ). numbers_from (suc n) test xs ++ l) seam)
      by_test false h = h ∙ ap (λ (l : List ℕ). numbers_from (suc n) test xs ++ l) seam

  -- they are below the number of the next item
  pub numbers_are_below : (n : ℕ) (test : A → Bool) (xs : List A) (end : ℕ) → n + length xs ≤ end → AllByRecursion (λ m. m < end) (numbers_from n test xs)
  numbers_are_below n test [] end h = tt
  numbers_are_below n test (x ∷ xs) end h = by_test (test x) (numbers_are_below (suc n) test xs end (omega arith))
    where
      by_test : (b : Bool) → AllByRecursion (λ m. m < end) (numbers_from (suc n) test xs)
          → AllByRecursion (λ m. m < end) (if b then n ∷ numbers_from (suc n) test xs else numbers_from (suc n) test xs)
      by_test true k = (omega arith, k)
      by_test false k = k

  pub numbers_ascend : (n : ℕ) (test : A → Bool) (xs : List A) → AscendFrom n (numbers_from n test xs)
  numbers_ascend n test [] = tt
  numbers_ascend n test (x ∷ xs) = by_test (test x) (numbers_ascend (suc n) test xs)
    where
      by_test : (b : Bool) → AscendFrom (suc n) (numbers_from (suc n) test xs) → AscendFrom n (if b then n ∷ numbers_from (suc n) test xs else numbers_from (suc n) test xs)
      by_test true h = (omega arith, h)
      by_test false h = weaker n (suc n) (numbers_from (suc n) test xs) (omega arith) h

  pub no_numbers : (n : ℕ) (xs : List A) → numbers_from n (λ _. false) xs ≡ []
  no_numbers n [] = refl
  no_numbers n (x ∷ xs) = no_numbers (suc n) xs

  -- a number is one of an item that passes one test or the other
  pub in_either : (m n : ℕ) (test other : A → Bool) (xs : List A)
      → list_any (nat_eq m) (numbers_from n (λ x. test x || other x) xs) ≡ (list_any (nat_eq m) (numbers_from n test xs) || list_any (nat_eq m) (numbers_from n other xs))
  in_either m n test other [] = refl
  in_either m n test other (x ∷ xs) = by_tests (test x) (other x) (in_either m (suc n) test other xs)
    where
      by_tests : (b c : Bool) → list_any (nat_eq m) (numbers_from (suc n) (λ x. test x || other x) xs) ≡ (list_any (nat_eq m) (numbers_from (suc n) test xs) || list_any (nat_eq m) (numbers_from (suc n) other xs))
          → list_any (nat_eq m) (if (b || c) then n ∷ numbers_from (suc n) (λ x. test x || other x) xs else numbers_from (suc n) (λ x. test x || other x) xs)
          ≡ (list_any (nat_eq m) (if b then n ∷ numbers_from (suc n) test xs else numbers_from (suc n) test xs) || list_any (nat_eq m) (if c then n ∷ numbers_from (suc n) other xs else numbers_from (suc n) other xs))
      by_tests true true h = ap (λ (d : Bool). nat_eq m n || d) h ∙ doubled (nat_eq m n) _ _
        where
          doubled : (a b c : Bool) → (a || (b || c)) ≡ ((a || b) || (a || c))
          doubled true b c = refl
          doubled false b c = refl
      by_tests true false h = ap (λ (d : Bool). nat_eq m n || d) h ∙ grouped (nat_eq m n) _ _
        where
          grouped : (a b c : Bool) → (a || (b || c)) ≡ ((a || b) || c)
          grouped true b c = refl
          grouped false b c = refl
      by_tests false true h = ap (λ (d : Bool). nat_eq m n || d) h ∙ between (nat_eq m n) _ _
        where
          between : (a b c : Bool) → (a || (b || c)) ≡ (b || (a || c))
          between true true c = refl
          between true false c = refl
          between false b c = refl
      by_tests false false h = h

module _ {K : Type 0} (eq : K → K → Bool) (table : List (List K)) where
  -- the rows of one key after the other are those with any of the keys
  pub in_any : (m : ℕ) (keys : List K) → list_any (nat_eq m) (flat_map (λ key. numbers_from 0 (list_any (eq key)) table) keys) ≡ list_any (nat_eq m) (numbers_from 0 (have_equal_keys eq keys) table)
  in_any m [] = sym (ap (list_any (nat_eq m)) (no_numbers 0 table))
  in_any m (key ∷ keys) =
      list_any-append (nat_eq m) (numbers_from 0 (list_any (eq key)) table) (flat_map (λ k. numbers_from 0 (list_any (eq k)) table) keys)
      ∙ ap (λ (b : Bool). list_any (nat_eq m) (numbers_from 0 (list_any (eq key)) table) || b) (in_any m keys)
      ∙ sym (in_either m 0 (list_any (eq key)) (have_equal_keys eq keys) table)

  -- numbers in order that were found for each of the keys
  pub ordered_rows : (keys : List K) (found ordered : List ℕ) → found ≡ flat_map (λ key. numbers_from 0 (list_any (eq key)) table) keys
      → AscendFrom 0 ordered → ((n : ℕ) → list_any (nat_eq n) ordered ≡ list_any (nat_eq n) found) → ordered ≡ numbers_from 0 (have_equal_keys eq keys) table
  ordered_rows keys found ordered f a s =
      same_numbers 0 ordered (numbers_from 0 (have_equal_keys eq keys) table) a (numbers_ascend 0 (have_equal_keys eq keys) table)
      (λ n. s n ∙ ap (list_any (nat_eq n)) f ∙ in_any n keys)

  pub rows_of_one : (key : K) → numbers_from 0 (list_any (eq key)) table ≡ numbers_from 0 (have_equal_keys eq (key ∷ [])) table
  rows_of_one key = numbers_agree 0 (list_any (eq key)) (have_equal_keys eq (key ∷ [])) table (λ row. alone (list_any (eq key) row))
    where
      alone : (b : Bool) → b ≡ (b || false)
      alone true = refl
      alone false = refl

pub only_one : {K : Type 0} (keys : List K) (key : K) → 1 ≤ length keys → length keys < 2 → key ≡ get_or keys 0 key → keys ≡ key ∷ []
only_one [] key l m e = absurd (omega arith)
only_one (k ∷ []) key l m e = λ i. sym e i ∷ []
only_one (k ∷ j ∷ ks) key l m e = absurd (omega arith)

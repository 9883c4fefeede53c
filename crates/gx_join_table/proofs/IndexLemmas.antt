-- Rows under keys, where a row is put under one key or under several.
use Rattle.std.proofs.Common.{◌≡◌, ℕ, zero, suc, ◌+◌, ◌-◌, ◌<◌, ◌≤◌, Bool, true, false, not, ◌||◌, nat_eq, nat_lt, cond, List, Option, [], ◌∷◌, ◌++◌, None, Some, length, slice_get, get_or, position, if◌then◌else◌, refl, sym, ap, ◌∙◌, arith, subst, append_assoc}
use Rattle.std.specs.Prelude.{Vec}
use Rattle.std.specs.Global.{Global}
use Rattle.std.specs.Cmp.{IsEquivalence}
use Rattle.std.specs.Option.{option_map_or}
use Rattle.std.specs.List.{list_any, position_or_len, AllByRecursion}
use Rattle.std.proofs.Math.ListN.{set}
use Rattle.std.proofs.lemmas.Bool.{eqb-true, eq-eqb, ltb-true, ltb-false}
use Rattle.std.proofs.lemmas.List.{length-append, append-nil}
use Rattle.indexmap.specs.IndexSet.{insert_key}
use Rattle.gx_join_table.specs.Joining.{numbers_from}
use Rattle.gx_join_table.specs.RowNumbers.{with_last}
use Rattle.gx_join_table.specs.KeyIndex.{IsAligned, rows_at_place, rows_under, IsPutUnder, IsPutUnderEach, IsKeyIndexOf}
use Rattle.gx_join_table.proofs.NumberLemmas.{numbers_with_one_more, numbers_are_below}

abbrev Rows : Type 0
Rows = Vec ℕ Global

-- the rows where a key is new have an empty list more
abbrev pub HasPlace : Bool → List Rows → List Rows → Type 0
HasPlace true rs next = (empty : Rows) × (empty.items ≡ []) × (next ≡ rs ++ empty ∷ [])
HasPlace false rs next = next ≡ rs

pub place_is_new : (added : Bool) (rs pushed next : List Rows) (empty : Rows) → added ≡ true → empty.items ≡ [] → pushed ≡ rs ++ empty ∷ [] → next ≡ pushed → HasPlace added rs next
place_is_new true rs pushed next empty a e p n = (empty, e, n ∙ p)
place_is_new false rs pushed next empty a e p n = absurd (cc)

pub place_is_there : (added : Bool) (rs next : List Rows) → added ≡ false → next ≡ rs → HasPlace added rs next
place_is_there true rs next a n = absurd (cc)
place_is_there false rs next a n = n

-- a number behind others

not_number : (n k : ℕ) (ns : List ℕ) → AllByRecursion (λ m. m < n) ns → option_map_or (λ m. nat_eq m n) (slice_get ns k) false ≡ false
not_number n k [] h = refl
not_number n zero (m ∷ ns) h = by_test (nat_eq m n) refl
  where
    by_test : (b : Bool) → nat_eq m n ≡ b → b ≡ false
    by_test true e = let same = eqb-true m n e in absurd (omega (arith, h.0))
    by_test false e = refl
not_number n (suc k) (m ∷ ns) h = not_number n k ns h.1

put_behind : (n : ℕ) (ns : List ℕ) → AllByRecursion (λ m. m < n) ns → with_last ns n ≡ ns ++ n ∷ []
put_behind n ns h = ap (λ (b : Bool). if b then ns else ns ++ n ∷ []) (not_number n (length ns - 1) ns h)

at_end : (n : ℕ) (ns : List ℕ) → slice_get (ns ++ n ∷ []) (length ns) ≡ Some n
at_end n [] = refl
at_end n (m ∷ ns) = at_end n ns

is_behind : (n : ℕ) (ns : List ℕ) → with_last (ns ++ n ∷ []) n ≡ ns ++ n ∷ []
is_behind n ns =
    let place : length (ns ++ n ∷ []) - 1 ≡ length ns = omega (arith, length-append ns (n ∷ [])) in
    let there : slice_get (ns ++ n ∷ []) (length (ns ++ n ∷ []) - 1) ≡ Some n = ap (slice_get (ns ++ n ∷ [])) place ∙ at_end n ns in
    ap (λ (b : Bool). if b then ns ++ n ∷ [] else (ns ++ n ∷ []) ++ n ∷ []) (ap (λ (o : Option ℕ). option_map_or (λ m. nat_eq m n) o false) there ∙ eq-eqb n n refl)

module _ {K : Type 0} (eq : K → K → Bool) where
  -- a look-up

  under_place : (q : K) (ks : List K) (rs : List Rows) → position_or_len (eq q) ks < length ks → rows_under eq q ks rs ≡ rows_at_place rs (position_or_len (eq q) ks)
  under_place q [] rs l = absurd (omega arith)
  under_place q (k ∷ ks) [] l = refl
  under_place q (k ∷ ks) (r ∷ rs) l =
      by_test (eq q k) l (under_place q ks rs)
    where
      by_test : (b : Bool) → cond (not b) (1 + position_or_len (eq q) ks) 0 < length (k ∷ ks) → (position_or_len (eq q) ks < length ks → rows_under eq q ks rs ≡ rows_at_place rs (position_or_len (eq q) ks))
          → (if b then r.items else rows_under eq q ks rs) ≡ rows_at_place (r ∷ rs) (cond (not b) (1 + position_or_len (eq q) ks) 0)
      by_test true m h = refl
      by_test false m h = h (omega arith) ∙ ap (rows_at_place (r ∷ rs)) (let e : suc (position_or_len (eq q) ks) ≡ 1 + position_or_len (eq q) ks = omega arith in e)

  under_no_place : (q : K) (ks : List K) (rs : List Rows) → length ks ≤ position_or_len (eq q) ks → rows_under eq q ks rs ≡ []
  under_no_place q [] rs l = refl
  under_no_place q (k ∷ ks) [] l = refl
  under_no_place q (k ∷ ks) (r ∷ rs) l = by_test (eq q k) l (under_no_place q ks rs)
    where
      by_test : (b : Bool) → length (k ∷ ks) ≤ cond (not b) (1 + position_or_len (eq q) ks) 0 → (length ks ≤ position_or_len (eq q) ks → rows_under eq q ks rs ≡ [])
          → (if b then r.items else rows_under eq q ks rs) ≡ []
      by_test true m h = absurd (omega arith)
      by_test false m h = h (omega arith)

  pub rows_found : (q : K) (ks : List K) (rs : List Rows) (place : ℕ) → position (eq q) ks ≡ Some place → rows_at_place rs place ≡ rows_under eq q ks rs
  rows_found q ks rs place e = by_test (nat_lt (position_or_len (eq q) ks) (length ks)) refl e
    where
      by_test : (b : Bool) → nat_lt (position_or_len (eq q) ks) (length ks) ≡ b → cond b (Some (position_or_len (eq q) ks)) None ≡ Some place → rows_at_place rs place ≡ rows_under eq q ks rs
      by_test true f g =
          let same : position_or_len (eq q) ks ≡ place = cc in
          ap (rows_at_place rs) (sym same) ∙ sym (under_place q ks rs (ltb-true _ _ f))
      by_test false f g = absurd (cc)

  pub no_rows_found : (q : K) (ks : List K) (rs : List Rows) → position (eq q) ks ≡ None → [] ≡ rows_under eq q ks rs
  no_rows_found q ks rs e = by_test (nat_lt (position_or_len (eq q) ks) (length ks)) refl e
    where
      by_test : (b : Bool) → nat_lt (position_or_len (eq q) ks) (length ks) ≡ b → cond b (Some (position_or_len (eq q) ks)) None ≡ None → [] ≡ rows_under eq q ks rs
      by_test true f g = absurd (cc)
      by_test false f g = sym (under_no_place q ks rs (ltb-false _ _ f))

  -- a row under one key

  module _ (laws : IsEquivalence eq) (key : K) (row : ℕ) where
    same_test : (k q : K) → eq key k ≡ true → eq q k ≡ eq q key
    same_test k q e = laws.symm q k ∙ sym (laws.congr key k q e) ∙ laws.symm key q

    other_test : (k q : K) → eq key k ≡ false → eq q k ≡ true → eq q key ≡ false
    other_test k q e f = by_test (eq q key) refl
      where
        by_test : (b : Bool) → eq q key ≡ b → b ≡ false
        by_test true g = let h = laws.congr q key k g in absurd (cc)
        by_test false g = refl

    at_head : (b c : Bool) (put old rest : List ℕ) → c ≡ b → put ≡ with_last old row
        → (if c then put else rest) ≡ (if b then with_last (if c then old else rest) row else (if c then old else rest))
    at_head true true put old rest e f = f
    at_head true false put old rest e f = absurd (cc)
    at_head false true put old rest e f = absurd (cc)
    at_head false false put old rest e f = refl

    behind_head : (b c : Bool) (head old new : List ℕ) → (c ≡ true → b ≡ false) → new ≡ (if b then with_last old row else old)
        → (if c then head else new) ≡ (if b then with_last (if c then head else old) row else (if c then head else old))
    behind_head true true head old new e f = let h = e refl in absurd (cc)
    behind_head true false head old new e f = f
    behind_head false true head old new e f = refl
    behind_head false false head old new e f = f

    put_there : (ks : List K) (rs : List Rows) (place : ℕ) (old put : Rows) → IsAligned ks rs → list_any (eq key) ks ≡ true → place ≡ position_or_len (eq key) ks
        → old ≡ get_or rs place old → put.items ≡ with_last old.items row → IsPutUnder eq key row ks rs ks (set rs place put)
    put_there [] rs place old put l t p h w = absurd (cc)
    put_there (k ∷ ks) [] place old put l t p h w = absurd (cc)
    put_there (k ∷ ks) (r ∷ rs) place old put l t p h w =
        by_test (eq key k) refl t p (λ t n. put_there ks rs (position_or_len (eq key) ks) old put (omega (arith, l)) t refl n w)
      where
        by_test : (b : Bool) → eq key k ≡ b → (b || list_any (eq key) ks) ≡ true → place ≡ cond (not b) (1 + position_or_len (eq key) ks) 0
            → (list_any (eq key) ks ≡ true → old ≡ get_or rs (position_or_len (eq key) ks) old → IsPutUnder eq key row ks rs ks (set rs (position_or_len (eq key) ks) put))
            → IsPutUnder eq key row (k ∷ ks) (r ∷ rs) (k ∷ ks) (set (r ∷ rs) place put)
        by_test true e t q next =
            let same : old ≡ r = h ∙ ap (λ (n : ℕ). get_or (r ∷ rs) n old) q in
            subst (λ (n : ℕ). IsPutUnder eq key row (k ∷ ks) (r ∷ rs) (k ∷ ks) (set (r ∷ rs) n put)) (sym q)
            (λ x. at_head (eq x key) (eq x k) put.items r.items (rows_under eq x ks rs) (same_test k x e) (w ∙ ap (λ (v : Rows). with_last v.items row) same))
        by_test false e t q next =
            let after : place ≡ suc (position_or_len (eq key) ks) = omega arith in
            let put_next = next t (h ∙ ap (λ (n : ℕ). get_or (r ∷ rs) n old) after) in
            subst (λ (n : ℕ). IsPutUnder eq key row (k ∷ ks) (r ∷ rs) (k ∷ ks) (set (r ∷ rs) n put)) (sym after)
            (λ x. behind_head (eq x key) (eq x k) r.items (rows_under eq x ks rs) (rows_under eq x ks (set rs (position_or_len (eq key) ks) put)) (other_test k x e) (put_next x))

    put_new : (ks : List K) (rs : List Rows) (put : Rows) → IsAligned ks rs → list_any (eq key) ks ≡ false → put.items ≡ with_last [] row
        → IsPutUnder eq key row ks rs (ks ++ key ∷ []) (rs ++ put ∷ [])
    put_new [] [] put l t w = λ x. ap (λ (ns : List ℕ). if eq x key then ns else []) w
    put_new [] (r ∷ rs) put l t w = absurd (cc)
    put_new (k ∷ ks) [] put l t w = absurd (cc)
    put_new (k ∷ ks) (r ∷ rs) put l t w = by_test (eq key k) refl t (λ t. put_new ks rs put (omega (arith, l)) t w)
      where
        by_test : (b : Bool) → eq key k ≡ b → (b || list_any (eq key) ks) ≡ false → (list_any (eq key) ks ≡ false → IsPutUnder eq key row ks rs (ks ++ key ∷ []) (rs ++ put ∷ []))
            → IsPutUnder eq key row (k ∷ ks) (r ∷ rs) ((k ∷ ks) ++ key ∷ []) ((r ∷ rs) ++ put ∷ [])
        by_test true e t next = absurd (cc)
        by_test false e t next =
            λ x. behind_head (eq x key) (eq x k) r.items (rows_under eq x ks rs) (rows_under eq x (ks ++ key ∷ []) (rs ++ put ∷ [])) (other_test k x e) (next t x)

    no_place : (ks : List K) → list_any (eq key) ks ≡ false → position_or_len (eq key) ks ≡ length ks
    no_place [] t = refl
    no_place (k ∷ ks) t = by_test (eq key k) t (no_place ks)
      where
        by_test : (b : Bool) → (b || list_any (eq key) ks) ≡ false → (list_any (eq key) ks ≡ false → position_or_len (eq key) ks ≡ length ks)
            → cond (not b) (1 + position_or_len (eq key) ks) 0 ≡ length (k ∷ ks)
        by_test true t h = absurd (cc)
        by_test false t h = let e = h t in omega arith

    set_last : (rs : List Rows) (old put : Rows) → set (rs ++ old ∷ []) (length rs) put ≡ rs ++ put ∷ []
    set_last [] old put = refl
    set_last (r ∷ rs) old put = ap (λ (l : List Rows). r ∷ l) (set_last rs old put)

    get_last : (rs : List Rows) (old other : Rows) → get_or (rs ++ old ∷ []) (length rs) other ≡ old
    get_last [] old other = refl
    get_last (r ∷ rs) old other = get_last rs old other

    pub row_is_put : (ks next_ks : List K) (rs next : List Rows) (place : ℕ) (added : Bool) (old put : Rows) → IsAligned ks rs → next_ks ≡ insert_key eq ks key
        → added ≡ not (list_any (eq key) ks) → place ≡ position_or_len (eq key) ks → HasPlace added rs next → old ≡ get_or next place old
        → put.items ≡ with_last old.items row → IsPutUnder eq key row ks rs next_ks (set next place put)
    row_is_put ks next_ks rs next place added old put l k a p h o w = by_test added (list_any (eq key) ks) refl a h k
      where
        by_test : (new there : Bool) → list_any (eq key) ks ≡ there → new ≡ not there → HasPlace new rs next → next_ks ≡ (if there then ks else ks ++ key ∷ [])
            → IsPutUnder eq key row ks rs next_ks (set next place put)
        by_test true true e f g m = absurd (cc)
        by_test false false e f g m = absurd (cc)
        by_test false true e f g m =
            subst (λ (x : List K × List Rows). IsPutUnder eq key row ks rs x.0 (set x.1 place put)) (λ i. (sym m i, sym g i))
            (put_there ks rs place old put l e p (o ∙ ap (λ (v : List Rows). get_or v place old) g) w)
        by_test true false e f g m =
            let there : place ≡ length rs = p ∙ no_place ks e ∙ l in
            let left : set next place put ≡ rs ++ put ∷ [] = ap (λ (v : List Rows). set v place put) g.2 ∙ ap (λ (n : ℕ). set (rs ++ g.0 ∷ []) n put) there ∙ set_last rs g.0 put in
            let empty : old ≡ g.0 = o ∙ ap (λ (v : List Rows). get_or v place old) g.2 ∙ ap (λ (n : ℕ). get_or (rs ++ g.0 ∷ []) n old) there ∙ get_last rs g.0 old in
            subst (λ (x : List K × List Rows). IsPutUnder eq key row ks rs x.0 x.1) (λ i. (sym m i, sym left i))
            (put_new ks rs put l e (w ∙ ap (λ (v : Rows). with_last v.items row) empty ∙ ap (λ (ns : List ℕ). with_last ns row) g.1))

  -- a key of those that are left is one of those that are done
  pub key_is_done : (all left rest done : List K) (key : K) → all ≡ left ++ done → left ≡ rest ++ key ∷ [] → all ≡ rest ++ key ∷ done
  key_is_done all left rest done key a l = a ∙ ap (λ (ks : List K). ks ++ done) l ∙ append_assoc rest (key ∷ []) done

  -- a row under one key more
  pub row_is_put_under_more : (done : List K) (key : K) (row : ℕ) (ks now next : List K) (rs rs_now rs_next : List Rows) → IsPutUnderEach eq done row ks rs now rs_now
      → IsPutUnder eq key row now rs_now next rs_next → IsPutUnderEach eq (key ∷ done) row ks rs next rs_next
  row_is_put_under_more done key row ks now next rs rs_now rs_next each one = λ q below.
      one q ∙ by_tests q below (eq q key) (list_any (eq q) done) (each q below)
    where
      by_tests : (q : K) → AllByRecursion (λ n. n < row) (rows_under eq q ks rs) → (b c : Bool)
          → rows_under eq q now rs_now ≡ rows_under eq q ks rs ++ (if c then row ∷ [] else [])
          → (if b then with_last (rows_under eq q now rs_now) row else rows_under eq q now rs_now) ≡ rows_under eq q ks rs ++ (if (b || c) then row ∷ [] else [])
      by_tests q below true true h = ap (λ (ns : List ℕ). with_last ns row) h ∙ is_behind row (rows_under eq q ks rs)
      by_tests q below true false h = ap (λ (ns : List ℕ). with_last ns row) (h ∙ append-nil (rows_under eq q ks rs)) ∙ put_behind row (rows_under eq q ks rs) below
      by_tests q below false c h = h

  -- the index of a table with one row more
  pub index_has_row : (ks next : List K) (rs rs_next : List Rows) (table : List (List K)) (keys : List K) (row : ℕ) → IsKeyIndexOf eq ks rs table → row ≡ length table
      → IsAligned next rs_next → IsPutUnderEach eq keys row ks rs next rs_next → IsKeyIndexOf eq next rs_next (table ++ keys ∷ [])
  index_has_row ks next rs rs_next table keys row index r aligned each = record {
    aligned = aligned;
    found = λ q.
        each q (subst (AllByRecursion (λ n. n < row)) (sym (index.found q)) (numbers_are_below 0 (list_any (eq q)) table row (omega arith)))
        ∙ ap (λ (ns : List ℕ). ns ++ (if list_any (eq q) keys then row ∷ [] else [])) (index.found q)
        ∙ ap (λ (n : ℕ). numbers_from 0 (list_any (eq q)) table ++ (if list_any (eq q) keys then n ∷ [] else [])) (let e : row ≡ 0 + length table = omega arith in e)
        ∙ sym (numbers_with_one_more 0 (list_any (eq q)) table keys);
  }

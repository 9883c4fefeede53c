-- Lists of numbers that ascend, as they are split, merged and compared.
use Rattle.std.proofs.Common.{◌≡◌, ℕ, zero, suc, ◌+◌, ◌<◌, ◌≤◌, Bool, true, false, ◌||◌, ◌&&◌, nat_lt, cond, List, [], ◌∷◌, ◌++◌, map, filter, take, drop, length, get_or, refl, sym, ap, ◌∙◌, arith, subst, append_assoc, if◌then◌else◌}
use Rattle.std.specs.Prelude.{not}
use Rattle.std.specs.List.{list_any, prefix_len}
use Rattle.std.proofs.Math.Seq.{drop-cons}
use Rattle.std.proofs.lemmas.Bool.{eqb-true, eq-eqb, ltb-true, ltb-false, lt-ltb, le-ltb, true≢false}
use Rattle.std.proofs.lemmas.List.Elements.{filter_agree}
use Rattle.std.proofs.lemmas.List.Folds.{list_any-append}
use Rattle.gx_model.specs.Forest.{Forest, PlainNode}
use Rattle.gx_model.specs.DocumentOrder.{comes_before, same_node, in_document_order}
use Rattle.gx_model.specs.Growth.{Extends}
use Rattle.gx_model.specs.OrderLaws.{Every, Ascends}
use Rattle.gx_model.proofs.ListLemmas.{filter_mapped}
use Rattle.gx_model.proofs.OrderLemmas.{not_before_itself, nodes_same, node_itself}
use Rattle.gx_model.proofs.Ordering.{ascends_filtered}
use Rattle.gx_nodes.specs.Entries.{count_in, place_of_number}
use Rattle.gx_nodes.proofs.NumberOrder.{before_is}
use Rattle.gx_store.specs.declared.number.NodeId.{NodeId}
use Rattle.gx_store.specs.Combined.{occurs_in}
use Rattle.gx_store.specs.NumberOrder.{number_eq, number_lt, wants, selects, begins_with, without_first}
use Rattle.gx_store.proofs.OrderedLemmas.{every_goes_on, one_number, placed, any_placed, ordered_numbers}

-- the numbers of a list below a number, not below it, and past it

abbrev below : NodeId → NodeId → Bool
below x m = number_lt m x

abbrev not_below : NodeId → NodeId → Bool
not_below x m = not (number_lt m x)

abbrev past : NodeId → NodeId → Bool
past x m = number_lt x m

below_stays : (x y m : NodeId) → number_lt y x ≡ false → number_lt y m ≡ true → number_lt m x ≡ false
below_stays x y m e l = le-ltb m.number x.number (omega (arith, ltb-false y.number x.number e, ltb-true y.number m.number l))

past_stays : (x y m : NodeId) → number_lt y x ≡ false → number_lt y m ≡ true → number_lt x m ≡ true
past_stays x y m e l = lt-ltb x.number m.number (omega (arith, ltb-false y.number x.number e, ltb-true y.number m.number l))

differs : (a b : NodeId) → number_lt a b ≡ true → (number_eq a b ≡ false) × (number_eq b a ≡ false)
differs a b l = (by_test (number_eq a b) refl, by_turned (number_eq b a) refl)
  where
    by_test : (c : Bool) → number_eq a b ≡ c → number_eq a b ≡ false
    by_test true e = absurd (omega (arith, ltb-true a.number b.number l, eqb-true a.number b.number e))
    by_test false e = e

    by_turned : (c : Bool) → number_eq b a ≡ c → number_eq b a ≡ false
    by_turned true e = absurd (omega (arith, ltb-true a.number b.number l, eqb-true b.number a.number e))
    by_turned false e = e

not_below_equal : (a b : NodeId) → number_eq a b ≡ true → number_lt a b ≡ false
not_below_equal a b e = le-ltb a.number b.number (omega (arith, eqb-true a.number b.number e))

past_or_equal : (x y : NodeId) → number_lt y x ≡ false → number_eq x y ≡ false → number_lt x y ≡ true
past_or_equal x y e n = by_test (number_lt x y) refl
  where
    by_test : (c : Bool) → number_lt x y ≡ c → number_lt x y ≡ true
    by_test true f = f
    by_test false f =
        let same : x.number ≡ y.number = omega (arith, ltb-false y.number x.number e, ltb-false x.number y.number f) in
        absurd (true≢false (sym (eq-eqb x.number y.number same) ∙ n))

-- what holds of each of a list

every_each : {A : Type 0} (P Q : A → Type 0) (xs : List A) → ((x : A) → P x → Q x) → Every P xs → Every Q xs
every_each P Q [] f h = tt
every_each P Q (x ∷ xs) f h = (f x h.0, every_each P Q xs f h.1)

every_append : {A : Type 0} (P : A → Type 0) (xs ys : List A) → Every P xs → Every P ys → Every P (xs ++ ys)
every_append P [] ys h g = g
every_append P (x ∷ xs) ys h g = (h.0, every_append P xs ys h.1 g)

every_if : {A : Type 0} (P : A → Type 0) (b : Bool) (x : A) (xs : List A) → P x → Every P xs → Every P (cond b (x ∷ xs) xs)
every_if P true x xs h g = (h, g)
every_if P false x xs h g = g

every_filtered : {A : Type 0} (P : A → Type 0) (p : A → Bool) (xs : List A) → Every P xs → Every P (filter p xs)
every_filtered P p [] h = tt
every_filtered P p (x ∷ xs) h = every_if P (p x) x (filter p xs) h.0 (every_filtered P p xs h.1)

passing_if : {A : Type 0} (p : A → Bool) (b : Bool) (x : A) (xs : List A) → p x ≡ b → Every (λ y. p y ≡ true) xs → Every (λ y. p y ≡ true) (cond b (x ∷ xs) xs)
passing_if p true x xs e g = (e, g)
passing_if p false x xs e g = g

passing : {A : Type 0} (p : A → Bool) (xs : List A) → Every (λ y. p y ≡ true) (filter p xs)
passing p [] = tt
passing p (x ∷ xs) = passing_if p (p x) x (filter p xs) refl (passing p xs)

all_pass : {A : Type 0} (p : A → Bool) (xs : List A) → Every (λ y. p y ≡ true) xs → filter p xs ≡ xs
all_pass p [] h = refl
all_pass p (x ∷ xs) h = ap (λ (b : Bool). cond b (x ∷ filter p xs) (filter p xs)) h.0 ∙ ap (λ ys. x ∷ ys) (all_pass p xs h.1)

none_pass : {A : Type 0} (p : A → Bool) (xs : List A) → Every (λ y. p y ≡ false) xs → filter p xs ≡ []
none_pass p [] h = refl
none_pass p (x ∷ xs) h = ap (λ (b : Bool). cond b (x ∷ filter p xs) (filter p xs)) h.0 ∙ none_pass p xs h.1

agree_on : {A : Type 0} (p q : A → Bool) (xs : List A) → Every (λ y. p y ≡ q y) xs → filter p xs ≡ filter q xs
agree_on p q [] h = refl
agree_on p q (x ∷ xs) h = ap (λ (b : Bool). cond b (x ∷ filter p xs) (filter p xs)) h.0 ∙ ap (λ ys. cond (q x) (x ∷ ys) ys) (agree_on p q xs h.1)

none_any : {A : Type 0} (p : A → Bool) (xs : List A) → Every (λ y. p y ≡ false) xs → list_any p xs ≡ false
none_any p [] h = refl
none_any p (x ∷ xs) h = ap (λ (b : Bool). b || list_any p xs) h.0 ∙ none_any p xs h.1

any_if : {A : Type 0} (p : A → Bool) (b : Bool) (x : A) (xs : List A) (rest : Bool) → list_any p xs ≡ rest → list_any p (cond b (x ∷ xs) xs) ≡ ((b && p x) || rest)
any_if p true x xs rest e = ap (λ (c : Bool). p x || c) e
any_if p false x xs rest e = e

any_filtered : {A : Type 0} (p s : A → Bool) (xs : List A) → list_any p (filter s xs) ≡ list_any (λ y. s y && p y) xs
any_filtered p s [] = refl
any_filtered p s (x ∷ xs) = any_if p (s x) x (filter s xs) (list_any (λ y. s y && p y) xs) (any_filtered p s xs)

-- a list that ascends, in two parts

all_later : (x y : NodeId) (ys : List NodeId) → number_lt y x ≡ false → Every (λ m. number_lt y m ≡ true) ys → Every (λ m. not_below x m ≡ true) ys
all_later x y ys e h = every_each (λ m. number_lt y m ≡ true) (λ m. not_below x m ≡ true) ys (λ m l. ap not (below_stays x y m e l)) h

pub split_front : (x : NodeId) (xs : List NodeId) → Ascends number_lt xs → take (prefix_len (below x) xs) xs ≡ filter (below x) xs
split_front x [] h = refl
split_front x (y ∷ ys) h = by_test (number_lt y x) refl (split_front x ys h.1)
  where
    by_test : (b : Bool) → number_lt y x ≡ b → take (prefix_len (below x) ys) ys ≡ filter (below x) ys
        → take (cond b (1 + prefix_len (below x) ys) 0) (y ∷ ys) ≡ cond b (y ∷ filter (below x) ys) (filter (below x) ys)
    by_test true e i =
        let next : 1 + prefix_len (below x) ys ≡ suc (prefix_len (below x) ys) = omega arith in
        ap (λ (k : ℕ). take k (y ∷ ys)) next ∙ ap (λ ms. y ∷ ms) i
    by_test false e i = sym (none_pass (below x) ys (every_each (λ m. number_lt y m ≡ true) (λ m. number_lt m x ≡ false) ys (λ m l. below_stays x y m e l) h.0))

pub split_back : (x : NodeId) (xs : List NodeId) → Ascends number_lt xs → drop (prefix_len (below x) xs) xs ≡ filter (not_below x) xs
split_back x [] h = refl
split_back x (y ∷ ys) h = by_test (number_lt y x) refl (split_back x ys h.1)
  where
    by_test : (b : Bool) → number_lt y x ≡ b → drop (prefix_len (below x) ys) ys ≡ filter (not_below x) ys
        → drop (cond b (1 + prefix_len (below x) ys) 0) (y ∷ ys) ≡ cond (not b) (y ∷ filter (not_below x) ys) (filter (not_below x) ys)
    by_test true e i =
        let next : 1 + prefix_len (below x) ys ≡ suc (prefix_len (below x) ys) = omega arith in
        ap (λ (k : ℕ). drop k (y ∷ ys)) next ∙ i
    by_test false e i = ap (λ ms. y ∷ ms) (sym (all_pass (not_below x) ys (all_later x y ys e h.0)))

pub prefix_within : (x : NodeId) (xs : List NodeId) → prefix_len (below x) xs ≤ length xs
prefix_within x [] = omega arith
prefix_within x (y ∷ ys) = by_test (number_lt y x) (prefix_within x ys)
  where
    by_test : (b : Bool) → prefix_len (below x) ys ≤ length ys → cond b (1 + prefix_len (below x) ys) 0 ≤ suc (length ys)
    by_test true i = omega (arith, i)
    by_test false i = omega arith

-- whether a number is in a list shows at the front of what is not below it

begins_is : (x : NodeId) (xs : List NodeId) → Ascends number_lt xs → begins_with (filter (not_below x) xs) x ≡ list_any (number_eq x) xs
begins_is x [] h = refl
begins_is x (y ∷ ys) h = by_test (number_lt y x) refl (begins_is x ys h.1)
  where
    by_equal : (c : Bool) → number_lt y x ≡ false → number_eq x y ≡ c → c ≡ (c || list_any (number_eq x) ys)
    by_equal true e f = refl
    by_equal false e f =
        sym (none_any (number_eq x) ys (every_each (λ m. number_lt y m ≡ true) (λ m. number_eq x m ≡ false) ys (λ m l. (differs x m (past_stays x y m e l)).0) h.0))

    by_test : (b : Bool) → number_lt y x ≡ b → begins_with (filter (not_below x) ys) x ≡ list_any (number_eq x) ys
        → begins_with (cond (not b) (y ∷ filter (not_below x) ys) (filter (not_below x) ys)) x ≡ (number_eq x y || list_any (number_eq x) ys)
    by_test true e i = i ∙ sym (ap (λ (c : Bool). c || list_any (number_eq x) ys) (differs y x e).1)
    by_test false e i = by_equal (number_eq x y) e refl

without_is : (x : NodeId) (xs : List NodeId) → Ascends number_lt xs → without_first x (filter (not_below x) xs) ≡ filter (past x) xs
without_is x [] h = refl
without_is x (y ∷ ys) h = by_test (number_lt y x) refl (without_is x ys h.1)
  where
    rest_same : number_lt y x ≡ false → filter (not_below x) ys ≡ filter (past x) ys
    rest_same e =
        all_pass (not_below x) ys (all_later x y ys e h.0)
        ∙ sym (all_pass (past x) ys (every_each (λ m. number_lt y m ≡ true) (λ m. number_lt x m ≡ true) ys (λ m l. past_stays x y m e l) h.0))

    by_equal : (c : Bool) → number_lt y x ≡ false → number_eq x y ≡ c
        → (if c then filter (not_below x) ys else y ∷ filter (not_below x) ys) ≡ cond (number_lt x y) (y ∷ filter (past x) ys) (filter (past x) ys)
    by_equal true e f = rest_same e ∙ sym (ap (λ (b : Bool). cond b (y ∷ filter (past x) ys) (filter (past x) ys)) (not_below_equal x y f))
    by_equal false e f = ap (λ ms. y ∷ ms) (rest_same e) ∙ sym (ap (λ (b : Bool). cond b (y ∷ filter (past x) ys) (filter (past x) ys)) (past_or_equal x y e f))

    by_test : (b : Bool) → number_lt y x ≡ b → without_first x (filter (not_below x) ys) ≡ filter (past x) ys
        → without_first x (cond (not b) (y ∷ filter (not_below x) ys) (filter (not_below x) ys)) ≡ cond (number_lt x y) (y ∷ filter (past x) ys) (filter (past x) ys)
    by_test true e i =
        i ∙ sym (ap (λ (b : Bool). cond b (y ∷ filter (past x) ys) (filter (past x) ys)) (le-ltb x.number y.number (omega (arith, ltb-true y.number x.number e))))
    by_test false e i = by_equal (number_eq x y) e refl

member_if : (m y x : NodeId) (ys : List NodeId) (b c : Bool) → number_lt y x ≡ b → number_eq m y ≡ c → number_lt x m ≡ true → list_any (number_eq m) (filter (not_below x) ys) ≡ list_any (number_eq m) ys
    → list_any (number_eq m) (cond (not b) (y ∷ filter (not_below x) ys) (filter (not_below x) ys)) ≡ (c || list_any (number_eq m) ys)
member_if m y x ys true true e f l i = absurd (omega (arith, ltb-true y.number x.number e, eqb-true m.number y.number f, ltb-true x.number m.number l))
member_if m y x ys true false e f l i = i
member_if m y x ys false c e f l i = ap (λ (d : Bool). d || list_any (number_eq m) (filter (not_below x) ys)) f ∙ ap (λ (d : Bool). c || d) i

member_stays : (x m : NodeId) (ys : List NodeId) → number_lt x m ≡ true → list_any (number_eq m) (filter (not_below x) ys) ≡ list_any (number_eq m) ys
member_stays x m [] l = refl
member_stays x m (y ∷ ys) l = member_if m y x ys (number_lt y x) (number_eq m y) refl refl l (member_stays x m ys l)

-- one turn further along a list

dropped : (xs : List NodeId) (i : ℕ) (x : NodeId) → i < length xs → x ≡ get_or xs i x → drop i xs ≡ x ∷ drop (i + 1) xs
dropped xs i x l e =
    let next : suc i ≡ i + 1 = omega arith in
    drop-cons xs i x l ∙ ap (λ y. y ∷ drop (suc i) xs) (sym e) ∙ ap (λ (k : ℕ). x ∷ drop k xs) next

pub own_default : (xs : List NodeId) (i : ℕ) (d : NodeId) → i < length xs → get_or xs i d ≡ get_or xs i (get_or xs i d)
own_default [] i d l = absurd (omega (arith, l))
own_default (x ∷ xs) zero d l = refl
own_default (x ∷ xs) (suc i) d l = own_default xs i d (omega (arith, l))

drop_no : (xs : List NodeId) → drop 0 xs ≡ xs
drop_no [] = refl
drop_no (x ∷ xs) = refl

drop_all : (xs : List NodeId) (i : ℕ) → length xs ≤ i → drop i xs ≡ []
drop_all [] zero l = refl
drop_all [] (suc i) l = refl
drop_all (x ∷ xs) zero l = absurd (omega (arith, l))
drop_all (x ∷ xs) (suc i) l = drop_all xs i (omega (arith, l))

-- ---- lists that are compared

pub record SelectsOn (wanted : Bool) (nodes others found rest : List NodeId) (i : ℕ) : Type 0 where
  pub left : Ascends number_lt (drop i nodes)
  pub ascending : Ascends number_lt rest
  pub whole : found ++ filter (selects wanted rest) (drop i nodes) ≡ filter (selects wanted others) nodes

pub selects_begin : (wanted : Bool) (nodes others found : List NodeId) → Ascends number_lt nodes → Ascends number_lt others → found ≡ [] → SelectsOn wanted nodes others found others 0
selects_begin wanted nodes others found h g e = record {
  left = subst (Ascends number_lt) (sym (drop_no nodes)) h;
  ascending = g;
  whole = ap (λ l. l ++ filter (selects wanted others) (drop 0 nodes)) e ∙ ap (filter (selects wanted others)) (drop_no nodes);
}

one_kept : (b : Bool) (x : NodeId) (xs : List NodeId) → (if b then x ∷ [] else []) ++ xs ≡ cond b (x ∷ xs) xs
one_kept true x xs = refl
one_kept false x xs = refl

pub selects_next : (wanted there : Bool) (nodes others found now rest behind : List NodeId) (i : ℕ) (x : NodeId) → i < length nodes → x ≡ get_or nodes i x → SelectsOn wanted nodes others found rest i
    → behind ≡ filter (not_below x) rest → there ≡ begins_with behind x → now ≡ found ++ (if wants wanted there then x ∷ [] else []) → SelectsOn wanted nodes others now behind (i + 1)
selects_next wanted there nodes others found now rest behind i x l e s b t n =
    let D : List NodeId = drop (i + 1) nodes in
    let R : List NodeId = filter (not_below x) rest in
    let next = dropped nodes i x l e in
    let left = subst (Ascends number_lt) next s.left in
    let chosen : wants wanted there ≡ selects wanted rest x = ap (wants wanted) (t ∙ ap (λ ms. begins_with ms x) b ∙ begins_is x rest s.ascending) in
    let others_same : filter (selects wanted behind) D ≡ filter (selects wanted rest) D =
    ap (λ ms. filter (selects wanted ms) D) b
    ∙ agree_on (selects wanted R) (selects wanted rest) D (every_each (λ m. number_lt x m ≡ true) (λ m. selects wanted R m ≡ selects wanted rest m) D (λ m k. ap (wants wanted) (member_stays x m rest k)) left.0) in
    record {
      left = left.1;
      ascending = subst (Ascends number_lt) (sym b) (ascends_filtered number_lt (not_below x) rest s.ascending);
      whole = ap (λ ms. ms ++ filter (selects wanted behind) D) n
          ∙ append_assoc found (if wants wanted there then x ∷ [] else []) (filter (selects wanted behind) D)
          ∙ ap (λ ms. found ++ ((if wants wanted there then x ∷ [] else []) ++ ms)) others_same
          ∙ ap (λ ms. found ++ ms) (one_kept (wants wanted there) x (filter (selects wanted rest) D))
          ∙ ap (λ (c : Bool). found ++ cond c (x ∷ filter (selects wanted rest) D) (filter (selects wanted rest) D)) chosen
          ∙ ap (λ ms. found ++ filter (selects wanted rest) ms) (sym next)
          ∙ s.whole;
    }

-- ---- lists that are merged

-- in front of each number of the first list stand those of the second that are below it
abbrev pub merge_of : List NodeId → List NodeId → List NodeId
merge_of [] ys = ys
merge_of (x ∷ xs) ys = filter (λ m. number_lt m x) ys ++ x ∷ merge_of xs (filter (λ m. number_lt x m) ys)

pub record MergesOn (nodes others found rest : List NodeId) (i : ℕ) : Type 0 where
  pub ascending : Ascends number_lt rest
  pub whole : found ++ merge_of (drop i nodes) rest ≡ merge_of nodes others

pub merges_begin : (nodes others found : List NodeId) → Ascends number_lt others → found ≡ [] → MergesOn nodes others found others 0
merges_begin nodes others found g e = record {
  ascending = g;
  whole = ap (λ l. l ++ merge_of (drop 0 nodes) others) e ∙ ap (λ ms. merge_of ms others) (drop_no nodes);
}

pub merges_next : (nodes others found now rest before behind after : List NodeId) (i : ℕ) (x : NodeId) → i < length nodes → x ≡ get_or nodes i x → MergesOn nodes others found rest i
    → before ≡ filter (below x) rest → behind ≡ filter (not_below x) rest → after ≡ without_first x behind → now ≡ (found ++ before) ++ x ∷ [] → MergesOn nodes others now after (i + 1)
merges_next nodes others found now rest before behind after i x l e s f b a n =
    let D : List NodeId = drop (i + 1) nodes in
    let left : after ≡ filter (past x) rest = a ∙ ap (without_first x) b ∙ without_is x rest s.ascending in
    record {
      ascending = subst (Ascends number_lt) (sym left) (ascends_filtered number_lt (past x) rest s.ascending);
      whole = ap (λ ms. ms ++ merge_of D after) n
          ∙ append_assoc (found ++ before) (x ∷ []) (merge_of D after)
          ∙ append_assoc found before (x ∷ merge_of D after)
          ∙ ap (λ ms. found ++ (ms ++ x ∷ merge_of D after)) f
          ∙ ap (λ ms. found ++ (filter (below x) rest ++ x ∷ merge_of D ms)) left
          ∙ ap (λ ms. found ++ merge_of ms rest) (sym (dropped nodes i x l e))
          ∙ s.whole;
    }

pub merges_end : (nodes others found now rest : List NodeId) (i : ℕ) → length nodes ≤ i → MergesOn nodes others found rest i → now ≡ found ++ rest → now ≡ merge_of nodes others
merges_end nodes others found now rest i l s n = n ∙ sym (ap (λ ms. found ++ merge_of ms rest) (drop_all nodes i l)) ∙ s.whole

every_merged : (P : NodeId → Type 0) (xs ys : List NodeId) → Every P xs → Every P ys → Every P (merge_of xs ys)
every_merged P [] ys h g = g
every_merged P (x ∷ xs) ys h g =
    every_append P (filter (below x) ys) (x ∷ merge_of xs (filter (past x) ys)) (every_filtered P (below x) ys g) (h.0, every_merged P xs (filter (past x) ys) h.1 (every_filtered P (past x) ys g))

ascends_joined : (xs ys : List NodeId) → Ascends number_lt xs → Ascends number_lt ys → Every (λ x. Every (λ y. number_lt x y ≡ true) ys) xs → Ascends number_lt (xs ++ ys)
ascends_joined [] ys h g e = g
ascends_joined (x ∷ xs) ys h g e = (every_append (λ y. number_lt x y ≡ true) xs ys h.0 e.0, ascends_joined xs ys h.1 g e.1)

pub merged_ascends : (xs ys : List NodeId) → Ascends number_lt xs → Ascends number_lt ys → Ascends number_lt (merge_of xs ys)
merged_ascends [] ys h g = g
merged_ascends (x ∷ xs) ys h g =
    let B : List NodeId = filter (below x) ys in
    let M : List NodeId = merge_of xs (filter (past x) ys) in
    let high : Every (λ m. number_lt x m ≡ true) M = every_merged (λ m. number_lt x m ≡ true) xs (filter (past x) ys) h.0 (passing (past x) ys) in
    ascends_joined B (x ∷ M) (ascends_filtered number_lt (below x) ys g) (high, merged_ascends xs (filter (past x) ys) h.1 (ascends_filtered number_lt (past x) ys g))
    (every_each (λ m. number_lt m x ≡ true) (λ m. Every (λ k. number_lt m k ≡ true) (x ∷ M)) B (λ m l. (l, every_goes_on m x M l high)) (passing (below x) ys))

-- what passes a test that a number does not pass is below it or past it
parts_pass_if : (p : NodeId → Bool) (x y : NodeId) (B P : List NodeId) (all : Bool) (b c : Bool) → number_lt y x ≡ b → number_lt x y ≡ c → p x ≡ false → all ≡ (list_any p B || list_any p P)
    → (p y || all) ≡ (list_any p (cond b (y ∷ B) B) || list_any p (cond c (y ∷ P) P))
parts_pass_if p x y B P all true true e f n i = absurd (omega (arith, ltb-true y.number x.number e, ltb-true x.number y.number f))
parts_pass_if p x y B P all true false e f n i = ap (λ (d : Bool). p y || d) i ∙ grouped (p y) (list_any p B) (list_any p P)
  where
    grouped : (a b c : Bool) → (a || (b || c)) ≡ ((a || b) || c)
    grouped true b c = refl
    grouped false b c = refl
parts_pass_if p x y B P all false true e f n i = ap (λ (d : Bool). p y || d) i ∙ between (p y) (list_any p B) (list_any p P)
  where
    between : (a b c : Bool) → (a || (b || c)) ≡ (b || (a || c))
    between true true c = refl
    between true false c = refl
    between false true c = refl
    between false false c = refl
parts_pass_if p x y B P all false false e f n i =
    let same : y ≡ x = one_number y x (omega (arith, ltb-false y.number x.number e, ltb-false x.number y.number f)) in
    ap (λ (d : Bool). d || all) (ap p same ∙ n) ∙ i

parts_pass : (p : NodeId → Bool) (x : NodeId) (ys : List NodeId) → p x ≡ false → list_any p ys ≡ (list_any p (filter (below x) ys) || list_any p (filter (past x) ys))
parts_pass p x [] n = refl
parts_pass p x (y ∷ ys) n = parts_pass_if p x y (filter (below x) ys) (filter (past x) ys) (list_any p ys) (number_lt y x) (number_lt x y) refl refl n (parts_pass p x ys n)

all_pass_if : (p : NodeId → Bool) (x : NodeId) (xs ys : List NodeId) (b : Bool) → p x ≡ b
    → (list_any p (filter (below x) ys) || (b || (list_any p xs || list_any p (filter (past x) ys)))) ≡ ((b || list_any p xs) || list_any p ys)
all_pass_if p x xs ys true e = absorbed (list_any p (filter (below x) ys))
  where
    absorbed : (a : Bool) → (a || true) ≡ true
    absorbed true = refl
    absorbed false = refl
all_pass_if p x xs ys false e =
    between (list_any p (filter (below x) ys)) (list_any p xs) (list_any p (filter (past x) ys)) ∙ ap (λ (d : Bool). list_any p xs || d) (sym (parts_pass p x ys e))
  where
    between : (a b c : Bool) → (a || (b || c)) ≡ (b || (a || c))
    between true true c = refl
    between true false c = refl
    between false true c = refl
    between false false c = refl

in_merged : (p : NodeId → Bool) (xs ys : List NodeId) → list_any p (merge_of xs ys) ≡ (list_any p xs || list_any p ys)
in_merged p [] ys = refl
in_merged p (x ∷ xs) ys =
    list_any-append p (filter (below x) ys) (x ∷ merge_of xs (filter (past x) ys))
    ∙ ap (λ (d : Bool). list_any p (filter (below x) ys) || (p x || d)) (in_merged p xs (filter (past x) ys))
    ∙ all_pass_if p x xs ys (p x) refl

pub merged_same : (p : NodeId → Bool) (xs ys : List NodeId) → list_any p (merge_of xs ys) ≡ list_any p (xs ++ ys)
merged_same p xs ys = in_merged p xs ys ∙ sym (list_any-append p xs ys)

-- ---- as nodes

pub joined_same : (first second left right a b : List NodeId) → a ≡ left → b ≡ right → ((q : NodeId → Bool) → list_any q left ≡ list_any q first) → ((q : NodeId → Bool) → list_any q right ≡ list_any q second)
    → (p : NodeId → Bool) → list_any p (a ++ b) ≡ list_any p (first ++ second)
joined_same first second left right a b e f s t p =
    list_any-append p a b
    ∙ ap (λ (l : List NodeId). list_any p l || list_any p b) e
    ∙ ap (λ (l : List NodeId). list_any p left || list_any p l) f
    ∙ ap (λ (d : Bool). d || list_any p right) (s p)
    ∙ ap (λ (d : Bool). list_any p first || d) (t p)
    ∙ sym (list_any-append p first second)

pub selection_ordered : (forest later : Forest) (wanted : Bool) (first second left right a b found : List NodeId) → Extends forest later → a ≡ left → b ≡ right → Ascends number_lt left
    → ((q : NodeId → Bool) → list_any q left ≡ list_any q first) → ((q : NodeId → Bool) → list_any q right ≡ list_any q second) → found ≡ filter (selects wanted b) a
    → map (placed later) (filter (λ m. nat_lt m.number (count_in forest)) found) ≡ in_document_order forest (map (placed later) (filter (selects wanted second) first))
selection_ordered forest later wanted first second left right a b found x e f h s t g =
    let chosen : found ≡ filter (selects wanted second) left =
    g
    ∙ ap (filter (selects wanted b)) e
    ∙ filter_agree (selects wanted b) (selects wanted second) (λ m. ap (wants wanted) (ap (list_any (number_eq m)) f ∙ t (number_eq m))) left in
    ordered_numbers forest later (filter (selects wanted second) first) found x
    (subst (Ascends number_lt) (sym chosen) (ascends_filtered number_lt (selects wanted second) left h))
    (λ p. ap (list_any p) chosen ∙ any_filtered p (selects wanted second) left ∙ s (λ m. selects wanted second m && p m) ∙ sym (any_filtered p (selects wanted second) first))

same_placed : (later : Forest) (a b : NodeId) → same_node (placed later a) (placed later b) ≡ number_eq a b
same_placed later a b = by_test (number_lt a b) refl (number_lt b a) refl
  where
    never : (c : Bool) → same_node (placed later a) (placed later b) ≡ c → ((placed later a ≡ placed later b) → ⊥) → same_node (placed later a) (placed later b) ≡ false
    never true e n = absurd (n (nodes_same (placed later a) (placed later b) e))
    never false e n = e

    by_test : (c : Bool) → number_lt a b ≡ c → (d : Bool) → number_lt b a ≡ d → same_node (placed later a) (placed later b) ≡ number_eq a b
    by_test true e d f =
        let before : comes_before (placed later a) (placed later b) ≡ true = before_is later a.number b.number ∙ e in
        never (same_node (placed later a) (placed later b)) refl
        (λ s. true≢false (sym before ∙ ap (λ (n : PlainNode). comes_before n (placed later b)) s ∙ not_before_itself (placed later b)))
        ∙ sym (differs a b e).0
    by_test false e true f =
        let before : comes_before (placed later b) (placed later a) ≡ true = before_is later b.number a.number ∙ f in
        never (same_node (placed later a) (placed later b)) refl
        (λ s. true≢false (sym before ∙ ap (λ (n : PlainNode). comes_before (placed later b) n) s ∙ not_before_itself (placed later b)))
        ∙ sym (differs b a f).1
    by_test false e false f =
        let same : a.number ≡ b.number = omega (arith, ltb-false a.number b.number e, ltb-false b.number a.number f) in
        ap (λ (n : ℕ). same_node (place_of_number later n) (placed later b)) same ∙ node_itself (placed later b) ∙ sym (eq-eqb a.number b.number same)

any_agrees : (p q : NodeId → Bool) → ((m : NodeId) → p m ≡ q m) → (xs : List NodeId) → list_any p xs ≡ list_any q xs
any_agrees p q h [] = refl
any_agrees p q h (x ∷ xs) = ap (λ (b : Bool). b || list_any p xs) (h x) ∙ ap (λ (b : Bool). q x || b) (any_agrees p q h xs)

pub placed_selection : (later : Forest) (wanted : Bool) (first second : List NodeId)
    → map (placed later) (filter (selects wanted second) first) ≡ filter (λ n. wants wanted (occurs_in (map (placed later) second) n)) (map (placed later) first)
placed_selection later wanted first second =
    ap (map (placed later)) (filter_agree (selects wanted second) (λ m. wants wanted (occurs_in (map (placed later) second) (placed later m)))
    (λ m. ap (wants wanted) (sym (any_placed later (same_node (placed later m)) second ∙ any_agrees (λ k. same_node (placed later m) (placed later k)) (number_eq m) (same_placed later m) second))) first)
    ∙ sym (filter_mapped (λ n. wants wanted (occurs_in (map (placed later) second) n)) (placed later) first)

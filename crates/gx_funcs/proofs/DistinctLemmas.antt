-- Values of which none before them is equal.
use Rattle.std.proofs.Common.{◌≡◌, Bool, true, false, not, ◌&&◌, ◌++◌, List, [], ◌∷◌, refl, sym, ◌∙◌, ap, append_assoc}
use Rattle.std.specs.Prelude.{filter, ◌||◌, cond}
use Rattle.std.specs.List.{list_any}
use Rattle.std.proofs.lemmas.List.Folds.{list_any-append}
use Rattle.gx_facets.specs.declared.Atomic.{Atomic}
use Rattle.gx_atomic.specs.EqualValues.{values_are_equivalent}
use Rattle.gx_atomic.specs.JoinKey.{join_key_of, same_key, keys_are_equivalent}
use Rattle.gx_atomic.specs.declared.join_key.JoinKey.{JoinKey}
use Rattle.gx_funcs.specs.Distinct.{are_equal_values, distinct_values}

-- a key is one of those of some values
abbrev pub is_key_among : JoinKey → List Atomic → Bool
is_key_among key found = list_any (λ (a : Atomic). same_key key (join_key_of a)) found

-- a value is equal to none of some others
abbrev pub is_new : List Atomic → Atomic → Bool
is_new found b = not (is_key_among (join_key_of b) found)

-- the values that follow and are not there yet
abbrev pub new_values : List Atomic → List Atomic → List Atomic
new_values found values = filter (is_new found) (distinct_values values)

not_either : (a b : Bool) → not (a || b) ≡ (not a && not b)
not_either true b = refl
not_either false b = refl

or_none : (b : Bool) → b || false ≡ b
or_none true = refl
or_none false = refl

filter_twice : {A : Type 0} (p q r : A → Bool) → ((x : A) → r x ≡ (p x && q x)) → (xs : List A) → filter p (filter q xs) ≡ filter r xs
filter_twice p q r h [] = refl
filter_twice {A} p q r h (x ∷ xs) = by (q x) (p x) (r x) (h x) refl (filter_twice p q r h xs)
  where
    there : (b : Bool) → p x ≡ b → filter p (x ∷ filter q xs) ≡ cond b (x ∷ filter p (filter q xs)) (filter p (filter q xs))
    there b e = ap (λ (k : Bool). cond k (x ∷ filter p (filter q xs)) (filter p (filter q xs))) e

    by : (b c d : Bool) → d ≡ (c && b) → p x ≡ c → filter p (filter q xs) ≡ filter r xs → filter p (cond b (x ∷ filter q xs) (filter q xs)) ≡ cond d (x ∷ filter r xs) (filter r xs)
    by true true true e f same = there true f ∙ ap (λ (l : List A). x ∷ l) same
    by true true false e f same = absurd (cc)
    by true false true e f same = absurd (cc)
    by true false false e f same = there false f ∙ same
    by false true true e f same = absurd (cc)
    by false true false e f same = same
    by false false true e f same = absurd (cc)
    by false false false e f same = same

-- ---- what is found

pub none_found : (values : List Atomic) → new_values [] values ≡ distinct_values values
none_found values = all (distinct_values values)
  where
    all : (xs : List Atomic) → filter (is_new []) xs ≡ xs
    all [] = refl
    all (x ∷ xs) = ap (λ (l : List Atomic). x ∷ l) (all xs)

new_behind : (found : List Atomic) (a b : Atomic) → is_new (found ++ a ∷ []) b ≡ (is_new found b && not (are_equal_values a b))
new_behind found a b =
    ap not (list_any-append (λ (c : Atomic). same_key (join_key_of b) (join_key_of c)) found (a ∷ []))
    ∙ not_either (is_key_among (join_key_of b) found) (same_key (join_key_of b) (join_key_of a) || false)
    ∙ ap (λ (k : Bool). is_new found b && not k) (or_none (same_key (join_key_of b) (join_key_of a)) ∙ values_are_equivalent.symm b.value a.value)

pub found_more : (found : List Atomic) (a : Atomic) (values : List Atomic) → is_new found a ≡ true → (found ++ a ∷ []) ++ new_values (found ++ a ∷ []) values ≡ found ++ new_values found (a ∷ values)
found_more found a values new =
    let others : List Atomic = filter (λ b. not (are_equal_values a b)) (distinct_values values) in
    let left : List Atomic = filter (is_new found) others in
    append_assoc found (a ∷ []) (new_values (found ++ a ∷ []) values)
    ∙ ap (λ (l : List Atomic). found ++ a ∷ l) (sym (filter_twice (is_new found) (λ b. not (are_equal_values a b)) (is_new (found ++ a ∷ [])) (new_behind found a) (distinct_values values)))
    ∙ ap (λ (k : Bool). found ++ cond k (a ∷ left) left) (sym new)

-- equal values are new together
new_alike : (found : List Atomic) (a b : Atomic) → are_equal_values a b ≡ true → is_new found a ≡ is_new found b
new_alike found a b e = ap (λ (test : Atomic → Bool). not (list_any test found)) (λ i c. values_are_equivalent.congr a.value b.value c.value e i)

pub found_before : (found : List Atomic) (a : Atomic) (values : List Atomic) → is_new found a ≡ false → new_values found values ≡ new_values found (a ∷ values)
found_before found a values old =
    let others : List Atomic = filter (λ b. not (are_equal_values a b)) (distinct_values values) in
    let left : List Atomic = filter (is_new found) others in
    sym (filter_twice (is_new found) (λ b. not (are_equal_values a b)) (is_new found) stays (distinct_values values))
    ∙ ap (λ (k : Bool). cond k (a ∷ left) left) (sym old)
  where
    by : (b : Atomic) (equal now : Bool) → are_equal_values a b ≡ equal → is_new found b ≡ now → now ≡ (now && not equal)
    by b true true e f = absurd (let k : false ≡ true = sym old ∙ new_alike found a b e ∙ f in cc)
    by b true false e f = refl
    by b false true e f = refl
    by b false false e f = refl

    stays : (b : Atomic) → is_new found b ≡ (is_new found b && not (are_equal_values a b))
    stays b = by b (are_equal_values a b) (is_new found b) refl refl

-- ---- the keys of what is found

pub key_more : (key : JoinKey) (found : List Atomic) (a : Atomic) → is_key_among key (found ++ a ∷ []) ≡ cond (same_key (join_key_of a) key) true (is_key_among key found)
key_more key found a = list_any-append (λ (b : Atomic). same_key key (join_key_of b)) found (a ∷ []) ∙ by (is_key_among key found) (same_key key (join_key_of a)) (same_key (join_key_of a) key) (keys_are_equivalent.symm key (join_key_of a))
  where
    by : (x y z : Bool) → y ≡ z → x || (y || false) ≡ cond z true x
    by true true true e = refl
    by false true true e = refl
    by true false false e = refl
    by false false false e = refl
    by x true false e = absurd (cc)
    by x false true e = absurd (cc)

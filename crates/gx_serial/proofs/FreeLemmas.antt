-- A free prefix is free.
use Rattle.std.proofs.Common.{◌≡◌, ℕ, zero, suc, ◌+◌, ◌^◌, ◌<◌, ◌≤◌, List, [], ◌∷◌, ◌++◌, length, drop, map, Bool, true, false, cond, refl, sym, ap, ◌∙◌, subst, arith}
use Rattle.std.specs.Prelude.{Some, None, bytes_eq, decimal, ◌||◌}
use Rattle.std.specs.Cmp.Lexicographic.{bytes_decides}
use Rattle.std.proofs.lemmas.Fmt.{decimal_injective}
use Rattle.gx_serial.specs.Binding.{Binding, bound_to, last_of, is_prefix_among, numbered_prefix, free_number, free_prefix}
use Rattle.gx_serial.proofs.BindingLemmas.{last_of-cond}

pub by_bool : {P : Type 0} (b : Bool) → (b ≡ true → P) → (b ≡ false → P) → P
by_bool true f g = f refl
by_bool false f g = g refl

pub bytes_same : (a b : List ℕ) → bytes_eq a b ≡ true → a ≡ b
bytes_same a b e = (bytes_decides a b).0 e

pub bytes_self : (a : List ℕ) → bytes_eq a a ≡ true
bytes_self a = (bytes_decides a a).1 refl

pub or_right : (a b : Bool) → (a || b) ≡ false → b ≡ false
or_right true b e = absurd (cc)
or_right false b e = e

pub or_left : (a b : Bool) → (a || b) ≡ false → a ≡ false
or_left true b e = e
or_left false b e = refl

-- a list without the members that equal one
abbrev removed : List (List ℕ) → List ℕ → List (List ℕ)
removed [] x = []
removed (y ∷ ys) x = cond (bytes_eq y x) (removed ys x) (y ∷ removed ys x)

length_cond : (b : Bool) (xs : List (List ℕ)) (y : List ℕ) → length (cond b xs (y ∷ xs)) ≤ suc (length xs)
length_cond true xs y = omega arith
length_cond false xs y = omega arith

length_removed : (ys : List (List ℕ)) (x : List ℕ) → length (removed ys x) ≤ length ys
length_removed [] x = omega arith
length_removed (y ∷ ys) x = omega (arith, length_cond (bytes_eq y x) (removed ys x) y, length_removed ys x)

length_removed-among : (ys : List (List ℕ)) (x : List ℕ) → is_prefix_among ys x ≡ true → length (removed ys x) < length ys
length_removed-among [] x e = absurd (cc)
length_removed-among (y ∷ ys) x e = at (length_removed-among ys x) (bytes_eq y x) refl
  where
    at : (is_prefix_among ys x ≡ true → length (removed ys x) < length ys) → (b : Bool) → bytes_eq y x ≡ b
        → length (cond b (removed ys x) (y ∷ removed ys x)) < suc (length ys)
    at rest true f = omega (arith, length_removed ys x)
    at rest false f =
        let later : is_prefix_among ys x ≡ true = rw f at e in
        omega (arith, rest later)

is_prefix_among-removed : (ys : List (List ℕ)) (x z : List ℕ) → bytes_eq x z ≡ false → is_prefix_among (removed ys x) z ≡ is_prefix_among ys z
is_prefix_among-removed [] x z d = refl
is_prefix_among-removed (y ∷ ys) x z d = at (is_prefix_among-removed ys x z d) (bytes_eq y x) refl
  where
    at : is_prefix_among (removed ys x) z ≡ is_prefix_among ys z → (b : Bool) → bytes_eq y x ≡ b → is_prefix_among (cond b (removed ys x) (y ∷ removed ys x)) z ≡ (bytes_eq y z || is_prefix_among ys z)
    at rest true f =
        let other : bytes_eq y z ≡ false = subst (λ (w : List ℕ). bytes_eq w z ≡ false) (sym (bytes_same y x f)) d in
        rw other rest
    at rest false f = ap (λ b. bytes_eq y z || b) rest

numbers_differ : (k j : ℕ) → k < j → j < 2 ^ 64 → bytes_eq (numbered_prefix k) (numbered_prefix j) ≡ false
numbers_differ k j below small = by_bool (bytes_eq (numbered_prefix k) (numbered_prefix j))
    (λ e. let same : decimal k ≡ decimal j = ap (drop 2) (bytes_same (numbered_prefix k) (numbered_prefix j) e) in
    let equal : k ≡ j = decimal_injective k j (omega arith) small same in
    absurd (omega arith))
    (λ e. e)

-- the number that is found is free, where no more prefixes than are passed over are used from there on
found_is_free : (used left : List (List ℕ)) (spare k : ℕ) → length left ≤ spare → k + spare < 2 ^ 64
    → ((j : ℕ) → k ≤ j → j < 2 ^ 64 → is_prefix_among used (numbered_prefix j) ≡ true → is_prefix_among left (numbered_prefix j) ≡ true)
    → is_prefix_among used (numbered_prefix (free_number used spare k)) ≡ false
unfolding free_number
found_is_free used [] zero k fits small h = by_bool (is_prefix_among used (numbered_prefix k)) (λ e. absurd (let f = h k (omega arith) (omega arith) e in cc)) (λ e. e)
found_is_free used (x ∷ xs) zero k fits small h = absurd (omega arith)
found_is_free used left (suc spare) k fits small h = at
    (λ e. found_is_free used (removed left (numbered_prefix k)) spare (k + 1)
    (omega (arith, length_removed-among left (numbered_prefix k) (h k (omega arith) (omega arith) e))) (omega arith)
    (λ j from below a. is_prefix_among-removed left (numbered_prefix k) (numbered_prefix j) (numbers_differ k j (omega arith) below) ∙ h j (omega arith) below a))
    (is_prefix_among used (numbered_prefix k)) refl
  where
    at : (is_prefix_among used (numbered_prefix k) ≡ true → is_prefix_among used (numbered_prefix (free_number used spare (k + 1))) ≡ false)
        → (b : Bool) → is_prefix_among used (numbered_prefix k) ≡ b
        → is_prefix_among used (numbered_prefix (cond b (free_number used spare (k + 1)) k)) ≡ false
    at rest true e = rest e
    at rest false e = e

pub free_prefix_is_free : (used : List (List ℕ)) → 1 + length used < 2 ^ 64 → is_prefix_among used (free_prefix used) ≡ false
free_prefix_is_free used small = found_is_free used used (length used) 1 (omega arith) small (λ j from below a. a)

pub is_prefix_among-back : (xs ys : List (List ℕ)) (p : List ℕ) → is_prefix_among (xs ++ ys) p ≡ false → is_prefix_among ys p ≡ false
is_prefix_among-back [] ys p e = e
is_prefix_among-back (x ∷ xs) ys p e = is_prefix_among-back xs ys p (or_right (bytes_eq x p) (is_prefix_among (xs ++ ys) p) e)

-- a prefix that no binding has is not bound
pub not_bound : (bs : List Binding) (p : List ℕ) → is_prefix_among (map (λ (b : Binding). b.0) bs) p ≡ false → bound_to bs p ≡ None
not_bound [] p e = refl
not_bound (b ∷ bs) p e =
    let here : bytes_eq b.0 p ≡ false = or_left (bytes_eq b.0 p) (is_prefix_among (map (λ (c : Binding). c.0) bs) p) e in
    let later : bound_to bs p ≡ None = not_bound bs p (or_right (bytes_eq b.0 p) (is_prefix_among (map (λ (c : Binding). c.0) bs) p) e) in
    rw (here, later) refl

-- one more binding
pub bound_to-snoc : (bs : List Binding) (b : Binding) (p : List ℕ) → bound_to (bs ++ (b ∷ [])) p ≡ cond (bytes_eq b.0 p) (Some b.1) (bound_to bs p)
bound_to-snoc [] b p = refl
bound_to-snoc (c ∷ cs) b p =
    let first = cond (bytes_eq c.0 p) (Some c.1) None in
    ap (last_of first) (bound_to-snoc cs b p) ∙ last_of-cond (bytes_eq b.0 p) first (bound_to cs p) b.1

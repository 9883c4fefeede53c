use Rattle.std.proofs.Common.{◌≡◌, ℕ, zero, suc, ◌+◌, ◌<◌, ◌≤◌, Bool, true, false, if◌then◌else◌, List, [], ◌∷◌, ◌++◌, inl, inr, length, length-append, refl, sym, ap, subst, ◌∙◌, append_assoc, add-one, zero-add, drop, get_or, take, take_all, length-drop, ◌-◌, arith}
use Rattle.gx_base.specs.declared.place.Place.{Place}
use Rattle.gx_grammar.specs.Places.{ends_line, place_behind, place_from, first_place, place_at, line_ends, IsPlaceAt}
use Rattle.gx_grammar.proofs.Readings.{by_test}

-- one more character
line_ends_next : (before : List ℕ) (c : ℕ) (x : List ℕ) → line_ends (before ++ (c ∷ x)) (suc (length before)) ≡ line_ends (before ++ (c ∷ x)) (length before) + (if ends_line c x then 1 else 0)
line_ends_next [] c x = omega arith
line_ends_next (b ∷ before) c x = let h = line_ends_next before c x in omega (arith, h)

module _ (text : List ℕ) where
  next_place : (before : List ℕ) (c : ℕ) (x : List ℕ) (p : Place) → text ≡ before ++ (c ∷ x) → IsPlaceAt text (length before) p → IsPlaceAt text (length before + 1) (place_behind p c x)
  next_place before c x p e h = go (ends_line c x) refl
    where
      next : line_ends text (length before + 1) ≡ line_ends text (length before) + (if ends_line c x then 1 else 0)
      next = subst (λ t. line_ends t (length before + 1) ≡ line_ends t (length before) + (if ends_line c x then 1 else 0)) (sym e) (rw add-one (line_ends_next before c x))

      go : (b : Bool) → ends_line c x ≡ b → IsPlaceAt text (length before + 1) (if b then (record { line = p.line + 1; column = 1 }) else (record { line = p.line; column = p.column + 1 }))
      go true f = let n = subst (λ b. line_ends text (length before + 1) ≡ line_ends text (length before) + (if b then 1 else 0)) f next in
          record { begin = length before + 1; behind = omega arith; line = omega (arith, n, h.line); begins = inr (before, c, x, e, refl, f); same_line = refl; column = omega arith }
      go false f = let n = subst (λ b. line_ends text (length before + 1) ≡ line_ends text (length before) + (if b then 1 else 0)) f next in
          record { begin = h.begin; behind = omega (arith, h.behind); line = omega (arith, n, h.line); begins = h.begins; same_line = omega (arith, n, h.same_line); column = omega (arith, h.column) }

  places_on : (x before : List ℕ) (k : ℕ) (p : Place) → text ≡ before ++ x → k ≤ length x → IsPlaceAt text (length before) p → IsPlaceAt text (length before + k) (place_from p x k)
  places_on x before zero p e h q = subst (λ n. IsPlaceAt text n p) (omega arith) q
  places_on [] before (suc k) p e h q = absurd (omega arith)
  places_on (c ∷ x) before (suc k) p e h q =
      let f : length (before ++ c ∷ []) ≡ length before + 1 = length-append before (c ∷ []) in
      let r = places_on x (before ++ c ∷ []) k (place_behind p c x) (e ∙ sym (append_assoc before (c ∷ []) x)) (omega arith) (subst (λ n. IsPlaceAt text n (place_behind p c x)) (sym f) (next_place before c x p e q)) in
      subst (λ n. IsPlaceAt text n (place_from (place_behind p c x) x k)) (omega (arith, f)) r

  pub counts_lines : (n : ℕ) → n ≤ length text → IsPlaceAt text n (place_at text n)
  counts_lines n h =
      let r = places_on text [] n first_place refl h (record { begin = 0; behind = omega arith; line = omega arith; begins = inl refl; same_line = refl; column = omega arith }) in
      subst (λ m. IsPlaceAt text m (place_at text n)) (omega arith) r

-- After i characters neither number is past i + 1.
pub record IsBounded (p : Place) (i : ℕ) : Type 0 where
  pub sum : p.line + p.column ≤ i + 2
  pub line : 1 ≤ p.line
  pub column : 1 ≤ p.column

pub behind_bounded : (p : Place) (c : ℕ) (x : List ℕ) (i : ℕ) → IsBounded p i → IsBounded (place_behind p c x) (i + 1)
behind_bounded p c x i h =
    by_test (ends_line c x) (record { line = p.line + 1; column = 1 }) (record { line = p.line; column = p.column + 1 }) (λ q. IsBounded q (i + 1))
    (λ _. record { sum = omega (arith, h.sum, h.column); line = omega arith; column = omega arith })
    (λ _. record { sum = omega (arith, h.sum); line = h.line; column = omega arith })

-- one more character behind the first n
at_next : (p : Place) (x : List ℕ) (n : ℕ) → n < length x → place_from p x (suc n) ≡ place_behind (place_from p x n) (get_or x n 0) (drop (suc n) x)
at_next p [] n h = absurd (omega arith)
at_next p (c ∷ x) zero h = refl
at_next p (c ∷ x) (suc n) h = at_next (place_behind p c x) x n (omega arith)

-- The next place is that behind the character.
pub walk_step : (text : List ℕ) (i c : ℕ) (p q : Place) → i < length text → c ≡ get_or text i c → q ≡ place_behind p c (take (length text - (i + 1)) (drop (i + 1) text)) → p ≡ place_at text i → q ≡ place_at text (i + 1)
walk_step text i c p q h e f g =
    let all : take (length text - (i + 1)) (drop (i + 1) text) ≡ drop (suc i) text = take_all (length text - (i + 1)) (drop (i + 1) text) (omega (arith, length-drop (i + 1) text)) ∙ ap (λ j. drop j text) (add-one i) in
    let d : get_or text i 0 ≡ c = get_or_any text i 0 c h ∙ sym e in
    f ∙ ap (λ x. place_behind p c x) all ∙ ap (λ r. place_behind r c (drop (suc i) text)) g ∙ ap (λ b. place_behind (place_at text i) b (drop (suc i) text)) (sym d) ∙ sym (at_next first_place text i h) ∙ ap (λ n. place_at text n) (sym (add-one i))
  where
    get_or_any : (x : List ℕ) (n a b : ℕ) → n < length x → get_or x n a ≡ get_or x n b
    get_or_any [] n a b k = absurd (omega arith)
    get_or_any (c ∷ x) zero a b k = refl
    get_or_any (c ∷ x) (suc n) a b k = get_or_any x n a b (omega arith)

-- No place is further than the characters before it.
from_bounded : (p : Place) (x : List ℕ) (n i : ℕ) → IsBounded p i → IsBounded (place_from p x n) (i + n)
from_bounded p x zero i h = record { sum = omega (arith, h.sum); line = h.line; column = h.column }
from_bounded p [] (suc n) i h = record { sum = omega (arith, h.sum); line = h.line; column = h.column }
from_bounded p (c ∷ x) (suc n) i h =
    let e : i + 1 + n ≡ i + suc n = omega arith in
    subst (λ k. IsBounded (place_from (place_behind p c x) x n) k) e (from_bounded (place_behind p c x) x n (i + 1) (behind_bounded p c x i h))

pub at_bounded : (text : List ℕ) (n : ℕ) → IsBounded (place_at text n) n
at_bounded text n = subst (λ k. IsBounded (place_at text n) k) (zero-add n) (from_bounded first_place text n 0 (record { sum = omega arith; line = omega arith; column = omega arith }))

-- Insertion gives the one list that ascends and keeps the order of ties.
use Rattle.std.proofs.Common.{◌≡◌, ℕ, zero, suc, ◌<◌, ◌≤◌, Bool, true, false, cond, if◌then◌else◌, not, ◌&&◌, List, [], ◌∷◌, length, get_or, refl, sym, ap, subst, ◌∙◌, true≢false, filter, add-one, arith}
use Rattle.std.specs.Cmp.{IsStrictWeakOrder}
use Rattle.std.specs.List.Sorted.{IsSortedBy, IsStableBy, ties}
use Rattle.std.proofs.lemmas.List.Sorted.{sorted_far}
use Rattle.gx_sorting.specs.Sorting.{put_in, sorted}

module _ {X : Type 0} (lt : X → X → Bool) where
  -- none of ys is less than x
  abbrev Leads : X → List X → Type 0
  Leads x [] = Unit {0}
  Leads x (y ∷ ys) = (lt y x ≡ false) × Leads x ys

  abbrev Ascends : List X → Type 0
  Ascends [] = Unit {0}
  Ascends (x ∷ xs) = Leads x xs × Ascends xs

irreflexive_test : (b : Bool) → (b ≡ true → b ≡ false) → b ≡ false
irreflexive_test true h = h refl
irreflexive_test false h = refl

neither : (a b : Bool) → (not a && not b) ≡ true → (a ≡ false) × (b ≡ false)
neither false false h = (refl, refl)
neither false true h = absurd (true≢false (sym h))
neither true b h = absurd (true≢false (sym h))

same_behind : {X : Type 0} (b : Bool) (y z : X) (ys zs : List X) → cond b (y ∷ ys) ys ≡ cond b (z ∷ zs) zs → ys ≡ zs
same_behind true y z ys zs e = cc
same_behind false y z ys zs e = e

-- putting a behind y, of which one at most is kept
exchanged : {X : Type 0} (c d : Bool) (y a : X) (put left : List X) → put ≡ cond d (a ∷ left) left → (c ≡ true → d ≡ true → ⊥)
    → cond c (y ∷ put) put ≡ cond d (a ∷ cond c (y ∷ left) left) (cond c (y ∷ left) left)
exchanged true true y a put left e h = absurd (h refl refl)
exchanged true false y a put left e h = ap (λ l. y ∷ l) e
exchanged false d y a put left e h = e

module _ {X : Type 0} (lt : X → X → Bool) (o : IsStrictWeakOrder lt) where
  not_below_itself : (x : X) → lt x x ≡ false
  not_below_itself x = irreflexive_test (lt x x) (o.one_way x x)

  tied : (x y : X) → lt x y ≡ false → lt y x ≡ false → ties lt x y ≡ true
  tied x y p q = λ i. not (p i) && not (q i)

  kept : (x y : X) (ys : List X) → ties lt x y ≡ true → filter (ties lt x) (y ∷ ys) ≡ y ∷ filter (ties lt x) ys
  kept x y ys e = ap (λ b. cond b (y ∷ filter (ties lt x) ys) (filter (ties lt x) ys)) e

  -- what ties with an element of a list is not below what leads the list
  meets : (y z : X) (ws : List X) → Leads lt z ws → (r : X) (rs : List X) → filter (ties lt y) ws ≡ r ∷ rs → lt y z ≡ false
  meets y z [] h r rs e = cc
  meets y z (w ∷ ws) h r rs e = by (ties lt y w) refl e (meets y z ws h.1 r rs)
    where
      by : (b : Bool) → ties lt y w ≡ b → cond b (w ∷ filter (ties lt y) ws) (filter (ties lt y) ws) ≡ r ∷ rs → (filter (ties lt y) ws ≡ r ∷ rs → lt y z ≡ false) → lt y z ≡ false
      by true t e rest = o.chain y w z (neither (lt y w) (lt w y) t).0 h.0
      by false t e rest = rest e

  -- ---- two lists that ascend and keep the same ties are one

  one_list : (ys zs : List X) → Ascends lt ys → Ascends lt zs → ((x : X) → filter (ties lt x) ys ≡ filter (ties lt x) zs) → ys ≡ zs
  one_list [] [] a b same = refl
  one_list [] (z ∷ zs) a b same = let e : [] ≡ z ∷ filter (ties lt z) zs = same z ∙ kept z z zs (tied z z (not_below_itself z) (not_below_itself z)) in cc
  one_list (y ∷ ys) [] a b same = let e : [] ≡ y ∷ filter (ties lt y) ys = sym (same y) ∙ kept y y ys (tied y y (not_below_itself y) (not_below_itself y)) in cc
  one_list (y ∷ ys) (z ∷ zs) a b same =
      let own_y = kept y y ys (tied y y (not_below_itself y) (not_below_itself y)) in
      let own_z = kept z z zs (tied z z (not_below_itself z) (not_below_itself z)) in
      let y_z : lt y z ≡ false = meets y z (z ∷ zs) (not_below_itself z, b.0) y (filter (ties lt y) ys) (sym (same y) ∙ own_y) in
      let z_y : lt z y ≡ false = meets z y (y ∷ ys) (not_below_itself y, a.0) z (filter (ties lt z) zs) (same z ∙ own_z) in
      let both : y ∷ filter (ties lt y) ys ≡ z ∷ filter (ties lt y) zs = sym own_y ∙ same y ∙ kept y z zs (tied y z y_z z_y) in
      let first : y ≡ z = cc in
      let others : ys ≡ zs = one_list ys zs a.1 b.1 (λ x. same_behind (ties lt x y) y z (filter (ties lt x) ys) (filter (ties lt x) zs)
      (same x ∙ ap (λ t. cond t (z ∷ filter (ties lt x) zs) (filter (ties lt x) zs)) (ap (ties lt x) (sym first)))) in
      λ i. first i ∷ others i

  -- ---- insertion ascends

  put_leads : (w x : X) (ys : List X) → lt x w ≡ false → Leads lt w ys → Leads lt w (put_in lt x ys)
  put_leads w x [] p h = (p, tt)
  put_leads w x (y ∷ ys) p h = by (lt y x) (put_leads w x ys p h.1)
    where
      by : (b : Bool) → Leads lt w (put_in lt x ys) → Leads lt w (if b then y ∷ put_in lt x ys else x ∷ y ∷ ys)
      by true rest = (h.0, rest)
      by false rest = (p, h)

  leads_too : (x y : X) (ys : List X) → lt y x ≡ false → Leads lt y ys → Leads lt x ys
  leads_too x y [] p h = tt
  leads_too x y (z ∷ zs) p h = (o.chain z y x h.0 p, leads_too x y zs p h.1)

  put_ascends : (x : X) (ys : List X) → Ascends lt ys → Ascends lt (put_in lt x ys)
  put_ascends x [] h = (tt, tt)
  put_ascends x (y ∷ ys) h = by (lt y x) refl (put_ascends x ys h.1)
    where
      by : (b : Bool) → lt y x ≡ b → Ascends lt (put_in lt x ys) → Ascends lt (if b then y ∷ put_in lt x ys else x ∷ y ∷ ys)
      by true e rest = (put_leads y x ys (o.one_way y x e) h.0, rest)
      by false e rest = ((e, leads_too x y ys e h.0), h)

  pub sorted_ascends : (xs : List X) → Ascends lt (sorted lt xs)
  sorted_ascends [] = tt
  sorted_ascends (x ∷ xs) = put_ascends x (sorted lt xs) (sorted_ascends xs)

  -- ---- and keeps the order of ties

  put_keeps_ties : (x a : X) (ys : List X) → filter (ties lt x) (put_in lt a ys) ≡ filter (ties lt x) (a ∷ ys)
  put_keeps_ties x a [] = refl
  put_keeps_ties x a (y ∷ ys) = by (lt y a) refl (put_keeps_ties x a ys)
    where
      by : (b : Bool) → lt y a ≡ b → filter (ties lt x) (put_in lt a ys) ≡ filter (ties lt x) (a ∷ ys)
          → filter (ties lt x) (if b then y ∷ put_in lt a ys else a ∷ y ∷ ys) ≡ filter (ties lt x) (a ∷ y ∷ ys)
      by true e rest = exchanged (ties lt x y) (ties lt x a) y a (filter (ties lt x) (put_in lt a ys)) (filter (ties lt x) ys) rest
          (λ c d. true≢false (sym e ∙ o.chain y x a (neither (lt x y) (lt y x) c).1 (neither (lt x a) (lt a x) d).0))
      by false e rest = refl

  pub sorted_keeps_ties : (x : X) (xs : List X) → filter (ties lt x) (sorted lt xs) ≡ filter (ties lt x) xs
  sorted_keeps_ties x [] = refl
  sorted_keeps_ties x (a ∷ xs) = put_keeps_ties x a (sorted lt xs) ∙ ap (λ l. cond (ties lt x a) (a ∷ l) l) (sorted_keeps_ties x xs)

  -- ---- by indices

  leads_from : (x : X) (xs : List X) → ((k : ℕ) → k < length xs → lt (get_or xs k x) x ≡ false) → Leads lt x xs
  leads_from x [] h = tt
  leads_from x (y ∷ ys) h = (h 0 (omega arith), leads_from x ys (λ k p. h (suc k) (omega arith)))

  ascends_from : (xs : List X) → ((i j : ℕ) (d : X) → i ≤ j → j < length xs → lt (get_or xs j d) (get_or xs i d) ≡ false) → Ascends lt xs
  ascends_from [] h = tt
  ascends_from (x ∷ xs) h = (leads_from x xs (λ k p. h 0 (suc k) x (omega arith) (omega arith)), ascends_from xs (λ i j d p q. h (suc i) (suc j) d (omega arith) (omega arith)))

  next_not_less : (xs : List X) → Ascends lt xs → (k : ℕ) (d : X) → suc k < length xs → lt (get_or xs (suc k) d) (get_or xs k d) ≡ false
  next_not_less [] h k d w = absurd (omega arith)
  next_not_less (x ∷ []) h k d w = absurd (omega arith)
  next_not_less (x ∷ y ∷ ys) h zero d w = h.0.0
  next_not_less (x ∷ y ∷ ys) h (suc k) d w = next_not_less (y ∷ ys) h.1 k d (omega arith)

  pub sorted_is_sorted : (xs : List X) → IsSortedBy lt (sorted lt xs)
  sorted_is_sorted xs k d low high =
      subst (λ n. lt (get_or (sorted lt xs) n d) (get_or (sorted lt xs) k d) ≡ false) (sym (add-one k)) (next_not_less (sorted lt xs) (sorted_ascends xs) k d (omega arith))

  -- what ascends and keeps the order of ties is what insertion gives
  pub stable_sort : (xs ys : List X) → IsSortedBy lt ys → IsStableBy lt xs ys → ys ≡ sorted lt xs
  stable_sort xs ys up stable = one_list ys (sorted lt xs) (ascends_from ys (sorted_far lt o ys up)) (sorted_ascends xs) (λ x. stable x ∙ sym (sorted_keeps_ties x xs))

-- Closures are least closed lists, and a list that has grown is the closure.
use Rattle.std.proofs.Common.{◌≡◌, ℕ, zero, suc, ◌+◌, ◌-◌, ◌<◌, ◌≤◌, Bool, true, List, [], ◌∷◌, length, get_or, Option, None, Some, ◌⊎◌, inl, inr, refl, sym, ◌∙◌, ap, subst, arith}
use Rattle.std.specs.List.{slice_get, AllByRecursion, IsDistinct}
use Rattle.std.specs.Set.{is_member}
use Rattle.std.specs.Cmp.{IsEquivalence}
use Rattle.std.proofs.lemmas.Option.{slice_get_past, slice_get_within, slice_get-get_or}
use Rattle.std.proofs.lemmas.Map.Made.{length-le_from_is_member}
use Rattle.indexmap.specs.IndexSet.{insert_all}
use Rattle.gx_closure.specs.Closure.{successors_of, after_turns, closure_from, IsGrown, AreAmong, IsLeastClosed}
use Rattle.gx_closure.specs.Laws.{ClosuresAreLeast}
use Rattle.gx_closure.proofs.Growing.{no_shorter, among_stay, places_stay, all_are_put, all_more_hold, more_are_distinct, member_of_all}

by_places : {A : Type 0} (P : A → Type 0) (xs : List A) → ((i : ℕ) (x : A) → slice_get xs i ≡ Some x → P x) → AllByRecursion P xs
by_places P [] h = tt
by_places P (x ∷ xs) h = (h zero x refl, by_places P xs (λ i y e. h (suc i) y e))

holds_at : {A : Type 0} (P : A → Type 0) (xs : List A) (i : ℕ) (x : A) → AllByRecursion P xs → slice_get xs i ≡ Some x → P x
holds_at P [] i x h e = absurd (cc)
holds_at P (y ∷ xs) zero x h e = let same : y ≡ x = cc in subst P same h.0
holds_at P (y ∷ xs) (suc i) x h e = holds_at P xs i x h.1 e

module _ {A : Type 0} (same : A → A → Bool) (next : A → List A) where
  -- turns

  -- turns at places past the end change nothing
  pub nothing_more : (turns at : ℕ) (found : List A) → length found ≤ at → after_turns same next turns at found ≡ found
  nothing_more zero at found h = refl
  nothing_more (suc turns) at found h =
      ap (λ (o : Option A). after_turns same next turns (suc at) (insert_all same found (successors_of next o))) (slice_get_past found at h) ∙ nothing_more turns (suc at) found (omega arith)

  pub more_turns : (first more all at end : ℕ) (found : List A) → all ≡ first + more → end ≡ at + first → after_turns same next all at found ≡ after_turns same next more end (after_turns same next first at found)
  more_turns zero more all at end found e f =
      let p : all ≡ more = omega arith in
      let q : at ≡ end = omega arith in
      ap (λ (n : ℕ). after_turns same next n at found) p ∙ ap (λ (n : ℕ). after_turns same next more n found) q
  more_turns (suc first) more all at end found e f =
      let p : all ≡ suc (first + more) = omega arith in
      ap (λ (n : ℕ). after_turns same next n at found) p ∙ more_turns first more (first + more) (suc at) end (insert_all same found (successors_of next (slice_get found at))) refl (omega arith)

  -- a loop over the places
  pub one_more_turn : (at more : ℕ) (start found grows : List A) (now : A → List A) → now ≡ next
      → ((n : ℕ) → after_turns same next (at + n) 0 start ≡ after_turns same next n at found) → grows ≡ insert_all same found (successors_of now (slice_get found at))
      → after_turns same next (at + 1 + more) 0 start ≡ after_turns same next more (at + 1) grows
  one_more_turn at more start found grows now e turns added =
      let p : at + 1 + more ≡ at + suc more = omega arith in
      let q : suc at ≡ at + 1 = omega arith in
      ap (λ (n : ℕ). after_turns same next n 0 start) p ∙ turns (suc more)
      ∙ ap (λ (n : ℕ). after_turns same next more n (insert_all same found (successors_of next (slice_get found at)))) q
      ∙ ap (after_turns same next more (at + 1)) (sym (added ∙ ap (λ (f : A → List A). insert_all same found (successors_of f (slice_get found at))) e))

  pub still_within : (at : ℕ) (found grows xs : List A) → at < length found → grows ≡ insert_all same found xs → at + 1 ≤ length grows
  still_within at found grows xs h added = let longer = no_shorter same xs found in let same_length = ap length added in omega arith

  pub all_had_turns : (at : ℕ) (start found : List A) → at ≤ length found → length found ≤ at → ((n : ℕ) → after_turns same next (at + n) 0 start ≡ after_turns same next n at found) → IsGrown same next start found
  all_had_turns at start found within ended turns more h =
      let p : more ≡ at + (more - at) = omega arith in
      ap (λ (n : ℕ). after_turns same next n 0 start) p ∙ turns (more - at) ∙ nothing_more (more - at) at found ended

  -- what holds of a list whose values before a place had their turns
  record Closing (all start : List A) (at : ℕ) (found : List A) : Type 0 where
    below : (i : ℕ) (x : A) → i < at → slice_get found i ≡ Some x → AreAmong same found (next x)
    within : AreAmong same all found
    holds : AreAmong same found start
    distinct : IsDistinct same found

  this_or_below : (at i : ℕ) → i < suc at → (i ≡ at) ⊎ (i < at)
  this_or_below at i h = grind arith

  one_turn : IsEquivalence same → (all start : List A) → ((x : A) → AreAmong same all (next x)) → (at : ℕ) (found : List A) → Closing all start at found
      → (o : Option A) → slice_get found at ≡ o → Closing all start (suc at) (insert_all same found (successors_of next o))
  one_turn laws all start bounded at found c None e = record {
    below = λ i x l k. elim (this_or_below at i l) [
      | inl s ↦ (let gone : slice_get found at ≡ Some x = subst (λ (n : ℕ). slice_get found n ≡ Some x) s k in absurd (cc))
      | inr s ↦ c.below i x s k
    ];
    within = c.within;
    holds = c.holds;
    distinct = c.distinct;
  }
  one_turn laws all start bounded at found c (Some y) e = record {
    below = λ i x l k. elim (this_or_below at i l) [
      | inl s ↦ here i x s k
      | inr s ↦ before i x s k
    ];
    within = all_more_hold same (λ x. is_member same all x ≡ true) (next y) found c.within (bounded y);
    holds = among_stay same (next y) found start c.holds;
    distinct = more_are_distinct same laws (next y) found c.distinct;
  }
    where
      here : (i : ℕ) (x : A) → i ≡ at → slice_get (insert_all same found (next y)) i ≡ Some x → AreAmong same (insert_all same found (next y)) (next x)
      here i x s k =
          let there : slice_get (insert_all same found (next y)) i ≡ Some y = places_stay same (next y) found i y (subst (λ (n : ℕ). slice_get found n ≡ Some y) (sym s) e) in
          let one : y ≡ x = cc in
          subst (λ (z : A). AreAmong same (insert_all same found (next y)) (next z)) one (all_are_put same laws (next y) found)

      before : (i : ℕ) (x : A) → i < at → slice_get (insert_all same found (next y)) i ≡ Some x → AreAmong same (insert_all same found (next y)) (next x)
      before i x s k =
          let inside = slice_get_within found at y e in
          let stood : slice_get found i ≡ Some (get_or found i y) = slice_get-get_or found i y (omega arith) in
          let there = places_stay same (next y) found i (get_or found i y) stood in
          let one : get_or found i y ≡ x = cc in
          subst (λ (z : A). AreAmong same (insert_all same found (next y)) (next z)) one (among_stay same (next y) found (next (get_or found i y)) (c.below i (get_or found i y) s stood))

  turned : IsEquivalence same → (all start : List A) → ((x : A) → AreAmong same all (next x)) → (turns at end : ℕ) (found : List A) → end ≡ turns + at → Closing all start at found
      → Closing all start end (after_turns same next turns at found)
  turned laws all start bounded zero at end found e c = let p : at ≡ end = omega arith in subst (λ (n : ℕ). Closing all start n found) p c
  turned laws all start bounded (suc turns) at end found e c =
      turned laws all start bounded turns (suc at) end (insert_all same found (successors_of next (slice_get found at))) (omega arith) (one_turn laws all start bounded at found c (slice_get found at) refl)

  begun : IsEquivalence same → (all start : List A) → AreAmong same all start → Closing all start 0 (insert_all same [] start)
  unfolding IsDistinct
  begun laws all start within = record {
    below = λ i x l k. absurd (omega arith);
    within = all_more_hold same (λ x. is_member same all x ≡ true) start [] tt within;
    holds = all_are_put same laws start [];
    distinct = more_are_distinct same laws start [] tt;
  }

  closed_at_end : IsEquivalence same → (all start : List A) → AreAmong same all start → ((x : A) → AreAmong same all (next x)) → Closing all start (length all) (closure_from same next all start)
  closed_at_end laws all start within bounded = turned laws all start bounded (length all) 0 (length all) (insert_all same [] start) (omega arith) (begun laws all start within)

  no_longer : IsEquivalence same → (all start : List A) → AreAmong same all start → ((x : A) → AreAmong same all (next x)) → length (closure_from same next all start) ≤ length all
  no_longer laws all start within bounded =
      let c = closed_at_end laws all start within bounded in
      length-le_from_is_member laws (closure_from same next all start) all c.distinct (λ q m. member_of_all same laws all (closure_from same next all start) c.within q m)

  -- nothing else is found

  next_hold : (P : A → Type 0) → ((x : A) → P x → AllByRecursion P (next x)) → (found : List A) → AllByRecursion P found → (at : ℕ) → (o : Option A) → slice_get found at ≡ o → AllByRecursion P (successors_of next o)
  next_hold P step found h at None e = tt
  next_hold P step found h at (Some x) e = step x (holds_at P found at x h e)

  turns_keep : (P : A → Type 0) → ((x : A) → P x → AllByRecursion P (next x)) → (turns at : ℕ) (found : List A) → AllByRecursion P found → AllByRecursion P (after_turns same next turns at found)
  turns_keep P step zero at found h = h
  turns_keep P step (suc turns) at found h =
      turns_keep P step turns (suc at) (insert_all same found (successors_of next (slice_get found at)))
      (all_more_hold same P (successors_of next (slice_get found at)) found h (next_hold P step found h at (slice_get found at) refl))

  -- what holds of given values, and of all that a value leads to where it holds of the value, holds of the closure
  pub closure_keeps : (P : A → Type 0) (all start : List A) → AllByRecursion P start → ((x : A) → P x → AllByRecursion P (next x)) → AllByRecursion P (closure_from same next all start)
  closure_keeps P all start begins step = turns_keep P step (length all) 0 (insert_all same [] start) (all_more_hold same P start [] tt begins)

  pub is_least_closed : IsEquivalence same → (all start : List A) → AreAmong same all start → ((x : A) → AreAmong same all (next x)) → IsLeastClosed same next start (closure_from same next all start)
  is_least_closed laws all start within bounded =
      let c = closed_at_end laws all start within bounded in
      let short = no_longer laws all start within bounded in
      record {
        holds = c.holds;
        closed =
            by_places (λ x. AreAmong same (closure_from same next all start) (next x)) (closure_from same next all start)
            (λ i x e. let inside = slice_get_within (closure_from same next all start) i x e in c.below i x (omega arith) e);
        distinct = c.distinct;
        least = λ test begins step. closure_keeps (λ x. test x ≡ true) all start begins step;
      }

  -- a list that has grown from given values is their closure
  pub is_closure : IsEquivalence same → (all start found : List A) → AreAmong same all start → ((x : A) → AreAmong same all (next x)) → IsGrown same next (insert_all same [] start) found
      → found ≡ closure_from same next all start
  is_closure laws all start found within bounded grows =
      let short = no_longer laws all start within bounded in
      sym (grows (length all + length found) (omega arith))
      ∙ more_turns (length all) (length found) (length all + length found) 0 (length all) (insert_all same [] start) refl (omega arith)
      ∙ nothing_more (length found) (length all) (closure_from same next all start) short

pub closures_are_least : {A : Type 0} (same : A → A → Bool) → IsEquivalence same → ClosuresAreLeast same
closures_are_least same laws next all start within bounded = is_least_closed same next laws all start within bounded

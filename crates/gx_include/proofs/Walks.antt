-- A walk in breadth: the states that are found, each with the run by which it was found.
use Rattle.std.proofs.Common.{◌≡◌, ℕ, zero, suc, ◌+◌, ◌<◌, ◌≤◌, Bool, true, false, List, [], ◌∷◌, ◌++◌, ◌⊎◌, inl, inr, Option, None, Some, refl, sym, ◌∙◌, ap, subst, get_or, length, arith, length-append}
use Rattle.std.proofs.lemmas.Bool.{cases_lt}
use Rattle.gx_include.specs.Walk.{go_by, leads_to, ComesBefore, NotAfter, StateAt, run_at, Found, IsClosedBelow, Walked}

-- the order of runs

pub before_trans : (u v w : List ℕ) → ComesBefore u v → ComesBefore v w → ComesBefore u w
before_trans [] [] w h k = absurd h
before_trans [] (b ∷ v) [] h k = absurd k
before_trans [] (b ∷ v) (c ∷ w) h k = tt
before_trans (a ∷ u) [] w h k = absurd h
before_trans (a ∷ u) (b ∷ v) [] h k = absurd k
before_trans (a ∷ u) (b ∷ v) (c ∷ w) (inl h) (inl k) = inl (before_trans u v w h k)
before_trans (a ∷ u) (b ∷ v) (c ∷ w) (inl h) (inr k) = inl (subst (ComesBefore u) k.0 h)
before_trans (a ∷ u) (b ∷ v) (c ∷ w) (inr h) (inl k) = inl (subst (λ x. ComesBefore x w) (sym h.0) k)
before_trans (a ∷ u) (b ∷ v) (c ∷ w) (inr h) (inr k) = inr (h.0 ∙ k.0, omega (arith, h.1, k.1))

pub before_itself : (u : List ℕ) → ComesBefore u u → ⊥
before_itself [] h = h
before_itself (a ∷ u) (inl h) = before_itself u h
before_itself (a ∷ u) (inr h) = omega (arith, h.1)

pub before_longer : (u : List ℕ) (a : ℕ) → ComesBefore u (a ∷ u)
before_longer [] a = tt
before_longer (b ∷ u) a = inl (before_longer u b)

pub not_after_before : (u v w : List ℕ) → NotAfter u v → ComesBefore v w → ComesBefore u w
not_after_before u v w (inl e) k = subst (λ x. ComesBefore x w) (sym e) k
not_after_before u v w (inr h) k = before_trans u v w h k

pub before_not_after : (u v w : List ℕ) → ComesBefore u v → NotAfter v w → ComesBefore u w
before_not_after u v w h (inl e) = subst (ComesBefore u) e h
before_not_after u v w h (inr k) = before_trans u v w h k

pub not_after_trans : (u v w : List ℕ) → NotAfter u v → NotAfter v w → NotAfter u w
not_after_trans u v w (inl e) k = subst (λ x. NotAfter x w) (sym e) k
not_after_trans u v w (inr h) k = inr (before_not_after u v w h k)

-- by one letter
longer_too : (u v : List ℕ) (a : ℕ) → NotAfter u v → NotAfter (a ∷ u) (a ∷ v)
longer_too u v a (inl e) = inl (ap (λ x. a ∷ x) e)
longer_too u v a (inr h) = inr (inl h)

-- lists with one more member

pub get_or_front : {X : Type 0} (xs : List X) (y d : X) (i : ℕ) → i < length xs → get_or (xs ++ y ∷ []) i d ≡ get_or xs i d
get_or_front [] y d i h = absurd (omega arith)
get_or_front (x ∷ xs) y d zero h = refl
get_or_front (x ∷ xs) y d (suc i) h = get_or_front xs y d i (omega arith)

pub get_or_end : {X : Type 0} (xs : List X) (y d : X) (i : ℕ) → i ≡ length xs → get_or (xs ++ y ∷ []) i d ≡ y
get_or_end [] y d zero h = refl
get_or_end [] y d (suc i) h = absurd (omega arith)
get_or_end (x ∷ xs) y d zero h = absurd (omega arith)
get_or_end (x ∷ xs) y d (suc i) h = get_or_end xs y d i (omega arith)

pub at_front : {X : Type 0} (xs : List X) (y x : X) (i : ℕ) → StateAt xs i x → StateAt (xs ++ y ∷ []) i x
at_front xs y x i h = (omega (arith, h.0, length-append xs (y ∷ [])), get_or_front xs y x i h.0 ∙ h.1)

at_end : {X : Type 0} (xs : List X) (y : X) → StateAt (xs ++ y ∷ []) (length xs) y
at_end xs y = (omega (arith, length-append xs (y ∷ [])), get_or_end xs y y (length xs) refl)

pub at_either : {X : Type 0} (xs : List X) (y x : X) (i : ℕ) → StateAt (xs ++ y ∷ []) i x → StateAt xs i x ⊎ ((i ≡ length xs) × (y ≡ x))
at_either [] y x zero h = inr (refl, h.1)
at_either [] y x (suc i) h = absurd (omega (arith, h.0))
at_either (z ∷ xs) y x zero h = inl (omega arith, h.1)
at_either (z ∷ xs) y x (suc i) h =
    elim (at_either xs y x i (omega (arith, h.0), h.1)) [ inl k ↦ inl (omega (arith, k.0), k.1) | inr k ↦ inr (omega (arith, k.0), k.1) ]

pub one_state : {X : Type 0} (xs : List X) (x y : X) (i : ℕ) → StateAt xs i x → StateAt xs i y → x ≡ y
one_state [] x y i h k = absurd (omega (arith, h.0))
one_state (z ∷ xs) x y zero h k = sym h.1 ∙ k.1
one_state (z ∷ xs) x y (suc i) h k = one_state xs x y i (omega (arith, h.0), h.1) (omega (arith, k.0), k.1)

-- the walk

module _ {S : Type 0} (step : S → ℕ → Option S) (start : S) where
  one_first : (i : ℕ) (s : S) → StateAt (start ∷ []) i s → leads_to step start (run_at ([] ∷ []) i) ≡ Some s
  one_first zero s h = ap (λ x. Some x) h.1
  one_first (suc i) s h = absurd (omega (arith, h.0))

  one_bounded : (i : ℕ) → i < 1 → ComesBefore (run_at ([] ∷ []) i) (0 ∷ [])
  one_bounded zero h = tt
  one_bounded (suc i) h = absurd (omega arith)

  pub walk_begins : (count : ℕ) → Walked step start (start ∷ []) ([] ∷ []) count 0 0
  walk_begins count = record {
    same = refl;
    first = (omega arith, refl);
    empty = refl;
    lead = one_first;
    ascend = λ i j h k. absurd (omega arith);
    bounded = λ _. one_bounded;
    closed = λ j h. absurd (omega arith);
    closing = λ s h l k. absurd (omega arith);
  }

  -- what was found stays found
  found_stays : (states : List S) (runs : List (List ℕ)) (new : S) (run : List ℕ) → length states ≡ length runs → (s : S) (w : List ℕ)
      → Found step start states runs s w → Found step start (states ++ new ∷ []) (runs ++ run ∷ []) s w
  found_stays states runs new run same s w f =
      (f.0, at_front states new s f.0 f.1, subst (λ x. NotAfter x w) (sym (get_or_front runs run [] f.0 (omega (arith, f.1.0)))) f.2)

  closed_stays : (states : List S) (runs : List (List ℕ)) (new : S) (run : List ℕ) → length states ≡ length runs → (j bound : ℕ) → j < length states
      → IsClosedBelow step start states runs j bound → IsClosedBelow step start (states ++ new ∷ []) (runs ++ run ∷ []) j bound
  closed_stays states runs new run same j bound within c s h letter l next e =
      let before : StateAt states j s = elim (at_either states new s j h) [ inl k ↦ k | inr k ↦ absurd (omega (arith, k.0)) ] in
      let f = c s before letter l next e in
      let g = found_stays states runs new run same next (letter ∷ run_at runs j) f in
      subst (λ x. Found step start (states ++ new ∷ []) (runs ++ run ∷ []) next (letter ∷ x)) (sym (get_or_front runs run [] j (omega arith))) g

  -- the letter that was looked at leads nowhere
  no_step : (s : S) (letter : ℕ) (next : S) → step s letter ≡ None → step s letter ≡ Some next → ⊥
  no_step s letter next e f = cc

  letter_cases : (a bound : ℕ) → a < bound + 1 → (a < bound) ⊎ (a ≡ bound)
  letter_cases a bound h = elim (cases_lt a bound) [ inl k ↦ inl k | inr k ↦ inr (omega arith) ]

  bound_grows : (states : List S) (runs : List (List ℕ)) (count at bound : ℕ) → Walked step start states runs count at bound
      → at < length runs → (i : ℕ) → i < length runs → ComesBefore (run_at runs i) ((bound + 1) ∷ run_at runs at)
  bound_grows states runs count at bound w h i k = before_trans (run_at runs i) (bound ∷ run_at runs at) ((bound + 1) ∷ run_at runs at) (w.bounded h i k) (inr (refl, omega arith))

  -- the letter leads to a state that is found
  pub goes_on : (states : List S) (runs : List (List ℕ)) (count at bound : ℕ) → Walked step start states runs count at bound
      → ((s next : S) → StateAt states at s → step s bound ≡ Some next → Found step start states runs next (bound ∷ run_at runs at))
      → Walked step start states runs count at (bound + 1)
  goes_on states runs count at bound w found = record {
    same = w.same;
    first = w.first;
    empty = w.empty;
    lead = w.lead;
    ascend = w.ascend;
    bounded = bound_grows states runs count at bound w;
    closed = w.closed;
    closing = λ s h letter l next e. elim (letter_cases letter bound l) [
      | inl k ↦ w.closing s h letter k next e
      | inr k ↦ subst (λ x. Found step start states runs next (x ∷ run_at runs at)) (sym k) (found s next h (subst (λ x. step s x ≡ Some next) k e))
    ];
  }

  -- the letter leads to a state that is among those found
  pub was_found : (states : List S) (runs : List (List ℕ)) (count at bound : ℕ) → Walked step start states runs count at bound → at < length states
      → (next : S) (i : ℕ) → StateAt states i next → Found step start states runs next (bound ∷ run_at runs at)
  was_found states runs count at bound w h next i k = (i, k, inr (w.bounded (omega (arith, w.same)) i (omega (arith, w.same, k.0))))

  -- the letter leads to a new state
  new_lead : (states : List S) (runs : List (List ℕ)) (count at bound : ℕ) → Walked step start states runs count at bound → (s new : S) → StateAt states at s → step s bound ≡ Some new
      → (i : ℕ) (t : S) → StateAt (states ++ new ∷ []) i t → leads_to step start (run_at (runs ++ (bound ∷ run_at runs at) ∷ []) i) ≡ Some t
  new_lead states runs count at bound w s new here leads i t h =
      elim (at_either states new t i h) [
        | inl k ↦ ap (λ x. leads_to step start x) (get_or_front runs (bound ∷ run_at runs at) [] i (omega (arith, w.same, k.0))) ∙ w.lead i t k
        | inr k ↦
            ap (λ x. leads_to step start x) (get_or_end runs (bound ∷ run_at runs at) [] i (k.0 ∙ w.same))
            ∙ ap (λ x. go_by step bound x) (w.lead at s here) ∙ leads ∙ ap (λ x. Some x) k.1
      ]

  new_ascend : (states : List S) (runs : List (List ℕ)) (count at bound : ℕ) → Walked step start states runs count at bound → at < length runs
      → (i j : ℕ) → i < j → j < length (runs ++ (bound ∷ run_at runs at) ∷ [])
      → ComesBefore (run_at (runs ++ (bound ∷ run_at runs at) ∷ []) i) (run_at (runs ++ (bound ∷ run_at runs at) ∷ []) j)
  new_ascend states runs count at bound w within i j h k =
      let longer = length-append runs ((bound ∷ run_at runs at) ∷ []) in
      let front : run_at runs i ≡ run_at (runs ++ (bound ∷ run_at runs at) ∷ []) i = sym (get_or_front runs (bound ∷ run_at runs at) [] i (omega (arith, longer))) in
      elim (cases_lt j (length runs)) [
        | inl l ↦ subst (ComesBefore (run_at (runs ++ (bound ∷ run_at runs at) ∷ []) i)) (sym (get_or_front runs (bound ∷ run_at runs at) [] j l)) (subst (λ x. ComesBefore x (run_at runs j)) front (w.ascend i j h l))
        | inr l ↦
            subst (ComesBefore (run_at (runs ++ (bound ∷ run_at runs at) ∷ []) i)) (sym (get_or_end runs (bound ∷ run_at runs at) [] j (omega (arith, longer))))
            (subst (λ x. ComesBefore x (bound ∷ run_at runs at)) front (w.bounded within i (omega (arith, longer))))
      ]

  new_bounded : (states : List S) (runs : List (List ℕ)) (count at bound : ℕ) → Walked step start states runs count at bound → at < length runs
      → (i : ℕ) → i < length (runs ++ (bound ∷ run_at runs at) ∷ [])
      → ComesBefore (run_at (runs ++ (bound ∷ run_at runs at) ∷ []) i) ((bound + 1) ∷ run_at (runs ++ (bound ∷ run_at runs at) ∷ []) at)
  new_bounded states runs count at bound w within i k =
      let longer = length-append runs ((bound ∷ run_at runs at) ∷ []) in
      subst (λ x. ComesBefore (run_at (runs ++ (bound ∷ run_at runs at) ∷ []) i) ((bound + 1) ∷ x)) (sym (get_or_front runs (bound ∷ run_at runs at) [] at within))
      (elim (cases_lt i (length runs)) [
        | inl l ↦ subst (λ x. ComesBefore x ((bound + 1) ∷ run_at runs at)) (sym (get_or_front runs (bound ∷ run_at runs at) [] i l)) (bound_grows states runs count at bound w within i l)
        | inr l ↦ subst (λ x. ComesBefore x ((bound + 1) ∷ run_at runs at)) (sym (get_or_end runs (bound ∷ run_at runs at) [] i (omega (arith, longer)))) (inr (refl, omega arith))
      ])

  new_closing : (states : List S) (runs : List (List ℕ)) (count at bound : ℕ) → Walked step start states runs count at bound → at < length states → (s new : S) → StateAt states at s → step s bound ≡ Some new
      → IsClosedBelow step start (states ++ new ∷ []) (runs ++ (bound ∷ run_at runs at) ∷ []) at (bound + 1)
  new_closing states runs count at bound w within s new here leads t h letter l next e =
      elim (letter_cases letter bound l) [
        | inl k ↦ closed_stays states runs new (bound ∷ run_at runs at) w.same at bound within w.closing t h letter k next e
        | inr k ↦
            let same : s ≡ t = one_state (states ++ new ∷ []) s t at (at_front states new s at here) h in
            let there : step s bound ≡ Some next = subst (λ x. step x bound ≡ Some next) (sym same) (subst (λ x. step t x ≡ Some next) k e) in
            let is : new ≡ next = cc in
            let end : run_at (runs ++ (bound ∷ run_at runs at) ∷ []) (length states) ≡ bound ∷ run_at runs at = get_or_end runs (bound ∷ run_at runs at) [] (length states) w.same in
            let now : bound ∷ run_at runs at ≡ letter ∷ run_at (runs ++ (bound ∷ run_at runs at) ∷ []) at =
            ap (λ x. x ∷ run_at runs at) (sym k) ∙ ap (λ x. letter ∷ x) (sym (get_or_front runs (bound ∷ run_at runs at) [] at (omega (arith, w.same)))) in
            (length states, subst (StateAt (states ++ new ∷ []) (length states)) is (at_end states new), inl (end ∙ now))
      ]

  pub finds : (states : List S) (runs : List (List ℕ)) (count at bound : ℕ) → Walked step start states runs count at bound → at < length states → (s new : S) → StateAt states at s → step s bound ≡ Some new
      → Walked step start (states ++ new ∷ []) (runs ++ (bound ∷ run_at runs at) ∷ []) count at (bound + 1)
  finds states runs count at bound w within s new here leads = record {
    same = omega (arith, w.same, length-append states (new ∷ []), length-append runs ((bound ∷ run_at runs at) ∷ []));
    first = at_front states new start 0 w.first;
    empty = get_or_front runs (bound ∷ run_at runs at) [] 0 (omega (arith, w.same)) ∙ w.empty;
    lead = new_lead states runs count at bound w s new here leads;
    ascend = new_ascend states runs count at bound w (omega (arith, w.same));
    bounded = λ _. new_bounded states runs count at bound w (omega (arith, w.same));
    closed = λ j h. closed_stays states runs new (bound ∷ run_at runs at) w.same j count (omega arith) (w.closed j h);
    closing = new_closing states runs count at bound w within s new here leads;
  }

  -- on to the next state
  closed_next : (states : List S) (runs : List (List ℕ)) (count at : ℕ) → Walked step start states runs count at count → (j : ℕ) → j < at + 1 → IsClosedBelow step start states runs j count
  closed_next states runs count at w j h =
      elim (letter_cases j at h) [ inl k ↦ w.closed j k | inr k ↦ subst (λ x. IsClosedBelow step start states runs x count) (sym k) w.closing ]

  pub walks_on : (states : List S) (runs : List (List ℕ)) (count at : ℕ) → Walked step start states runs count at count → Walked step start states runs count (at + 1) 0
  walks_on states runs count at w = record {
    same = w.same;
    first = w.first;
    empty = w.empty;
    lead = w.lead;
    ascend = w.ascend;
    bounded = λ h i k. before_trans (run_at runs i) (count ∷ run_at runs at) (0 ∷ run_at runs (at + 1)) (w.bounded (omega arith) i k) (inl (w.ascend at (at + 1) (omega arith) h));
    closed = closed_next states runs count at w;
    closing = λ s h letter l. absurd (omega arith);
  }

  -- what a run leads to was found, or the run comes no sooner than that of the state whose letters were not all looked at
  abbrev pub Reached : List S → List (List ℕ) → ℕ → S → List ℕ → Type 0
  Reached states runs at s run = Found step start states runs s run ⊎ ((at < length states) × NotAfter (run_at runs at) run)

  between : (states : List S) (runs : List (List ℕ)) (count at bound : ℕ) → Walked step start states runs count at bound → (i j : ℕ) → i ≤ j → j < length states → NotAfter (run_at runs i) (run_at runs j)
  between states runs count at bound w i j h k =
      elim (cases_lt i j) [ inl l ↦ inr (w.ascend i j l (omega (arith, w.same))) | inr l ↦ inl (let e : i ≡ j = omega arith in ap (λ x. run_at runs x) e) ]

  reached_by : (states : List S) (runs : List (List ℕ)) (count at bound : ℕ) → Walked step start states runs count at bound
      → ((s : S) (l : ℕ) (next : S) → step s l ≡ Some next → l < count)
      → (letter : ℕ) (run : List ℕ) (s next : S) → step s letter ≡ Some next → Reached states runs at s run → Reached states runs at next (letter ∷ run)
  reached_by states runs count at bound w few letter run s next e (inl f) =
      elim (cases_lt f.0 at) [
        | inl k ↦
            let g = w.closed f.0 k s f.1 letter (few s letter next e) next e in
            inl (g.0, g.1, not_after_trans (run_at runs g.0) (letter ∷ run_at runs f.0) (letter ∷ run) g.2 (longer_too (run_at runs f.0) run letter f.2))
        | inr k ↦
            let u = not_after_trans (run_at runs at) (run_at runs f.0) run (between states runs count at bound w at f.0 k f.1.0) f.2 in
            inr (omega (arith, f.1.0), inr (not_after_before (run_at runs at) run (letter ∷ run) u (before_longer run letter)))
      ]
  reached_by states runs count at bound w few letter run s next e (inr f) = inr (f.0, inr (not_after_before (run_at runs at) run (letter ∷ run) f.1 (before_longer run letter)))

  by_state : (states : List S) (runs : List (List ℕ)) (count at bound : ℕ) → Walked step start states runs count at bound
      → ((s : S) (l : ℕ) (next : S) → step s l ≡ Some next → l < count)
      → (letter : ℕ) (run : List ℕ) (next : S) (reached : Option S) → ((s : S) → reached ≡ Some s → Reached states runs at s run)
      → go_by step letter reached ≡ Some next → Reached states runs at next (letter ∷ run)
  by_state states runs count at bound w few letter run next None f e = absurd (cc)
  by_state states runs count at bound w few letter run next (Some s) f e = reached_by states runs count at bound w few letter run s next e (f s refl)

  pub reached : (states : List S) (runs : List (List ℕ)) (count at bound : ℕ) → Walked step start states runs count at bound
      → ((s : S) (l : ℕ) (next : S) → step s l ≡ Some next → l < count)
      → (run : List ℕ) (s : S) → leads_to step start run ≡ Some s → Reached states runs at s run
  reached states runs count at bound w few [] s e = let is : start ≡ s = cc in inl (0, subst (StateAt states 0) is w.first, inl w.empty)
  reached states runs count at bound w few (letter ∷ run) s e =
      by_state states runs count at bound w few letter run s (leads_to step start run) (λ t f. reached states runs count at bound w few run t f) e

  -- where all is found and no state is bad, no run leads to a bad one
  pub none_bad : (bad : S → Bool) (states : List S) (runs : List (List ℕ)) (count at bound : ℕ) → Walked step start states runs count at bound
      → ((s : S) (l : ℕ) (next : S) → step s l ≡ Some next → l < count) → length states ≤ at
      → ((i : ℕ) (s : S) → StateAt states i s → bad s ≡ false) → (run : List ℕ) (s : S) → leads_to step start run ≡ Some s → bad s ≡ false
  none_bad bad states runs count at bound w few all good run s e =
      elim (reached states runs count at bound w few run s e) [ inl f ↦ good f.0 s f.1 | inr f ↦ absurd (omega (arith, f.0)) ]

  -- the run of the first bad state comes before each other run to a bad one
  pub first_bad : (bad : S → Bool) (states : List S) (runs : List (List ℕ)) (count at bound k : ℕ) → Walked step start states runs count at bound
      → ((s : S) (l : ℕ) (next : S) → step s l ≡ Some next → l < count) → k ≤ at → k < length states
      → ((i : ℕ) (s : S) → i < k → StateAt states i s → bad s ≡ false)
      → (run : List ℕ) (s : S) → leads_to step start run ≡ Some s → bad s ≡ true → NotAfter (run_at runs k) run
  first_bad bad states runs count at bound k w few before within good run s e b =
      elim (reached states runs count at bound w few run s e) [
        | inl f ↦ elim (cases_lt f.0 k) [
          | inl l ↦ let g = good f.0 s l f.1 in absurd (cc)
          | inr l ↦ not_after_trans (run_at runs k) (run_at runs f.0) run (between states runs count at bound w k f.0 l f.1.0) f.2
        ]
        | inr f ↦ not_after_trans (run_at runs k) (run_at runs at) run (between states runs count at bound w k at before f.0) f.1
      ]

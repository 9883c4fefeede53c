use Rattle.std.proofs.Common.{◌≡◌, ◌≢◌, ℕ, zero, suc, ◌<◌, ◌≤◌, true, false, List, [], ◌∷◌, ◌++◌, inl, inr, length, length-append, min, refl, sym, ap, subst, ◌∙◌, append_assoc, Ok, Err, IfOk, arith}
use Rattle.gx_grammar.specs.Value.{no_item, an_item}
use Rattle.gx_grammar.specs.Grammar.{Guard, empty, many}
use Rattle.gx_grammar.specs.Language.{Language, Part, Made}
use Rattle.gx_grammar.specs.Derivation.{Derives, of_none, of_item}
use Rattle.gx_grammar.specs.Opening.{Opens, open_end, open_item, open_later, OpensUpTo}
use Rattle.gx_grammar.specs.Halting.{Halts, halt_item, halt_later}
use Rattle.gx_grammar.specs.Reading.{State, Unfit, Faulty, TooDeep, Reading, go_on, notes, repeat}
use Rattle.gx_grammar.specs.Decision.{Texts, Until, BeforeCut, IsSeen, Repeats, Shortens}
use Rattle.gx_grammar.specs.Laws.{LawfulTokens, Within, Meets, Agrees, Stops, SeenUpTo, Reaches, IsExact}
use Rattle.gx_grammar.proofs.Derived.{suffix, whole, cut}
use Rattle.gx_grammar.proofs.Readings.{is_empty, by_test, within_go_on, sound_go_on, agrees_go_on, within_meets, meets_meets, meets_within, meets_map, stops_agrees, stops_go_on}
use Rattle.gx_grammar.proofs.Exact.{ahead, opens_as, empty_opens}
use Rattle.gx_grammar.proofs.ExactBoth.{reaches_go_on}
use Rattle.gx_grammar.proofs.ExactChoose.{noted_reaches}

module _ (L : Language) (lawful : LawfulTokens L) where
  -- what is not left as it was is shorter
  pub shorter : {A : Part L} {v : Made L} {x y : List ℕ} → Derives L A v x y → x ≢ y → length y < length x
  shorter {x = x} {y = y} d n = go (suffix L lawful d)
    where
      go : (a : List ℕ) × (x ≡ a ++ y) → length y < length x
      go ([], e) = absurd (n e)
      go (c ∷ a, e) = omega (arith, ap length e, length-append a y)

  -- what opens more items behind an item opens the items, cut off at the same place
  pub opens_later : {g : Guard} {A : Part L} {v : Made L} {x y : List ℕ} {left : ℕ} → Derives L A v x y → OpensUpTo L (many g A) y left → OpensUpTo L (many g A) x left
  opens_later {x = x} {y = y} d o =
      let a = suffix L lawful d in
      let w : x ≡ (a.0 ++ o.front) ++ o.rest = a.1 ∙ ap (λ w. a.0 ++ w) o.whole ∙ sym (append_assoc a.0 o.front o.rest) in
      record { front = a.0 ++ o.front; rest = o.rest; whole = w; place = o.place; opens = open_later (cut L lawful d (a.0 ++ o.front) o.front o.rest w o.whole).1 o.opens }

  module _ (g : Guard) (A : Part L) (K C : Texts) (item : State → Reading (Made L)) (decided : Repeats L g A K C) (shortens : Shortens L A)
      (exact : IsExact L A (Until L (many g A) K) (BeforeCut L (many g A) C) item) where
    abbrev noted : State → State
    noted s = notes s (g.seen s.rest)

    abbrev more : ℕ → Made L → State → Reading (Made L)
    more count v t = go_on (repeat g item count t) (λ w u. Ok (an_item v w, u))

    abbrev stop : State → Reading (Made L)
    stop s = Ok (no_item, noted s)

    many_kept : (count : ℕ) (s : State) (n : ℕ) → s.far ≤ n → Within (repeat g item count s) n
    many_kept zero s n h = h
    many_kept (suc count) s n h =
        by_test (g.takes s.rest) (go_on (item (noted s)) (more count)) (stop s) (λ r. Within r n)
        (λ _. within_go_on (item (noted s)) (more count) n (exact.kept (noted s) n (omega arith))
        (λ v t k. within_go_on (repeat g item count t) (λ w u. Ok (an_item v w, u)) n (many_kept count t n k) (λ w u f. f)))
        (λ _. omega arith)

    more_kept : (count : ℕ) (v : Made L) (t : State) (n : ℕ) → t.far ≤ n → Within (more count v t) n
    more_kept count v t n h = within_go_on (repeat g item count t) (λ w u. Ok (an_item v w, u)) n (many_kept count t n h) (λ w u f. f)

    many_sound : (count : ℕ) (s : State) → IfOk (repeat g item count s) (λ r. Derives L (many g A) r.0 s.rest r.1.rest)
    many_sound zero s = of_none
    many_sound (suc count) s =
        by_test (g.takes s.rest) (go_on (item (noted s)) (more count)) (stop s) (λ q. IfOk q (λ r. Derives L (many g A) r.0 s.rest r.1.rest))
        (λ _. sound_go_on (item (noted s)) (more count) (λ v t. Derives L A v s.rest t.rest) (λ r. Derives L (many g A) r.0 s.rest r.1.rest) (exact.sound (noted s))
        (λ v t d. sound_go_on (repeat g item count t) (λ w u. Ok (an_item v w, u)) (λ w u. Derives L (many g A) w t.rest u.rest) (λ r. Derives L (many g A) r.0 s.rest r.1.rest) (many_sound count t) (λ w u e. of_item d e)))
        (λ _. of_none)

    many_complete : (count : ℕ) (s : State) (v : Made L) {x : List ℕ} (y : List ℕ) → length s.rest < count → Derives L (many g A) v x y → s.rest ≡ x → K y → Agrees (repeat g item count s) v y
    many_complete zero s v y b d h k = absurd (omega arith)
    many_complete (suc count) s v {x = x} y b of_none h k =
        by_test (g.takes s.rest) (go_on (item (noted s)) (more count)) (stop s) (λ r. Agrees r no_item x)
        (λ f. let t : g.takes s.rest ≡ false = ap g.takes h ∙ decided.stop x k in absurd (cc))
        (λ _. (refl, h))
    many_complete (suc count) s v y b (of_item {v = a} {w = w} {x = x} {y = m} d e) h k =
        let d' = subst (λ w. Derives L A a w m) (sym h) d in
        let behind : Until L (many g A) K m = inl (record { value = w; rest = y; derived = e; behind = k }) in
        let short : length m < length s.rest = shorter d' (shortens a s.rest m d') in
        by_test (g.takes s.rest) (go_on (item (noted s)) (more count)) (stop s) (λ r. Agrees r (an_item a w) y)
        (λ _. agrees_go_on (item (noted s)) (more count) a m (an_item a w) y (exact.complete (noted s) a m d' behind)
        (λ t f. agrees_go_on (repeat g item count t) (λ w u. Ok (an_item a w, u)) w y (an_item a w) y
        (many_complete count t w y (let q : length t.rest ≡ length m = ap length f in omega arith) e f k) (λ u q. (refl, q))))
        (λ f. let t : g.takes s.rest ≡ true = decided.item a s.rest m d' behind in absurd (cc))

    many_halts : (count : ℕ) (s : State) (code : ℕ) {x : List ℕ} (z : List ℕ) → length s.rest < count → Halts L (many g A) x code z → s.rest ≡ x → Stops (repeat g item count s) code (length z)
    many_halts zero s code z b h e = absurd (omega arith)
    many_halts (suc count) s code z b (halt_item h) e =
        let h' = subst (λ w. Halts L A w code z) (sym e) h in
        by_test (g.takes s.rest) (go_on (item (noted s)) (more count)) (stop s) (λ r. Stops r code (length z))
        (λ _. stops_go_on (item (noted s)) (more count) code (length z) (exact.halts (noted s) code z h'))
        (λ f. let t : g.takes s.rest ≡ true = decided.item_halts s.rest z code h' in absurd (cc))
    many_halts (suc count) s code z b (halt_later {v = a} {y = m} d h) e =
        let d' = subst (λ w. Derives L A a w m) (sym e) d in
        let behind : Until L (many g A) K m = inr (code, z, h) in
        let short : length m < length s.rest = shorter d' (shortens a s.rest m d') in
        by_test (g.takes s.rest) (go_on (item (noted s)) (more count)) (stop s) (λ r. Stops r code (length z))
        (λ _. stops_agrees (item (noted s)) (more count) a m code (length z) (exact.complete (noted s) a m d' behind)
        (λ t f. stops_go_on (repeat g item count t) (λ w u. Ok (an_item a w, u)) code (length z)
        (many_halts count t code z (let q : length t.rest ≡ length m = ap length f in omega arith) h f)))
        (λ f. let t : g.takes s.rest ≡ true = decided.item a s.rest m d' behind in absurd (cc))

    -- the guard ended the items, and what was cut off was seen
    stopped : (s : State) (x z : List ℕ) → s.rest ≡ x ++ z → s.far ≤ length s.rest → IsSeen L empty g x z → min s.far (g.seen s.rest) ≤ length z
    stopped s x z e h (inl o) = let f : length s.rest ≡ length z = ap length e ∙ ap (λ w. length (w ++ z)) (empty_opens L lawful o) in omega arith
    stopped s x z e h (inr k) = let f : g.seen s.rest ≤ length z = subst (λ w. g.seen w ≤ length z) (sym e) k in omega arith

    goes_first : (count : ℕ) (s : State) (x z : List ℕ) → s.rest ≡ x ++ z → s.far ≤ length s.rest → Opens L A x → Within (go_on (item (noted s)) (more count)) (length z)
    goes_first count s x z e h o = within_go_on (item (noted s)) (more count) (length z) (exact.covers (noted s) x z e (omega arith) o) (λ v t k. more_kept count v t (length z) k)

    many_first : (count : ℕ) (s : State) (x z : List ℕ) → s.rest ≡ x ++ z → s.far ≤ length s.rest → Opens L A x → Within (repeat g item (suc count) s) (length z)
    many_first count s x z e h o =
        by_test (g.takes s.rest) (go_on (item (noted s)) (more count)) (stop s) (λ r. Within r (length z))
        (λ _. goes_first count s x z e h o)
        (λ f. stopped s x z e h (decided.item_cut x z (sym (ap g.takes e) ∙ f) o))

    within_count : (count : ℕ) (s t : State) (v : Made L) (x y z : List ℕ) → length s.rest < suc count → s.rest ≡ x ++ z → Derives L A v x y → t.rest ≡ y ++ z → length t.rest < count
    within_count count s t v x y z b e d f =
        let short : length y < length x = shorter d (shortens v x y d) in
        omega (arith, ap length e, ap length f, length-append x z, length-append y z)

    many_covers : (count : ℕ) (s : State) {x : List ℕ} (z : List ℕ) → length s.rest < count → s.rest ≡ x ++ z → s.far ≤ length s.rest → Opens L (many g A) x → Within (repeat g item count s) (length z)
    many_covers zero s z b e h o = absurd (omega arith)
    many_covers (suc count) s z b e h open_end = many_kept (suc count) s (length z) (let f : length s.rest ≡ length z = ap length e in omega arith)
    many_covers (suc count) s {x = x} z b e h (open_item o) = many_first count s x z e h o
    many_covers (suc count) s {x = x} z b e h (open_later {v = v} {y = y} d o) =
        elim (is_empty y) [
          | inl n ↦ many_first count s x z e h (whole L lawful d n)
          | inr n ↦ by_test (g.takes s.rest) (go_on (item (noted s)) (more count)) (stop s) (λ r. Within r (length z))
              (λ _. within_meets (item (noted s)) (more count) (y ++ z) (length z) (exact.meets (noted s) v x y z e (omega arith) d n (inl o)) (ahead L lawful exact (noted s) (omega arith))
              (λ w t f k. within_go_on (repeat g item count t) (λ q u. Ok (an_item w q, u)) (length z) (many_covers count t z (within_count count s t v x y z b e d f) f k o) (λ q u i. i))
              (λ w t k. more_kept count w t (length z) k))
              (λ f. stopped s x z e h (decided.item_before v x y z (sym (ap g.takes e) ∙ f) d n (inl o)))
        ]

    many_meets : (count : ℕ) (s : State) {v : Made L} {x : List ℕ} (y z : List ℕ) → length s.rest < count → s.rest ≡ x ++ z → s.far ≤ length s.rest → Derives L (many g A) v x y → y ≢ [] → C y → Meets (repeat g item count s) (y ++ z) (length z)
    many_meets zero s y z b e h d n c = absurd (omega arith)
    many_meets (suc count) s {x = x} y z b e h of_none n c =
        by_test (g.takes s.rest) (go_on (item (noted s)) (more count)) (stop s) (λ r. Meets r (x ++ z) (length z))
        (λ f. elim (decided.stop_before x z (sym (ap g.takes e) ∙ f) n c) [
          | inl o ↦ meets_within (go_on (item (noted s)) (more count)) (x ++ z) (length z) (goes_first count s x z e h o)
          | inr k ↦ meets_within (go_on (item (noted s)) (more count)) (x ++ z) (length z)
              (within_go_on (item (noted s)) (more count) (length z) (exact.kept (noted s) (length z) (let i : g.seen s.rest ≤ length z = subst (λ w. g.seen w ≤ length z) (sym e) k in omega arith)) (λ v t k. more_kept count v t (length z) k))
        ])
        (λ _. inl e)
    many_meets (suc count) s y z b e h (of_item {v = a} {w = w} {x = x} {y = m} d i) n c =
        let full = not_empty (suffix L lawful i) in
        let behind : BeforeCut L (many g A) C m = inr (record { value = w; rest = y; derived = i; behind = c }) in
        by_test (g.takes s.rest) (go_on (item (noted s)) (more count)) (stop s) (λ r. Meets r (y ++ z) (length z))
        (λ _. meets_meets (item (noted s)) (more count) (m ++ z) (y ++ z) (length z) (exact.meets (noted s) a x m z e (omega arith) d full behind) (ahead L lawful exact (noted s) (omega arith))
        (λ v t f k. meets_map (repeat g item count t) (λ q. an_item v q) (y ++ z) (length z) (many_meets count t y z (within_count count s t a x m z b e d f) f k i n c))
        (λ v t k. meets_within (more count v t) (y ++ z) (length z) (more_kept count v t (length z) k)))
        (λ f. inr (stopped s x z e h (decided.item_before a x m z (sym (ap g.takes e) ∙ f) d full behind)))
      where
        not_empty : (a : List ℕ) × (m ≡ a ++ y) → m ≢ []
        not_empty ([], k) = λ g. n (sym k ∙ g)
        not_empty (c ∷ a, k) = λ g. absurd (cc)

    many_reaches : (count : ℕ) (s : State) → Reaches L (many g A) s (repeat g item count s)
    many_reaches zero s = inl refl
    many_reaches (suc count) s =
        by_test (g.takes s.rest) (go_on (item (noted s)) (more count)) (stop s) (λ r. Reaches L (many g A) s r)
        (λ _. noted_reaches L s (g.seen s.rest) (go_on (item (noted s)) (more count)) (opens_as (λ x o. open_item o) (decided.sees s.rest))
        (reaches_go_on L lawful (noted s) (item (noted s)) (more count) (λ x o. open_item o) (λ x z code h. halt_item h) (exact.reaches (noted s)) (exact.sound (noted s))
        (λ v t d seen. step v t d seen (repeat g item count t) (many_reaches count t))))
        (λ _. noted_reaches L s (g.seen s.rest) (stop s) (opens_as (λ x o. open_item o) (decided.sees s.rest)) (inl refl))
      where
        behind : (v : Made L) (t : State) (far : ℕ) → Derives L A v s.rest t.rest → SeenUpTo L (many g A) (noted s) t.far → SeenUpTo L (many g A) t far → SeenUpTo L (many g A) (noted s) far
        behind v t far d seen (inl e) = subst (λ n. SeenUpTo L (many g A) (noted s) n) (sym e) seen
        behind v t far d seen (inr o) = inr (opens_later d o)

        step : (v : Made L) (t : State) → Derives L A v s.rest t.rest → SeenUpTo L (many g A) (noted s) t.far → (r : Reading (Made L)) → Reaches L (many g A) t r → Reaches L (many g A) (noted s) (go_on r (λ w u. Ok (an_item v w, u)))
        step v t d seen (Ok o) h = behind v t o.1.far d seen h
        step v t d seen (Err (Unfit far)) h = behind v t far d seen h
        step v t d seen (Err (Faulty code left)) h = record { rest = h.rest; place = h.place; halts = halt_later d h.halts }
        step v t d seen (Err TooDeep) h = tt

    pub exact_many : IsExact L (many g A) K C (λ s. repeat g item (suc (length s.rest)) s)
    exact_many = record {
      kept = λ s n h. many_kept (suc (length s.rest)) s n h;
      sound = λ s. many_sound (suc (length s.rest)) s;
      complete = λ s v y d k. many_complete (suc (length s.rest)) s v y (omega arith) d refl k;
      halts = λ s code z h. many_halts (suc (length s.rest)) s code z (omega arith) h refl;
      covers = λ s x z e h o. many_covers (suc (length s.rest)) s z (omega arith) e h o;
      meets = λ s v x y z e h d n c. many_meets (suc (length s.rest)) s y z (omega arith) e h d n c;
      reaches = λ s. many_reaches (suc (length s.rest)) s;
    }

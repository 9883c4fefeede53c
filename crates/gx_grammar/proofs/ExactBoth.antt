use Rattle.std.proofs.Common.{◌≡◌, ◌≢◌, ℕ, ◌≤◌, List, [], ◌∷◌, ◌++◌, inl, inr, length, refl, sym, ap, subst, ◌∙◌, append_assoc, Ok, Err, IfOk}
use Rattle.gx_grammar.specs.Value.{pair}
use Rattle.gx_grammar.specs.Grammar.{◌&◌, made}
use Rattle.gx_grammar.specs.Language.{Language, Part, Made}
use Rattle.gx_grammar.specs.Derivation.{Derives, of_both, of_made}
use Rattle.gx_grammar.specs.Opening.{Opens, open_end, open_first, open_second, open_made, OpensUpTo}
use Rattle.gx_grammar.specs.Halting.{Halts, halt_first, halt_second, halt_made}
use Rattle.gx_grammar.specs.Reading.{State, Unfit, Faulty, TooDeep, Reading, go_on}
use Rattle.gx_grammar.specs.Decision.{Texts, Until, BeforeCut}
use Rattle.gx_grammar.specs.Laws.{LawfulTokens, Within, Meets, Agrees, Stops, SeenUpTo, Reaches, IsExact}
use Rattle.gx_grammar.proofs.Derived.{suffix, whole, cut}
use Rattle.gx_grammar.proofs.Readings.{is_empty, within_go_on, sound_go_on, agrees_go_on, within_meets, meets_meets, meets_within, meets_map, stops_agrees, stops_go_on}
use Rattle.gx_grammar.proofs.Exact.{ahead, halts_as, seen_as}

module _ (L : Language) (lawful : LawfulTokens L) where
  -- What opens B behind a text that A derives opens both, cut off at the same place.
  pub opens_behind : {A B : Part L} {v : Made L} {x y : List ℕ} {left : ℕ} → Derives L A v x y → OpensUpTo L B y left → OpensUpTo L (A & B) x left
  opens_behind {x = x} {y = y} d o =
      let a = suffix L lawful d in
      let w : x ≡ (a.0 ++ o.front) ++ o.rest = a.1 ∙ ap (λ w. a.0 ++ w) o.whole ∙ sym (append_assoc a.0 o.front o.rest) in
      record { front = a.0 ++ o.front; rest = o.rest; whole = w; place = o.place; opens = open_second (cut L lawful d (a.0 ++ o.front) o.front o.rest w o.whole).1 o.opens }

  -- a step behind another: what the first has seen stays seen
  pub reaches_go_on : {A B : Part L} (s : State) (r : Reading (Made L)) (f : Made L → State → Reading (Made L))
      → ((x : List ℕ) → Opens L A x → Opens L B x) → ((x z : List ℕ) (code : ℕ) → Halts L A x code z → Halts L B x code z) → Reaches L A s r → IfOk r (λ o. Derives L A o.0 s.rest o.1.rest)
      → ((v : Made L) (t : State) → Derives L A v s.rest t.rest → SeenUpTo L B s t.far → Reaches L B s (f v t)) → Reaches L B s (go_on r f)
  reaches_go_on s (Ok o) f lift halting h d next = next o.0 o.1 d (seen_as s lift h)
  reaches_go_on s (Err (Unfit far)) f lift halting h d next = seen_as s lift h
  reaches_go_on s (Err (Faulty code left)) f lift halting h d next = halts_as (λ x z k. halting x z code k) h
  reaches_go_on s (Err TooDeep) f lift halting h d next = tt

  module _ (A B : Part L) (K C : Texts) (first second : State → Reading (Made L))
      (left : IsExact L A (Until L B K) (BeforeCut L B C) first) (right : IsExact L B K C second) where
    abbrev after : Made L → State → Reading (Made L)
    after v t = go_on (second t) (λ w u. Ok (pair v w, u))

    abbrev sequence : State → Reading (Made L)
    sequence s = go_on (first s) after

    after_kept : (v : Made L) (t : State) (n : ℕ) → t.far ≤ n → Within (after v t) n
    after_kept v t n h = within_go_on (second t) (λ w u. Ok (pair v w, u)) n (right.kept t n h) (λ w u g. g)

    after_covers : (v : Made L) (t : State) (y z : List ℕ) → Opens L B y → t.rest ≡ y ++ z → t.far ≤ length t.rest → Within (after v t) (length z)
    after_covers v t y z o e h = within_go_on (second t) (λ w u. Ok (pair v w, u)) (length z) (right.covers t y z e h o) (λ w u g. g)

    both_sound : (s : State) → IfOk (sequence s) (λ r. Derives L (A & B) r.0 s.rest r.1.rest)
    both_sound s = sound_go_on (first s) after (λ v t. Derives L A v s.rest t.rest) (λ r. Derives L (A & B) r.0 s.rest r.1.rest) (left.sound s)
        (λ v t d. sound_go_on (second t) (λ w u. Ok (pair v w, u)) (λ w u. Derives L B w t.rest u.rest) (λ r. Derives L (A & B) r.0 s.rest r.1.rest) (right.sound t) (λ w u e. of_both d e))

    both_complete : (s : State) (v : Made L) {x : List ℕ} (y : List ℕ) → Derives L (A & B) v x y → s.rest ≡ x → K y → Agrees (sequence s) v y
    both_complete s v y (of_both {v = a} {w = b} {y = m} d e) h k =
        agrees_go_on (first s) after a m (pair a b) y
        (left.complete s a m (subst (λ w. Derives L A a w m) (sym h) d) (inl (record { value = b; rest = y; derived = e; behind = k })))
        (λ t g. agrees_go_on (second t) (λ w u. Ok (pair a w, u)) b y (pair a b) y (right.complete t b y (subst (λ w. Derives L B b w y) (sym g) e) k) (λ u f. (refl, f)))

    both_halts : (s : State) (code : ℕ) {x : List ℕ} (z : List ℕ) → Halts L (A & B) x code z → s.rest ≡ x → Stops (sequence s) code (length z)
    both_halts s code z (halt_first h) e = stops_go_on (first s) after code (length z) (left.halts s code z (subst (λ w. Halts L A w code z) (sym e) h))
    both_halts s code z (halt_second {v = v} {y = y} d h) e =
        stops_agrees (first s) after v y code (length z)
        (left.complete s v y (subst (λ w. Derives L A v w y) (sym e) d) (inr (code, z, h)))
        (λ t g. stops_go_on (second t) (λ w u. Ok (pair v w, u)) code (length z) (right.halts t code z (subst (λ w. Halts L B w code z) (sym g) h)))

    both_first : (s : State) (x z : List ℕ) → s.rest ≡ x ++ z → s.far ≤ length s.rest → Opens L A x → Within (sequence s) (length z)
    both_first s x z e h o = within_go_on (first s) after (length z) (left.covers s x z e h o) (λ v t g. after_kept v t (length z) g)

    both_second : (s : State) (v : Made L) (x y z : List ℕ) → s.rest ≡ x ++ z → s.far ≤ length s.rest → Derives L A v x y → Opens L B y → Within (sequence s) (length z)
    both_second s v x y z e h d o = elim (is_empty y) [
      | inl n ↦ both_first s x z e h (whole L lawful d n)
      | inr n ↦ within_meets (first s) after (y ++ z) (length z) (left.meets s v x y z e h d n (inl o)) (ahead L lawful left s h)
          (λ w t g f. after_covers w t y z o g f) (λ w t g. after_kept w t (length z) g)
    ]

    both_covers : (s : State) {x : List ℕ} (z : List ℕ) → s.rest ≡ x ++ z → s.far ≤ length s.rest → Opens L (A & B) x → Within (sequence s) (length z)
    both_covers s z e h open_end = both_first s [] z e h open_end
    both_covers s {x = x} z e h (open_first o) = both_first s x z e h o
    both_covers s {x = x} z e h (open_second {v = v} {y = y} d o) = both_second s v x y z e h d o

    both_meets : (s : State) {v : Made L} {x : List ℕ} (y z : List ℕ) → s.rest ≡ x ++ z → s.far ≤ length s.rest → Derives L (A & B) v x y → y ≢ [] → C y → Meets (sequence s) (y ++ z) (length z)
    both_meets s y z e h (of_both {v = a} {w = b} {x = x} {y = m} d f) n c =
        meets_meets (first s) after (m ++ z) (y ++ z) (length z)
        (left.meets s a x m z e h d (not_empty (suffix L lawful f)) (inr (record { value = b; rest = y; derived = f; behind = c })))
        (ahead L lawful left s h)
        (λ v t g k. meets_map (second t) (λ w. pair v w) (y ++ z) (length z) (right.meets t b m y z g k f n c))
        (λ v t g. meets_within (after v t) (y ++ z) (length z) (after_kept v t (length z) g))
      where
        not_empty : (a : List ℕ) × (m ≡ a ++ y) → m ≢ []
        not_empty ([], k) = λ g. n (sym k ∙ g)
        not_empty (c ∷ a, k) = λ g. absurd (cc)

    both_reaches : (s : State) → Reaches L (A & B) s (sequence s)
    both_reaches s = reaches_go_on s (first s) after (λ x o. open_first o) (λ x z code h. halt_first h) (left.reaches s) (left.sound s)
        (λ v t d seen. step v t d seen (second t) (right.reaches t))
      where
        behind : (v : Made L) (t : State) (far : ℕ) → Derives L A v s.rest t.rest → SeenUpTo L (A & B) s t.far → SeenUpTo L B t far → SeenUpTo L (A & B) s far
        behind v t far d seen (inl e) = subst (λ n. SeenUpTo L (A & B) s n) (sym e) seen
        behind v t far d seen (inr o) = inr (opens_behind d o)

        step : (v : Made L) (t : State) → Derives L A v s.rest t.rest → SeenUpTo L (A & B) s t.far → (r : Reading (Made L)) → Reaches L B t r → Reaches L (A & B) s (go_on r (λ w u. Ok (pair v w, u)))
        step v t d seen (Ok o) h = behind v t o.1.far d seen h
        step v t d seen (Err (Unfit far)) h = behind v t far d seen h
        step v t d seen (Err (Faulty code left)) h = record { rest = h.rest; place = h.place; halts = halt_second d h.halts }
        step v t d seen (Err TooDeep) h = tt

    pub exact_both : IsExact L (A & B) K C sequence
    exact_both = record {
      kept = λ s n h. within_go_on (first s) after n (left.kept s n h) (λ v t g. after_kept v t n g);
      sound = both_sound;
      complete = λ s v y d k. both_complete s v y d refl k;
      halts = λ s code z h. both_halts s code z h refl;
      covers = λ s x z e h o. both_covers s z e h o;
      meets = λ s v x y z e h d n c. both_meets s y z e h d n c;
      reaches = both_reaches;
    }

  module _ (f : ℕ → Made L → Made L) (A : Part L) (K C : Texts) (read : State → Reading (Made L)) (exact : IsExact L A K C read) where
    abbrev making : State → Reading (Made L)
    making s = go_on (read s) (λ v t. Ok (f (length s.rest) v, t))

    made_opens : {x : List ℕ} → Opens L (made f A) x → Opens L A x
    made_opens open_end = open_end
    made_opens (open_made o) = o

    made_complete : (s : State) (v : Made L) {x : List ℕ} (y : List ℕ) → Derives L (made f A) v x y → s.rest ≡ x → K y → Agrees (making s) v y
    made_complete s v {x = x} y (of_made {v = a} d) h k =
        agrees_go_on (read s) (λ v t. Ok (f (length s.rest) v, t)) a y (f (length x) a) y
        (exact.complete s a y (subst (λ w. Derives L A a w y) (sym h) d) k) (λ t g. (ap (λ w. f (length w) a) h, g))

    made_halts : (s : State) (code : ℕ) {x : List ℕ} (z : List ℕ) → Halts L (made f A) x code z → s.rest ≡ x → Stops (making s) code (length z)
    made_halts s code z (halt_made h) e = stops_go_on (read s) (λ v t. Ok (f (length s.rest) v, t)) code (length z) (exact.halts s code z (subst (λ w. Halts L A w code z) (sym e) h))

    made_meets : (s : State) {v : Made L} {x : List ℕ} (y z : List ℕ) → s.rest ≡ x ++ z → s.far ≤ length s.rest → Derives L (made f A) v x y → y ≢ [] → C y → Meets (making s) (y ++ z) (length z)
    made_meets s y z e h (of_made {v = a} {x = x} d) n c = meets_map (read s) (f (length s.rest)) (y ++ z) (length z) (exact.meets s a x y z e h d n c)

    pub exact_made : IsExact L (made f A) K C making
    exact_made = record {
      kept = λ s n h. within_go_on (read s) (λ v t. Ok (f (length s.rest) v, t)) n (exact.kept s n h) (λ v t g. g);
      sound = λ s. sound_go_on (read s) (λ v t. Ok (f (length s.rest) v, t)) (λ v t. Derives L A v s.rest t.rest) (λ r. Derives L (made f A) r.0 s.rest r.1.rest) (exact.sound s) (λ v t d. of_made d);
      complete = λ s v y d k. made_complete s v y d refl k;
      halts = λ s code z h. made_halts s code z h refl;
      covers = λ s x z e h o. within_go_on (read s) (λ v t. Ok (f (length s.rest) v, t)) (length z) (exact.covers s x z e h (made_opens o)) (λ v t g. g);
      meets = λ s v x y z e h d n c. made_meets s y z e h d n c;
      reaches = λ s. reaches_go_on s (read s) (λ v t. Ok (f (length s.rest) v, t)) (λ x o. open_made o) (λ x z code h. halt_made h) (exact.reaches s) (exact.sound s) (λ v t d seen. seen);
    }

use Rattle.std.proofs.Common.{◌≡◌, ◌≢◌, ℕ, ◌≤◌, List, [], ◌++◌, inl, inr, length, refl, sym, ap, subst, ◌∙◌, append_assoc, Ok, Err, IfOk}
use Rattle.gx_grammar.specs.Value.{pair}
use Rattle.gx_grammar.specs.Grammar.{token, keyed}
use Rattle.gx_grammar.specs.Language.{Language, Part, Made}
use Rattle.gx_grammar.specs.Derivation.{Derives, of_token, of_keyed}
use Rattle.gx_grammar.specs.Opening.{Opens, open_end, open_token, open_key, open_behind, OpensUpTo}
use Rattle.gx_grammar.specs.Halting.{Halts, halt_token, halt_key, halt_behind}
use Rattle.gx_grammar.specs.Reading.{State, Unfit, Faulty, TooDeep, Reading, go_on, read_token}
use Rattle.gx_grammar.specs.Decision.{Texts}
use Rattle.gx_grammar.specs.Laws.{LawfulTokens, Within, Meets, Agrees, Stops, SeenUpTo, Reaches, IsExact}
use Rattle.gx_grammar.proofs.Readings.{within_go_on, sound_go_on, agrees_go_on, within_agrees, meets_agrees, meets_within, meets_map, stops_agrees, stops_go_on}
use Rattle.gx_grammar.proofs.Exact.{ahead, exact_token, token_derives}
use Rattle.gx_grammar.proofs.ExactBoth.{reaches_go_on}

abbrev Any : Texts
Any y = Unit {0}

module _ (L : Language) (lawful : LawfulTokens L) (t : L.Token) (f : Made L → Part L) (K C : Texts)
    (next : Made L → State → Reading (Made L)) (exact : (v : Made L) → IsExact L (f v) K C (next v)) where
  abbrev behind : Made L → State → Reading (Made L)
  behind v u = go_on (next v u) (λ w r. Ok (pair v w, r))

  abbrev keying : State → Reading (Made L)
  keying s = go_on (read_token L t s) behind

  abbrev key : IsExact L (token t) Any Any (λ s. read_token L t s)
  key = exact_token L lawful t Any Any

  behind_kept : (v : Made L) (u : State) (n : ℕ) → u.far ≤ n → Within (behind v u) n
  behind_kept v u n h = within_go_on (next v u) (λ w r. Ok (pair v w, r)) n ((exact v).kept u n h) (λ w r g. g)

  keyed_sound : (s : State) → IfOk (keying s) (λ r. Derives L (keyed t f) r.0 s.rest r.1.rest)
  keyed_sound s = sound_go_on (read_token L t s) behind (λ v u. Derives L (token t) v s.rest u.rest) (λ r. Derives L (keyed t f) r.0 s.rest r.1.rest) (key.sound s)
      (λ v u d. sound_go_on (next v u) (λ w r. Ok (pair v w, r)) (λ w r. Derives L (f v) w u.rest r.rest) (λ r. Derives L (keyed t f) r.0 s.rest r.1.rest) ((exact v).sound u)
      (λ w r e. of_keyed (token_derives L lawful t d) e))

  keyed_complete : (s : State) (v : Made L) {x : List ℕ} (y : List ℕ) → Derives L (keyed t f) v x y → s.rest ≡ x → K y → Agrees (keying s) v y
  keyed_complete s v y (of_keyed {v = a} {w = b} {y = m} d e) h k =
      agrees_go_on (read_token L t s) behind a m (pair a b) y
      (key.complete s a m (of_token (subst (λ w. L.derives t a w m) (sym h) d)) tt)
      (λ u g. agrees_go_on (next a u) (λ w r. Ok (pair a w, r)) b y (pair a b) y ((exact a).complete u b y (subst (λ w. Derives L (f a) b w y) (sym g) e) k) (λ r q. (refl, q)))

  keyed_halts : (s : State) (code : ℕ) {x : List ℕ} (z : List ℕ) → Halts L (keyed t f) x code z → s.rest ≡ x → Stops (keying s) code (length z)
  keyed_halts s code z (halt_key h) e = stops_go_on (read_token L t s) behind code (length z) (key.halts s code z (subst (λ w. Halts L (token t) w code z) (sym e) (halt_token h)))
  keyed_halts s code z (halt_behind {v = v} {y = y} d h) e =
      stops_agrees (read_token L t s) behind v y code (length z)
      (key.complete s v y (of_token (subst (λ w. L.derives t v w y) (sym e) d)) tt)
      (λ u g. stops_go_on (next v u) (λ w r. Ok (pair v w, r)) code (length z) ((exact v).halts u code z (subst (λ w. Halts L (f v) w code z) (sym g) h)))

  keyed_first : (s : State) (x z : List ℕ) → s.rest ≡ x ++ z → s.far ≤ length s.rest → Opens L (token t) x → Within (keying s) (length z)
  keyed_first s x z e h o = within_go_on (read_token L t s) behind (length z) (key.covers s x z e h o) (λ v u g. behind_kept v u (length z) g)

  -- a key that goes on is read
  key_agrees : (s : State) (v : Made L) (x y z : List ℕ) → s.rest ≡ x ++ z → L.derives t v (x ++ z) (y ++ z) → Agrees (read_token L t s) v (y ++ z)
  key_agrees s v x y z e d = key.complete s v (y ++ z) (of_token (subst (λ w. L.derives t v w (y ++ z)) (sym e) d)) tt

  keyed_covers : (s : State) {x : List ℕ} (z : List ℕ) → s.rest ≡ x ++ z → s.far ≤ length s.rest → Opens L (keyed t f) x → Within (keying s) (length z)
  keyed_covers s z e h open_end = keyed_first s [] z e h open_end
  keyed_covers s {x = x} z e h (open_key o) = keyed_first s x z e h (open_token o)
  keyed_covers s {x = x} z e h (open_behind {v = v} {y = y} d o) =
      elim (lawful.goes_on t v x y z d) [
        | inl q ↦ within_agrees (read_token L t s) behind v (y ++ z) (length z) (key_agrees s v x y z e q) (ahead L lawful key s h)
            (λ u g k. within_go_on (next v u) (λ w r. Ok (pair v w, r)) (length z) ((exact v).covers u y z g k o) (λ w r i. i))
        | inr q ↦ keyed_first s x z e h (open_token q)
      ]

  keyed_meets : (s : State) {v : Made L} {x : List ℕ} (y z : List ℕ) → s.rest ≡ x ++ z → s.far ≤ length s.rest → Derives L (keyed t f) v x y → y ≢ [] → C y → Meets (keying s) (y ++ z) (length z)
  keyed_meets s y z e h (of_keyed {v = a} {w = b} {x = x} {y = m} d i) n c =
      elim (lawful.goes_on t a x m z d) [
        | inl q ↦ meets_agrees (read_token L t s) behind a (m ++ z) (y ++ z) (length z) (key_agrees s a x m z e q) (ahead L lawful key s h)
            (λ u g k. meets_map (next a u) (λ w. pair a w) (y ++ z) (length z) ((exact a).meets u b m y z g k i n c))
        | inr q ↦ meets_within (keying s) (y ++ z) (length z) (keyed_first s x z e h (open_token q))
      ]

  key_opens : {x : List ℕ} → Opens L (token t) x → Opens L (keyed t f) x
  key_opens open_end = open_end
  key_opens (open_token o) = open_key o

  key_halting : {x z : List ℕ} {code : ℕ} → Halts L (token t) x code z → Halts L (keyed t f) x code z
  key_halting (halt_token h) = halt_key h

  opens_behind_key : {v : Made L} {x y : List ℕ} {left : ℕ} → L.derives t v x y → OpensUpTo L (f v) y left → OpensUpTo L (keyed t f) x left
  opens_behind_key {v = v} {x = x} {y = y} d o =
      let a = lawful.ends t v x y d in
      let w : x ≡ (a.0 ++ o.front) ++ o.rest = a.1 ∙ ap (λ w. a.0 ++ w) o.whole ∙ sym (append_assoc a.0 o.front o.rest) in
      record {
        front = a.0 ++ o.front;
        rest = o.rest;
        whole = w;
        place = o.place;
        opens = open_behind (lawful.cut t v (a.0 ++ o.front) o.front o.rest (subst (λ q. L.derives t v q (o.front ++ o.rest)) w (subst (λ q. L.derives t v x q) o.whole d))) o.opens;
      }

  keyed_reaches : (s : State) → Reaches L (keyed t f) s (keying s)
  keyed_reaches s = reaches_go_on L lawful s (read_token L t s) behind (λ x o. key_opens o) (λ x z code h. key_halting h) (key.reaches s) (key.sound s)
      (λ v u d seen. step v u (token_derives L lawful t d) seen (next v u) ((exact v).reaches u))
    where
      on : (v : Made L) (u : State) (far : ℕ) → L.derives t v s.rest u.rest → SeenUpTo L (keyed t f) s u.far → SeenUpTo L (f v) u far → SeenUpTo L (keyed t f) s far
      on v u far d seen (inl e) = subst (λ n. SeenUpTo L (keyed t f) s n) (sym e) seen
      on v u far d seen (inr o) = inr (opens_behind_key d o)

      step : (v : Made L) (u : State) → L.derives t v s.rest u.rest → SeenUpTo L (keyed t f) s u.far → (r : Reading (Made L)) → Reaches L (f v) u r → Reaches L (keyed t f) s (go_on r (λ w q. Ok (pair v w, q)))
      step v u d seen (Ok o) h = on v u o.1.far d seen h
      step v u d seen (Err (Unfit far)) h = on v u far d seen h
      step v u d seen (Err (Faulty code left)) h = record { rest = h.rest; place = h.place; halts = halt_behind d h.halts }
      step v u d seen (Err TooDeep) h = tt

  pub exact_keyed : IsExact L (keyed t f) K C keying
  exact_keyed = record {
    kept = λ s n h. within_go_on (read_token L t s) behind n (key.kept s n h) (λ v u g. behind_kept v u n g);
    sound = keyed_sound;
    complete = λ s v y d k. keyed_complete s v y d refl k;
    halts = λ s code z h. keyed_halts s code z h refl;
    covers = λ s x z e h o. keyed_covers s z e h o;
    meets = λ s v x y z e h d n c. keyed_meets s y z e h d n c;
    reaches = keyed_reaches;
  }

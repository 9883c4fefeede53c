use Rattle.std.proofs.Common.{◌≡◌, ℕ, ◌≤◌, List, [], ◌++◌, inl, inr, length, min, refl, sym, ap, subst, ◌∙◌, Ok, Err, IfOk, Option, Some, None, arith}
use Rattle.gx_grammar.specs.Value.{nothing}
use Rattle.gx_grammar.specs.Grammar.{token, empty, rule}
use Rattle.gx_grammar.specs.Language.{Language, Part, Made}
use Rattle.gx_grammar.specs.Derivation.{Derives, of_token, of_empty, of_rule}
use Rattle.gx_grammar.specs.Opening.{Opens, open_end, open_token, open_rule, OpensUpTo}
use Rattle.gx_grammar.specs.Halting.{Halts, HaltsAt, halt_token, halt_rule}
use Rattle.gx_grammar.specs.Reading.{State, Unfit, Faulty, TooDeep, Reading, taken, unless_fault, read_token}
use Rattle.gx_grammar.specs.Decision.{Texts}
use Rattle.gx_grammar.specs.Laws.{LawfulTokens, Within, Meets, Agrees, Stops, SeenUpTo, Reaches, IsExact}
use Rattle.gx_grammar.proofs.Derived.{suffix, whole, cut}
use Rattle.gx_grammar.proofs.Readings.{min_is, meets_within}

-- up to the same place the text opens another grammar
pub opens_as : {L : Language} {A B : Part L} {text : List ℕ} {left : ℕ} → ((x : List ℕ) → Opens L A x → Opens L B x) → OpensUpTo L A text left → OpensUpTo L B text left
opens_as f o = record { front = o.front; rest = o.rest; whole = o.whole; place = o.place; opens = f o.front o.opens }

pub seen_as : {L : Language} {A B : Part L} (s : State) {far : ℕ} → ((x : List ℕ) → Opens L A x → Opens L B x) → SeenUpTo L A s far → SeenUpTo L B s far
seen_as s f (inl e) = inl e
seen_as s f (inr o) = inr (opens_as f o)

-- a text that halts in a grammar halts in another
pub halts_as : {L : Language} {A B : Part L} {text : List ℕ} {code left : ℕ} → ((x z : List ℕ) → Halts L A x code z → Halts L B x code z) → HaltsAt L A text code left → HaltsAt L B text code left
halts_as {text = text} f h = record { rest = h.rest; place = h.place; halts = f text h.rest h.halts }

pub reaches_as : {L : Language} {A B : Part L} (s : State) (r : Reading (Made L)) → ((x : List ℕ) → Opens L A x → Opens L B x) → ((x z : List ℕ) (code : ℕ) → Halts L A x code z → Halts L B x code z) → Reaches L A s r → Reaches L B s r
reaches_as s (Ok o) f g h = seen_as s f h
reaches_as s (Err (Unfit far)) f g h = seen_as s f h
reaches_as s (Err (Faulty code left)) f g h = halts_as (λ x z k. g x z code k) h
reaches_as s (Err TooDeep) f g h = tt

module _ (L : Language) (lawful : LawfulTokens L) where
  -- what was read is behind the furthest character that fitted, or ends there
  pub ahead : {A : Part L} {K C : Texts} {read : State → Reading (Made L)} → IsExact L A K C read → (s : State) → s.far ≤ length s.rest → IfOk (read s) (λ o. o.1.far ≤ length o.1.rest)
  ahead {A = A} {read = read} exact s h = go (read s) (exact.sound s) (λ x z e o. exact.covers s x z e h o)
    where
      go : (r : Reading (Made L)) → IfOk r (λ o. Derives L A o.0 s.rest o.1.rest) → ((x z : List ℕ) → s.rest ≡ x ++ z → Opens L A x → Within r (length z)) → IfOk r (λ o. o.1.far ≤ length o.1.rest)
      go (Ok o) d covers =
          let a = suffix L lawful d in
          let front = cut L lawful d a.0 [] o.1.rest a.1 refl in
          covers a.0 o.1.rest a.1 (whole L lawful front.1 refl)
      go (Err e) d covers = tt

  module _ (t : L.Token) where
    pub token_derives : {v : Made L} {x y : List ℕ} → Derives L (token t) v x y → L.derives t v x y
    token_derives (of_token d) = d

    token_halts : {x z : List ℕ} {code : ℕ} → Halts L (token t) x code z → (L.faults t x ≡ Some code) × (x ≡ z)
    token_halts (halt_token e) = (e, refl)

    within_taken : {X : Type 0} (fault : Option ℕ) (q : Option (X × List ℕ)) (left far n : ℕ) → far ≤ n → Within (unless_fault fault left (taken q far)) n
    within_taken None (Some r) left far n h = h
    within_taken None None left far n h = h
    within_taken (Some code) q left far n h = tt

    token_opens : (s : State) (x z : List ℕ) → s.rest ≡ x ++ z → s.far ≤ length s.rest → Opens L (token t) x → min s.far (L.seen t s.rest) ≤ length z
    token_opens s x z e h open_end = let f : length s.rest ≡ length z = ap length e in omega arith
    token_opens s x z e h (open_token o) = let f : L.seen t s.rest ≤ length z = subst (λ w. L.seen t w ≤ length z) (sym e) (lawful.longest t x z o) in omega arith

    token_seen : (s : State) → SeenUpTo L (token t) s (min s.far (L.seen t s.rest))
    token_seen s = elim (min_is s.far (L.seen t s.rest)) [ inl e ↦ inl e | inr e ↦ inr (subst (λ n. OpensUpTo L (token t) s.rest n) (sym e) (lawful.sees t s.rest)) ]

    token_reaches : (s : State) (fault : Option ℕ) (q : Option (Made L × List ℕ)) → L.faults t s.rest ≡ fault → Reaches L (token t) s (unless_fault fault (length s.rest) (taken q (min s.far (L.seen t s.rest))))
    token_reaches s None (Some r) e = token_seen s
    token_reaches s None None e = token_seen s
    token_reaches s (Some code) q e = record { rest = s.rest; place = refl; halts = halt_token e }

    token_sound : (x : List ℕ) (left far : ℕ) (fault : Option ℕ) (q : Option (Made L × List ℕ)) → L.scan t x ≡ q → IfOk (unless_fault fault left (taken q far)) (λ r. Derives L (token t) r.0 x r.1.rest)
    token_sound x left far None (Some r) e = of_token (lawful.sound t r.0 x r.1 e)
    token_sound x left far None None e = tt
    token_sound x left far (Some code) q e = tt

    -- a token that stands is read
    token_reads : (s : State) (v : Made L) (y : List ℕ) → L.derives t v s.rest y → read_token L t s ≡ Ok (v, record { rest = y; far = min s.far (L.seen t s.rest) })
    token_reads s v y d =
        ap (λ fault. unless_fault fault (length s.rest) (taken (L.scan t s.rest) (min s.far (L.seen t s.rest)))) (lawful.firm t v s.rest y d)
        ∙ ap (λ q. taken q (min s.far (L.seen t s.rest))) (lawful.complete t v s.rest y d)

    token_meets : (s : State) (v : Made L) (x y z : List ℕ) → s.rest ≡ x ++ z → s.far ≤ length s.rest → L.derives t v x y → Meets (read_token L t s) (y ++ z) (length z)
    token_meets s v x y z e h d = elim (lawful.goes_on t v x y z d) [
      | inl f ↦ subst (λ r. Meets r (y ++ z) (length z)) (sym (token_reads s v (y ++ z) (subst (λ w. L.derives t v w (y ++ z)) (sym e) f))) (inl refl)
      | inr o ↦ meets_within (read_token L t s) (y ++ z) (length z) (within_taken (L.faults t s.rest) (L.scan t s.rest) _ _ _ (token_opens s x z e h (open_token o)))
    ]

    token_stops : (s : State) (code : ℕ) (z : List ℕ) → (L.faults t s.rest ≡ Some code) × (s.rest ≡ z) → Stops (read_token L t s) code (length z)
    token_stops s code z h =
        subst (λ fault. Stops (unless_fault fault (length s.rest) (taken (L.scan t s.rest) (min s.far (L.seen t s.rest)))) code (length z)) (sym h.0) (refl, ap length h.1)

    pub exact_token : (K C : Texts) → IsExact L (token t) K C (λ s. read_token L t s)
    exact_token K C = record {
      kept = λ s n h. within_taken (L.faults t s.rest) (L.scan t s.rest) _ _ n (omega arith);
      sound = λ s. token_sound s.rest _ _ (L.faults t s.rest) (L.scan t s.rest) refl;
      complete = λ s v y d k. subst (λ r. Agrees r v y) (sym (token_reads s v y (token_derives d))) (refl, refl);
      halts = λ s code z h. token_stops s code z (token_halts h);
      covers = λ s x z e h o. within_taken (L.faults t s.rest) (L.scan t s.rest) _ _ _ (token_opens s x z e h o);
      meets = λ s v x y z e h d _ c. token_meets s v x y z e h (token_derives d);
      reaches = λ s. token_reaches s (L.faults t s.rest) (L.scan t s.rest) refl;
    }

  empty_rest : {v : Made L} {x y : List ℕ} → Derives L empty v x y → (nothing ≡ v) × (x ≡ y)
  empty_rest of_empty = (refl, refl)

  pub empty_opens : {x : List ℕ} → Opens L empty x → x ≡ []
  empty_opens open_end = refl

  empty_halts : {x z : List ℕ} {code : ℕ} → Halts L empty x code z → ⊥
  empty_halts h = elim h [ ]

  pub exact_empty : (K C : Texts) → IsExact L empty K C (λ s. Ok (nothing, s))
  exact_empty K C = record {
    kept = λ s n h. h;
    sound = λ s. of_empty;
    complete = λ s v y d k. empty_rest d;
    halts = λ s code z h. absurd (empty_halts h);
    covers = λ s x z e h o. (let f : length s.rest ≡ length z = ap length e ∙ ap (λ w. length (w ++ z)) (empty_opens o) in omega arith);
    meets = λ s v x y z e h d _ c. inl (e ∙ ap (λ w. w ++ z) (empty_rest d).1);
    reaches = λ s. inl refl;
  }

  rule_derives : {p : L.Production} {v : Made L} {x y : List ℕ} → Derives L (rule p) v x y → Derives L (L.rules p) v x y
  rule_derives (of_rule d) = d

  rule_opens : {p : L.Production} {x : List ℕ} → Opens L (rule p) x → Opens L (L.rules p) x
  rule_opens open_end = open_end
  rule_opens (open_rule o) = o

  rule_halts : {p : L.Production} {x z : List ℕ} {code : ℕ} → Halts L (rule p) x code z → Halts L (L.rules p) x code z
  rule_halts (halt_rule h) = h

  pub exact_rule : (p : L.Production) {P Q K C : Texts} {read : State → Reading (Made L)} → ((y : List ℕ) → K y → P y) → ((y : List ℕ) → C y → Q y) → IsExact L (L.rules p) P Q read → IsExact L (rule p) K C read
  exact_rule p {read = read} k c exact = record {
    kept = exact.kept;
    sound = λ s. sound_as s (read s) (exact.sound s);
    complete = λ s v y d h. exact.complete s v y (rule_derives d) (k y h);
    halts = λ s code z h. exact.halts s code z (rule_halts h);
    covers = λ s x z e h o. exact.covers s x z e h (rule_opens o);
    meets = λ s v x y z e h d n q. exact.meets s v x y z e h (rule_derives d) n (c y q);
    reaches = λ s. reaches_as s (read s) (λ x o. open_rule o) (λ x z code h. halt_rule h) (exact.reaches s);
  }
    where
      sound_as : (s : State) (r : Reading (Made L)) → IfOk r (λ o. Derives L (L.rules p) o.0 s.rest o.1.rest) → IfOk r (λ o. Derives L (rule p) o.0 s.rest o.1.rest)
      sound_as s (Ok o) d = of_rule d
      sound_as s (Err e) d = tt

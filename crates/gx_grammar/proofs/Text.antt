use Rattle.std.proofs.Common.{◌≡◌, ℕ, ◌≤◌, List, [], ◌∷◌, ◌++◌, length, length-append, refl, sym, subst, ◌∙◌, Ok, Err, Result, IfOk, ap, inl, inr, arith}
use Rattle.gx_grammar.specs.Language.{Language, Part, Made}
use Rattle.gx_grammar.specs.Derivation.{Derives}
use Rattle.gx_grammar.specs.Opening.{Opens, open_end, OpensUpTo}
use Rattle.gx_grammar.specs.Halting.{Halts}
use Rattle.gx_grammar.specs.Reading.{Refusal, Unfit, Faulty, TooDeep, Reading, start, read_with, reads}
use Rattle.gx_grammar.specs.Decision.{Decides}
use Rattle.gx_grammar.specs.Laws.{LawfulTokens, Within, Agrees, Stops, SeenUpTo, Reaches}
use Rattle.gx_grammar.specs.Levels.{IsNotTooDeep}
use Rattle.gx_grammar.specs.Text.{AtEnd, Nowhere, AllDecide, with_rest, whole_only, read_text, IsVerdict}
use Rattle.gx_grammar.proofs.Halted.{opens_front}
use Rattle.gx_grammar.proofs.Read.{exact_with, exact_reads}
use Rattle.gx_grammar.proofs.Unique.{unique}

same_lengths : (a b y z : List ℕ) → a ++ y ≡ b ++ z → length y ≡ length z → y ≡ z
same_lengths [] [] y z e n = e
same_lengths [] (c ∷ b) y z e n = absurd (omega (arith, ap length e, length-append (c ∷ b) z))
same_lengths (c ∷ a) [] y z e n = absurd (omega (arith, ap length e, length-append (c ∷ a) y))
same_lengths (c ∷ a) (d ∷ b) y z e n = same_lengths a b y z (cc e) n

module _ (L : Language) (lawful : LawfulTokens L) (decided : AllDecide L) (A : Part L) (top : Decides L A AtEnd Nowhere) where
  -- up to the furthest character the text opens the grammar
  seen_up_to : (text : List ℕ) (far : ℕ) → SeenUpTo L A (start text) far → OpensUpTo L A text far
  seen_up_to text far (inl e) = record { front = []; rest = text; whole = refl; place = sym e; opens = open_end }
  seen_up_to text far (inr o) = o

  no_value : (text : List ℕ) (far : ℕ) → ((w : Made L) → Derives L A w text [] → ⊥) → ((code : ℕ) (z : List ℕ) → Halts L A text code z → ⊥)
      → SeenUpTo L A (start text) far → ((x z : List ℕ) → text ≡ x ++ z → Opens L A x → far ≤ length z) → IsVerdict L A text (Err (Unfit far))
  no_value text far none sound seen longest = record { none = none; sound = sound; longest = record { opens = seen_up_to text far seen; longest = longest } }

  one_fault : (text : List ℕ) (code left : ℕ) (rest : List ℕ) → length rest ≡ left → Halts L A text code rest
      → ((other : ℕ) (z : List ℕ) → Halts L A text other z → (code ≡ other) × (left ≡ length z))
      → (other : ℕ) (z : List ℕ) → Halts L A text other z → (other ≡ code) × (z ≡ rest)
  one_fault text code left rest place halts stops other z h =
      let s = stops other z h in
      let a = opens_front L lawful halts in
      let b = opens_front L lawful h in
      (sym s.0, same_lengths b.0 a.0 z rest (sym b.1 ∙ a.1) (sym s.1 ∙ sym place))

  fault : (text : List ℕ) (code left : ℕ) → ((w : Made L) → Derives L A w text [] → ⊥) → (rest : List ℕ) → length rest ≡ left → Halts L A text code rest
      → ((other : ℕ) (z : List ℕ) → Halts L A text other z → (code ≡ other) × (left ≡ length z)) → IsVerdict L A text (Err (Faulty code left))
  fault text code left none rest place halts stops =
      let a = opens_front L lawful halts in
      record {
        none = none;
        rest = rest;
        place = place;
        halts = halts;
        only = one_fault text code left rest place halts stops;
        opens = record { front = a.0; rest = rest; whole = a.1; place = place; opens = a.2 };
      }

  verdict : (text : List ℕ) (r : Reading (Made L)) → IsNotTooDeep r → IfOk r (λ o. Derives L A o.0 text o.1.rest) → ((v : Made L) → Derives L A v text [] → Agrees r v [])
      → ((code : ℕ) (z : List ℕ) → Halts L A text code z → Stops r code (length z))
      → ((x z : List ℕ) → text ≡ x ++ z → Opens L A x → Within r (length z)) → Reaches L A (start text) r → IsVerdict L A text (whole_only r)
  verdict text (Ok o) enough sound complete stops covers reaches = ended o.1.rest refl
    where
      ended : (rest : List ℕ) → o.1.rest ≡ rest → IsVerdict L A text (with_rest o.0 o.1.far rest)
      ended [] e =
          let d : Derives L A o.0 text [] = subst (λ q. Derives L A o.0 text q) e sound in
          record { derived = d; only = λ w f. (unique L lawful decided f d AtEnd Nowhere top refl refl).0; sound = stops }
      ended (c ∷ x) e = no_value text o.1.far (λ w f. let g = (complete w f).1 in absurd (cc (e, g))) stops reaches covers
  verdict text (Err (Unfit far)) enough sound complete stops covers reaches = no_value text far complete stops reaches covers
  verdict text (Err (Faulty code left)) enough sound complete stops covers reaches = fault text code left complete reaches.rest reaches.place reaches.halts stops
  verdict text (Err TooDeep) enough sound complete stops covers reaches = absurd enough

  -- The answer that a text reads as is right, where the levels suffice.
  pub exact_text : (levels : ℕ) (text : List ℕ) → IsNotTooDeep (read_with L (reads L levels) A (start text)) → IsVerdict L A text (read_text L levels A text)
  exact_text levels text enough =
      let exact = exact_with L lawful (reads L levels) (exact_reads L lawful decided levels) A AtEnd Nowhere top in
      verdict text (read_with L (reads L levels) A (start text)) enough (exact.sound (start text)) (λ v d. exact.complete (start text) v [] d refl)
      (λ code z h. exact.halts (start text) code z h) (λ x z e o. exact.covers (start text) x z e (omega arith) o) (exact.reaches (start text))

-- Two answers are one.
pub same_verdict : (L : Language) (A : Part L) (text : List ℕ) (r q : Result (Made L) Refusal) → IsVerdict L A text r → IsVerdict L A text q → r ≡ q
same_verdict L A text (Ok v) (Ok w) a b = ap (λ u. Ok u) (b.only v a.derived)
same_verdict L A text (Ok v) (Err (Unfit far)) a b = absurd (b.none v a.derived)
same_verdict L A text (Ok v) (Err (Faulty code left)) a b = absurd (b.none v a.derived)
same_verdict L A text (Ok v) (Err TooDeep) a b = absurd b
same_verdict L A text (Err (Unfit far)) (Ok w) a b = absurd (a.none w b.derived)
same_verdict L A text (Err (Unfit far)) (Err (Unfit further)) a b =
    let f = a.longest in
    let g = b.longest in
    let h = f.longest g.opens.front g.opens.rest g.opens.whole g.opens.opens in
    let k = g.longest f.opens.front f.opens.rest f.opens.whole f.opens.opens in
    let e : far ≡ further = omega (arith, h, k, f.opens.place, g.opens.place) in
    ap (λ n. Err (Unfit n)) e
same_verdict L A text (Err (Unfit far)) (Err (Faulty code left)) a b = absurd (a.sound code b.rest b.halts)
same_verdict L A text (Err (Unfit far)) (Err TooDeep) a b = absurd b
same_verdict L A text (Err (Faulty code left)) (Ok w) a b = absurd (a.none w b.derived)
same_verdict L A text (Err (Faulty code left)) (Err (Unfit far)) a b = absurd (b.sound code a.rest a.halts)
same_verdict L A text (Err (Faulty code left)) (Err (Faulty other further)) a b =
    let s = b.only code a.rest a.halts in
    let e : left ≡ further = sym a.place ∙ ap length s.1 ∙ b.place in
    ap (λ c. Err (Faulty c left)) s.0 ∙ ap (λ n. Err (Faulty other n)) e
same_verdict L A text (Err (Faulty code left)) (Err TooDeep) a b = absurd b
same_verdict L A text (Err TooDeep) q a b = absurd a

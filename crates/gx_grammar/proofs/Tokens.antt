use Rattle.std.proofs.Common.{◌≡◌, ◌≢◌, ℕ, ◌≤◌, ◌==◌, Bool, true, false, if◌then◌else◌, ◌&&◌, List, [], ◌∷◌, ◌++◌, ◌⊎◌, inl, inr, length, length-append, refl, sym, ap, ap₂, subst, ◌∙◌, append_assoc, append-nil, Option, Some, None, eq-eqb, eqb-true, arith}
use Rattle.std.proofs.lemmas.List.{append_cancel_right}
use Rattle.gx_grammar.specs.First.{head_passes, HasHead, AreApart}
use Rattle.gx_grammar.specs.Grammar.{token}
use Rattle.gx_grammar.specs.Language.{Language}
use Rattle.gx_grammar.specs.Laws.{LawfulTokens}
use Rattle.gx_grammar.specs.Opening.{Opens, open_end, open_token}
use Rattle.gx_grammar.proofs.ByCharacter.{head_front}
use Rattle.gx_grammar.specs.Tokens.{SeesUpTo, LawfulToken, no_fault, IsFrontOf, strip, behind_common, unless_passes, IsWord, scan_word, seen_word, all_pass, run_of, behind_run, IsRun, scan_run, opens_run, seen_run, IsNamed, scan_name, opens_name, seen_name}
use Rattle.gx_grammar.proofs.Readings.{by_test, is_empty}
use Rattle.gx_grammar.proofs.Unique.{same_some}

same_number : (c d : ℕ) → (c == d) ≡ true → c ≡ d
same_number c d e = eqb-true c d e

pub equal_self : (c : ℕ) → (c == c) ≡ true
equal_self c = eq-eqb c c refl

pub head_cut : (test : ℕ → Bool) (y z : List ℕ) → head_passes test (y ++ z) ≡ false → head_passes test y ≡ false
head_cut test [] z e = refl
head_cut test (c ∷ y) z e = e

-- a text behind a front
pub same_end : (x y z w : List ℕ) → x ++ z ≡ w ++ (y ++ z) → x ≡ w ++ y
same_end x y z w e = append_cancel_right x (w ++ y) z (e ∙ sym (append_assoc w y z))

pub longer_front : (x z w y : List ℕ) → x ++ z ≡ w ++ y → length y ≤ length z → IsFrontOf x w
longer_front [] z w y e h = (w, refl)
longer_front (c ∷ x) z [] y e h = absurd (omega (arith, ap length e, length-append (c ∷ x) z))
longer_front (c ∷ x) z (d ∷ w) y e h =
    let r = longer_front x z w y (cc) h in
    let f : d ≡ c = cc in
    (r.0, ap₂ (λ a b. a ∷ b) f r.1)

strip_is : (w x y : List ℕ) → strip w x ≡ Some y → x ≡ w ++ y
strip_is [] x y e = cc
strip_is (c ∷ w) [] y e = absurd (cc)
strip_is (c ∷ w) (d ∷ x) y e = go (c == d) refl e (λ h. strip_is w x y h)
  where
    go : (b : Bool) → (c == d) ≡ b → (if b then (strip w x) else None) ≡ Some y → (strip w x ≡ Some y → x ≡ w ++ y) → (d ∷ x) ≡ c ∷ (w ++ y)
    go true f g next = ap₂ (λ a b. a ∷ b) (sym (same_number c d f)) (next g)
    go false f g next = absurd (cc)

strip_of : (w y : List ℕ) → strip w (w ++ y) ≡ Some y
strip_of [] y = refl
strip_of (c ∷ w) y = ap (λ b. if b then (strip w (w ++ y)) else None) (equal_self c) ∙ strip_of w y

behind_is : (w x : List ℕ) → (p : List ℕ) × (x ≡ p ++ behind_common w x) × IsFrontOf p w
behind_is [] x = ([], refl, ([], refl))
behind_is (c ∷ w) [] = ([], refl, (c ∷ w, refl))
behind_is (c ∷ w) (d ∷ x) =
    let r = behind_is w x in
    by_test (c == d) (behind_common w x) (d ∷ x) (λ b. (p : List ℕ) × ((d ∷ x) ≡ p ++ b) × IsFrontOf p (c ∷ w))
    (λ f. (c ∷ r.0, ap₂ (λ a b. a ∷ b) (sym (same_number c d f)) r.1, (r.2.0, ap (λ q. c ∷ q) r.2.1)))
    (λ f. ([], refl, (c ∷ w, refl)))

pub behind_short : (w x : List ℕ) → length (behind_common w x) ≤ length x
behind_short [] x = omega arith
behind_short (c ∷ w) [] = omega arith
behind_short (c ∷ w) (d ∷ x) = let r = behind_short w x in by_test (c == d) (behind_common w x) (d ∷ x) (λ b. length b ≤ length (d ∷ x)) (λ f. omega (arith, r)) (λ f. omega arith)

longest_word : (p w z : List ℕ) → IsFrontOf p w → length (behind_common w (p ++ z)) ≤ length z
longest_word [] w z f = behind_short w z
longest_word (c ∷ p) [] z f = absurd (let e = f.1 in cc e)
longest_word (c ∷ p) (d ∷ w) z f =
    let e = f.1 in
    let g : d ≡ c = cc e in
    let h : w ≡ p ++ f.0 = cc e in
    subst (λ b. length (if b then (behind_common w (p ++ z)) else (c ∷ (p ++ z))) ≤ length z) (sym (ap (λ a. a == c) g ∙ equal_self c)) (longest_word p w z (f.0, h))

abbrev unless : {V : Type 0} → Bool → V → List ℕ → Option (V × List ℕ)
unless b v y = if b then None else (Some (v, y))

unless_is : {V : Type 0} (v w : V) (test : ℕ → Bool) (r y : List ℕ) → unless_passes v test (Some r) ≡ Some (w, y) → (v ≡ w) × (r ≡ y) × (head_passes test r ≡ false)
unless_is v w test r y e = go (head_passes test r) refl e
  where
    go : (b : Bool) → head_passes test r ≡ b → unless b v r ≡ Some (w, y) → (v ≡ w) × (r ≡ y) × (head_passes test r ≡ false)
    go true f g = absurd (cc)
    go false f g = let s = same_some (v, r) (w, y) g in (s.0, s.1, f)

unless_of : {V : Type 0} (v : V) (test : ℕ → Bool) (y : List ℕ) → head_passes test y ≡ false → unless_passes v test (Some y) ≡ Some (v, y)
unless_of v test y e = ap (λ b. unless b v y) e

module _ {V : Type 0} (value : V) (word : List ℕ) (test : ℕ → Bool) where
  word_sound : (v : V) (x y : List ℕ) → scan_word value word test x ≡ Some (v, y) → IsWord value word test v x y
  word_sound v x y e = go (strip word x) refl e
    where
      go : (q : Option (List ℕ)) → strip word x ≡ q → unless_passes value test q ≡ Some (v, y) → IsWord value word test v x y
      go None f g = absurd (cc)
      go (Some r) f g = let u = unless_is value v test r y g in
          record { same = sym u.0; spelled = strip_is word x r f ∙ ap (λ q. word ++ q) u.1; ended = sym (ap (head_passes test) u.1) ∙ u.2 }

  word_goes_on : (v : V) (x y z : List ℕ) → IsWord value word test v x y → IsWord value word test v (x ++ z) (y ++ z) ⊎ IsFrontOf x word
  word_goes_on v x [] z d = inr ([], sym (append-nil word) ∙ sym d.spelled ∙ sym (append-nil x))
  word_goes_on v x (c ∷ y) z d = inl (record { same = d.same; spelled = ap (λ q. q ++ z) d.spelled ∙ append_assoc word (c ∷ y) z; ended = d.ended })

  word_sees : (x : List ℕ) → SeesUpTo (λ p. IsFrontOf p word) x (seen_word word x)
  word_sees x = let r = behind_is word x in record { front = r.0; rest = behind_common word x; whole = r.1; place = refl; opened = inr r.2 }

  pub lawful_word : LawfulToken (IsWord value word test) (λ p. IsFrontOf p word) (scan_word value word test) (seen_word word) no_fault
  lawful_word = record {
    sound = word_sound;
    complete = λ v x y d. ap (λ q. unless_passes value test (strip word q)) d.spelled ∙ ap (unless_passes value test) (strip_of word y) ∙ unless_of value test y d.ended ∙ ap (λ u. Some (u, y)) (sym d.same);
    ends = λ v x y d. (word, d.spelled);
    cut = λ v x y z d. record { same = d.same; spelled = same_end x y z word d.spelled; ended = head_cut test y z d.ended };
    goes_on = word_goes_on;
    fronts = λ v x y z d h. longer_front x z word y d.spelled h;
    sees = word_sees;
    longest = λ x z o. longest_word x word z o;
    firm = λ v x y d. refl;
    faultless = refl;
  }

-- runs

pub and_parts : (a b : Bool) → (a && b) ≡ true → (a ≡ true) × (b ≡ true)
and_parts true b e = (refl, e)
and_parts false b e = absurd (cc)

pass_front : (test : ℕ → Bool) (x y : List ℕ) → all_pass test (x ++ y) ≡ true → all_pass test x ≡ true
pass_front test [] y e = refl
pass_front test (c ∷ x) y e = let p = and_parts (test c) (all_pass test (x ++ y)) e in ap₂ (λ a b. a && b) p.0 (pass_front test x y p.1)

pub run_whole : (test : ℕ → Bool) (x : List ℕ) → x ≡ run_of test x ++ behind_run test x
run_whole test [] = refl
run_whole test (c ∷ x) =
    let r = run_whole test x in
    elim (test c) as (λ b. (c ∷ x) ≡ (if b then (c ∷ run_of test x) else []) ++ (if b then (behind_run test x) else (c ∷ x))) [ true ↦ ap (λ q. c ∷ q) r | false ↦ refl ]

pub run_passes : (test : ℕ → Bool) (x : List ℕ) → all_pass test (run_of test x) ≡ true
run_passes test [] = refl
run_passes test (c ∷ x) = let r = run_passes test x in by_test (test c) (c ∷ run_of test x) [] (λ q. all_pass test q ≡ true) (λ f. ap₂ (λ a b. a && b) f r) (λ f. refl)

run_ends : (test : ℕ → Bool) (x : List ℕ) → head_passes test (behind_run test x) ≡ false
run_ends test [] = refl
run_ends test (c ∷ x) = let r = run_ends test x in by_test (test c) (behind_run test x) (c ∷ x) (λ q. head_passes test q ≡ false) (λ f. r) (λ f. f)

run_is : (test : ℕ → Bool) (r y : List ℕ) → all_pass test r ≡ true → head_passes test y ≡ false → (run_of test (r ++ y) ≡ r) × (behind_run test (r ++ y) ≡ y)
run_is test [] [] e f = (refl, refl)
run_is test [] (c ∷ y) e f = (ap (λ b. if b then (c ∷ run_of test y) else []) f, ap (λ b. if b then (behind_run test y) else (c ∷ y)) f)
run_is test (c ∷ r) y e f =
    let p = and_parts (test c) (all_pass test r) e in
    let q = run_is test r y p.1 f in
    (ap (λ b. if b then (c ∷ run_of test (r ++ y)) else []) p.0 ∙ ap (λ w. c ∷ w) q.0, ap (λ b. if b then (behind_run test (r ++ y)) else (c ∷ (r ++ y))) p.0 ∙ q.1)

pub run_short : (test : ℕ → Bool) (x : List ℕ) → length (behind_run test x) ≤ length x
run_short test [] = omega arith
run_short test (c ∷ x) = let r = run_short test x in by_test (test c) (behind_run test x) (c ∷ x) (λ q. length q ≤ length (c ∷ x)) (λ f. omega (arith, r)) (λ f. omega arith)

longest_run : (test : ℕ → Bool) (p z : List ℕ) → all_pass test p ≡ true → length (behind_run test (p ++ z)) ≤ length z
longest_run test [] z e = run_short test z
longest_run test (c ∷ p) z e =
    let q = and_parts (test c) (all_pass test p) e in
    subst (λ b. length (if b then (behind_run test (p ++ z)) else (c ∷ (p ++ z))) ≤ length z) (sym q.0) (longest_run test p z q.1)

module _ {V : Type 0} (value : List ℕ → V) (test stop : ℕ → Bool) where
  run_goes_on : (v : V) (x y z : List ℕ) → IsRun value test stop v x y → IsRun value test stop v (x ++ z) (y ++ z) ⊎ opens_run test x
  run_goes_on v x [] z d = inr (ap (all_pass test) (d.spelled ∙ append-nil d.run) ∙ d.passes)
  run_goes_on v x (c ∷ y) z d = inl (record { run = d.run; same = d.same; spelled = ap (λ q. q ++ z) d.spelled ∙ append_assoc d.run (c ∷ y) z; passes = d.passes; longest = d.longest; ended = d.ended })

  run_sound : (v : V) (x y : List ℕ) → scan_run value test stop x ≡ Some (v, y) → IsRun value test stop v x y
  run_sound v x y e =
      let u = unless_is (value (run_of test x)) v stop (behind_run test x) y e in
      record {
        run = run_of test x;
        same = sym u.0;
        spelled = run_whole test x ∙ ap (λ q. run_of test x ++ q) u.1;
        passes = run_passes test x;
        longest = sym (ap (head_passes test) u.1) ∙ run_ends test x;
        ended = sym (ap (head_passes stop) u.1) ∙ u.2;
      }

  run_complete : (v : V) (x y : List ℕ) → IsRun value test stop v x y → scan_run value test stop x ≡ Some (v, y)
  run_complete v x y d =
      let q = run_is test d.run y d.passes d.longest in
      ap (scan_run value test stop) d.spelled ∙ ap₂ (λ r b. unless_passes (value r) stop (Some b)) q.0 q.1 ∙ unless_of (value d.run) stop y d.ended ∙ ap (λ u. Some (u, y)) (sym d.same)

  run_fronts : (v : V) (x y z : List ℕ) → IsRun value test stop v (x ++ z) y → length y ≤ length z → opens_run test x
  run_fronts v x y z d h = let f = longer_front x z d.run y d.spelled h in pass_front test x f.0 (sym (ap (all_pass test) f.1) ∙ d.passes)

  pub lawful_run : LawfulToken (IsRun value test stop) (opens_run test) (scan_run value test stop) (seen_run test) no_fault
  lawful_run = record {
    sound = run_sound;
    complete = run_complete;
    ends = λ v x y d. (d.run, d.spelled);
    cut = λ v x y z d. record { run = d.run; same = d.same; spelled = same_end x y z d.run d.spelled; passes = d.passes; longest = head_cut test y z d.longest; ended = head_cut stop y z d.ended };
    goes_on = run_goes_on;
    fronts = run_fronts;
    sees = λ x. record { front = run_of test x; rest = behind_run test x; whole = run_whole test x; place = refl; opened = inr (run_passes test x) };
    longest = λ x z o. longest_run test x z o;
    firm = λ v x y d. refl;
    faultless = refl;
  }

module _ {V : Type 0} (value : List ℕ → V) (first test stop : ℕ → Bool) where
  named_spelled : {v : V} {x y : List ℕ} → (d : IsNamed value first test stop v x y) → x ≡ (d.head ∷ d.others.run) ++ y
  named_spelled d = d.whole ∙ ap (λ q. d.head ∷ q) d.others.spelled

  named_sound : (v : V) (x y : List ℕ) → scan_name value first test stop x ≡ Some (v, y) → IsNamed value first test stop v x y
  named_sound v [] y e = absurd (cc)
  named_sound v (c ∷ x) y e = go (first c) refl e
    where
      go : (b : Bool) → first c ≡ b → (if b then (scan_run (λ r. value (c ∷ r)) test stop x) else None) ≡ Some (v, y) → IsNamed value first test stop v (c ∷ x) y
      go true f g = record { head = c; tail = x; whole = refl; begins = f; others = run_sound (λ r. value (c ∷ r)) test stop v x y g }
      go false f g = absurd (cc)

  named_complete : (v : V) (x y : List ℕ) → IsNamed value first test stop v x y → scan_name value first test stop x ≡ Some (v, y)
  named_complete v x y d =
      ap (scan_name value first test stop) d.whole
      ∙ ap (λ b. if b then (scan_run (λ r. value (d.head ∷ r)) test stop d.tail) else None) d.begins
      ∙ run_complete (λ r. value (d.head ∷ r)) test stop v d.tail y d.others

  named_goes_on : (v : V) (x y z : List ℕ) → IsNamed value first test stop v x y → IsNamed value first test stop v (x ++ z) (y ++ z) ⊎ opens_name first test x
  named_goes_on v x y z d = elim (run_goes_on (λ r. value (d.head ∷ r)) test stop v d.tail y z d.others) [
    | inl r ↦ inl (record { head = d.head; tail = d.tail ++ z; whole = ap (λ q. q ++ z) d.whole; begins = d.begins; others = r })
    | inr o ↦ inr (subst (λ q. opens_name first test q) (sym d.whole) (d.begins, o))
  ]

  named_fronts : (v : V) (x y z : List ℕ) → IsNamed value first test stop v (x ++ z) y → length y ≤ length z → opens_name first test x
  named_fronts v [] y z d h = tt
  named_fronts v (c ∷ x) y z d h =
      let f = longer_front (c ∷ x) z (d.head ∷ d.others.run) y (named_spelled d) h in
      let e = f.1 in
      let g : d.head ≡ c = cc e in
      let k : d.others.run ≡ x ++ f.0 = cc e in
      (sym (ap first g) ∙ d.begins, pass_front test x f.0 (sym (ap (all_pass test) k) ∙ d.others.passes))

  named_sees : (x : List ℕ) → SeesUpTo (opens_name first test) x (seen_name first test x)
  named_sees [] = record { front = []; rest = []; whole = refl; place = refl; opened = inl refl }
  named_sees (c ∷ x) = by_test (first c) (seen_run test x) (length (c ∷ x)) (λ n. SeesUpTo (opens_name first test) (c ∷ x) n)
      (λ f. record { front = c ∷ run_of test x; rest = behind_run test x; whole = ap (λ q. c ∷ q) (run_whole test x); place = refl; opened = inr (f, run_passes test x) })
      (λ f. record { front = []; rest = c ∷ x; whole = refl; place = refl; opened = inl refl })

  named_short : (x : List ℕ) → seen_name first test x ≤ length x
  named_short [] = omega arith
  named_short (c ∷ x) = let r = run_short test x in by_test (first c) (seen_run test x) (length (c ∷ x)) (λ n. n ≤ length (c ∷ x)) (λ f. omega (arith, r)) (λ f. omega arith)

  named_longest : (x z : List ℕ) → opens_name first test x → seen_name first test (x ++ z) ≤ length z
  named_longest [] z o = named_short z
  named_longest (c ∷ x) z o = subst (λ b. (if b then (seen_run test (x ++ z)) else (length (c ∷ (x ++ z)))) ≤ length z) (sym o.0) (longest_run test x z o.1)

  pub lawful_name : LawfulToken (IsNamed value first test stop) (opens_name first test) (scan_name value first test stop) (seen_name first test) no_fault
  lawful_name = record {
    sound = named_sound;
    complete = named_complete;
    ends = λ v x y d. (d.head ∷ d.others.run, named_spelled d);
    cut = λ v x y z d. record {
      head = d.head;
      tail = d.others.run ++ y;
      whole = same_end x y z (d.head ∷ d.others.run) (named_spelled d);
      begins = d.begins;
      others = record { run = d.others.run; same = d.others.same; spelled = refl; passes = d.others.passes; longest = head_cut test y z d.others.longest; ended = head_cut stop y z d.others.ended };
    };
    goes_on = named_goes_on;
    fronts = named_fronts;
    sees = named_sees;
    longest = named_longest;
    firm = λ v x y d. refl;
    faultless = refl;
  }

-- the laws of all tokens, from those of each

module _ (L : Language) where
  pub lawful_tokens : ((t : L.Token) → LawfulToken (L.derives t) (L.opens t) (L.scan t) (L.seen t) (L.faults t)) → LawfulTokens L
  lawful_tokens each = record {
    sound = λ t. (each t).sound;
    complete = λ t. (each t).complete;
    ends = λ t. (each t).ends;
    cut = λ t. (each t).cut;
    goes_on = λ t. (each t).goes_on;
    fronts = λ t. (each t).fronts;
    sees = λ t x. (let s = (each t).sees x in record { front = s.front; rest = s.rest; whole = s.whole; place = s.place; opens = opened t s.front s.opened });
    longest = λ t. (each t).longest;
    firm = λ t. (each t).firm;
    faultless = λ t. (each t).faultless;
  }
    where
      opened : (t : L.Token) (x : List ℕ) → (x ≡ []) ⊎ L.opens t x → Opens L (token t) x
      opened t x (inl e) = subst (λ w. Opens L (token t) w) (sym e) open_end
      opened t x (inr o) = open_token o

  -- tokens with different first characters are apart
  pub apart_heads : (test : ℕ → Bool) (b c : Bool) (t u : L.Token) → (b ≡ c → ⊥) → HasHead L test b t → HasHead L test c u → AreApart L t u
  apart_heads test b c t u n ht hu = record {
    never = λ x d e. n (sym (ht.stands x d).1 ∙ (hu.stands x e).1);
    opening = λ x z o d. elim (is_empty x) [
      | inl e ↦ inl e
      | inr k ↦ absurd (n (sym (ht.stands (x ++ z) d).1 ∙ head_front test x z k ∙ hu.opened x o k))
    ];
  }

-- two different words that are made of the same characters are apart

pub words_never : (test : ℕ → Bool) (w1 w2 x y z : List ℕ) → all_pass test w1 ≡ true → all_pass test w2 ≡ true → x ≡ w1 ++ y → head_passes test y ≡ false → x ≡ w2 ++ z → head_passes test z ≡ false → w1 ≡ w2
words_never test w1 w2 x y z p q e f g h =
    sym (ap (run_of test) e ∙ (run_is test w1 y p f).0) ∙ (ap (run_of test) g ∙ (run_is test w2 z q h).0)

pub words_opening : (test : ℕ → Bool) (x w1 w2 y z : List ℕ) → all_pass test w2 ≡ true → IsFrontOf x w2 → x ++ z ≡ w1 ++ y → head_passes test y ≡ false → IsFrontOf x w1
words_opening test [] w1 w2 y z q o e f = (w1, refl)
words_opening test (c ∷ x) [] [] y z q o e f = absurd (let g = o.1 in cc g)
words_opening test (c ∷ x) [] (b ∷ w2) y z q o e f =
    let g = o.1 in
    let h : b ≡ c = cc g in
    let k : test b ≡ true = (and_parts (test b) (all_pass test w2) q).0 in
    let m : test c ≡ false = ap (head_passes test) e ∙ f in
    absurd (let k' : test c ≡ true = sym (ap test h) ∙ k in cc (m, k'))
words_opening test (c ∷ x) (d ∷ w1) [] y z q o e f = absurd (let g = o.1 in cc g)
words_opening test (c ∷ x) (d ∷ w1) (b ∷ w2) y z q o e f =
    let g = o.1 in
    let h : w2 ≡ x ++ o.0 = cc g in
    let k : x ++ z ≡ w1 ++ y = cc e in
    let m : d ≡ c = cc e in
    let r = words_opening test x w1 w2 y z (and_parts (test b) (all_pass test w2) q).1 (o.0, h) k f in
    (r.0, ap₂ (λ a b. a ∷ b) m r.1)

-- first characters

pub word_head : {V : Type 0} (value : V) (c : ℕ) (w : List ℕ) (after test : ℕ → Bool) {v : V} {x y : List ℕ} → IsWord value (c ∷ w) after v x y → (x ≢ []) × (head_passes test x ≡ test c)
word_head value c w after test d = ((λ e. let g = d.spelled in absurd (cc (e, g))), ap (head_passes test) d.spelled)

pub front_head : (test : ℕ → Bool) (c : ℕ) (w x : List ℕ) → IsFrontOf x (c ∷ w) → x ≢ [] → head_passes test x ≡ test c
front_head test c w [] o n = absurd (n refl)
front_head test c w (b ∷ x) o n = let g = o.1 in let h : b ≡ c = cc g in ap test h

use Rattle.std.proofs.Common.{◌≡◌, ◌≢◌, ℕ, ◌≤◌, true, false, if◌then◌else◌, List, [], ◌++◌, inl, inr, length, min, refl, sym, ap, subst, ◌∙◌, Ok, Err, IfOk, arith}
use Rattle.gx_grammar.specs.Grammar.{Guard, choose}
use Rattle.gx_grammar.specs.Language.{Language, Part, Made}
use Rattle.gx_grammar.specs.Derivation.{Derives, of_left, of_right}
use Rattle.gx_grammar.specs.Opening.{Opens, open_end, open_left, open_right, OpensUpTo}
use Rattle.gx_grammar.specs.Halting.{Halts, halt_left, halt_right}
use Rattle.gx_grammar.specs.Reading.{State, Unfit, Faulty, TooDeep, Reading, notes}
use Rattle.gx_grammar.specs.Decision.{Texts, IsSeen, Chooses}
use Rattle.gx_grammar.specs.Laws.{Within, Meets, Agrees, Stops, SeenUpTo, Reaches, IsExact}
use Rattle.gx_grammar.proofs.Readings.{by_test, min_is, meets_within}
use Rattle.gx_grammar.proofs.Exact.{reaches_as}

module _ (L : Language) where
  -- what was seen by a guard is seen
  pub noted_reaches : {A : Part L} (s : State) (left : ℕ) (r : Reading (Made L)) → OpensUpTo L A s.rest left → Reaches L A (notes s left) r → Reaches L A s r
  noted_reaches {A = A} s left r o h = go r h
    where
      seen : (far : ℕ) → SeenUpTo L A (notes s left) far → SeenUpTo L A s far
      seen far (inl e) = elim (min_is s.far left) [ inl f ↦ inl (e ∙ f) | inr f ↦ inr (subst (λ n. OpensUpTo L A s.rest n) (sym (e ∙ f)) o) ]
      seen far (inr p) = inr p

      go : (r : Reading (Made L)) → Reaches L A (notes s left) r → Reaches L A s r
      go (Ok p) h = seen p.1.far h
      go (Err (Unfit far)) h = seen far h
      go (Err (Faulty code left)) h = h
      go (Err TooDeep) h = tt

  module _ (g : Guard) (A B : Part L) (K C : Texts) (first second : State → Reading (Made L))
      (decided : Chooses L g A B K C) (left : IsExact L A K C first) (right : IsExact L B K C second) where
    abbrev noted : State → State
    noted s = notes s (g.seen s.rest)

    abbrev choice : State → Reading (Made L)
    choice s = if g.takes s.rest then (first (noted s)) else (second (noted s))

    noted_seen : (s : State) (x z : List ℕ) → s.rest ≡ x ++ z → g.seen (x ++ z) ≤ length z → min s.far (g.seen s.rest) ≤ length z
    noted_seen s x z e h = let f : g.seen s.rest ≤ length z = subst (λ w. g.seen w ≤ length z) (sym e) h in omega arith

    -- the guard sent the reader to A, and B was opened as far as was seen or as A is
    to_left : (s : State) (x z : List ℕ) → s.rest ≡ x ++ z → s.far ≤ length s.rest → IsSeen L A g x z → Within (first (noted s)) (length z)
    to_left s x z e h (inl o) = left.covers (noted s) x z e (omega arith) o
    to_left s x z e h (inr k) = left.kept (noted s) (length z) (noted_seen s x z e k)

    to_right : (s : State) (x z : List ℕ) → s.rest ≡ x ++ z → s.far ≤ length s.rest → IsSeen L B g x z → Within (second (noted s)) (length z)
    to_right s x z e h (inl o) = right.covers (noted s) x z e (omega arith) o
    to_right s x z e h (inr k) = right.kept (noted s) (length z) (noted_seen s x z e k)

    choose_complete : (s : State) (v : Made L) {x : List ℕ} (y : List ℕ) → Derives L (choose g A B) v x y → s.rest ≡ x → K y → Agrees (choice s) v y
    choose_complete s v y (of_left d) h k =
        let d' = subst (λ w. Derives L A v w y) (sym h) d in
        by_test (g.takes s.rest) (first (noted s)) (second (noted s)) (λ r. Agrees r v y) (λ _. left.complete (noted s) v y d' k)
        (λ f. let t : g.takes s.rest ≡ true = decided.left v s.rest y d' k in absurd (cc))
    choose_complete s v y (of_right d) h k =
        let d' = subst (λ w. Derives L B v w y) (sym h) d in
        by_test (g.takes s.rest) (first (noted s)) (second (noted s)) (λ r. Agrees r v y)
        (λ f. let t : g.takes s.rest ≡ false = decided.right v s.rest y d' k in absurd (cc)) (λ _. right.complete (noted s) v y d' k)

    choose_halts : (s : State) (code : ℕ) {x : List ℕ} (z : List ℕ) → Halts L (choose g A B) x code z → s.rest ≡ x → Stops (choice s) code (length z)
    choose_halts s code z (halt_left h) e =
        let h' = subst (λ w. Halts L A w code z) (sym e) h in
        by_test (g.takes s.rest) (first (noted s)) (second (noted s)) (λ r. Stops r code (length z)) (λ _. left.halts (noted s) code z h')
        (λ f. let t : g.takes s.rest ≡ true = decided.left_halts s.rest z code h' in absurd (cc))
    choose_halts s code z (halt_right h) e =
        let h' = subst (λ w. Halts L B w code z) (sym e) h in
        by_test (g.takes s.rest) (first (noted s)) (second (noted s)) (λ r. Stops r code (length z))
        (λ f. let t : g.takes s.rest ≡ false = decided.right_halts s.rest z code h' in absurd (cc)) (λ _. right.halts (noted s) code z h')

    choose_covers : (s : State) {x : List ℕ} (z : List ℕ) → s.rest ≡ x ++ z → s.far ≤ length s.rest → Opens L (choose g A B) x → Within (choice s) (length z)
    choose_covers s z e h open_end =
        by_test (g.takes s.rest) (first (noted s)) (second (noted s)) (λ r. Within r (length z))
        (λ _. left.covers (noted s) [] z e (omega arith) open_end) (λ _. right.covers (noted s) [] z e (omega arith) open_end)
    choose_covers s {x = x} z e h (open_left o) =
        by_test (g.takes s.rest) (first (noted s)) (second (noted s)) (λ r. Within r (length z))
        (λ _. left.covers (noted s) x z e (omega arith) o) (λ f. to_right s x z e h (decided.left_cut x z (sym (ap g.takes e) ∙ f) o))
    choose_covers s {x = x} z e h (open_right o) =
        by_test (g.takes s.rest) (first (noted s)) (second (noted s)) (λ r. Within r (length z))
        (λ f. to_left s x z e h (decided.right_cut x z (sym (ap g.takes e) ∙ f) o)) (λ _. right.covers (noted s) x z e (omega arith) o)

    choose_meets : (s : State) {v : Made L} {x : List ℕ} (y z : List ℕ) → s.rest ≡ x ++ z → s.far ≤ length s.rest → Derives L (choose g A B) v x y → y ≢ [] → C y → Meets (choice s) (y ++ z) (length z)
    choose_meets s {v = v} {x = x} y z e h (of_left d) n c =
        by_test (g.takes s.rest) (first (noted s)) (second (noted s)) (λ r. Meets r (y ++ z) (length z))
        (λ _. left.meets (noted s) v x y z e (omega arith) d n c)
        (λ f. meets_within (second (noted s)) (y ++ z) (length z) (to_right s x z e h (decided.left_before v x y z (sym (ap g.takes e) ∙ f) d n c)))
    choose_meets s {v = v} {x = x} y z e h (of_right d) n c =
        by_test (g.takes s.rest) (first (noted s)) (second (noted s)) (λ r. Meets r (y ++ z) (length z))
        (λ f. meets_within (first (noted s)) (y ++ z) (length z) (to_left s x z e h (decided.right_before v x y z (sym (ap g.takes e) ∙ f) d n c)))
        (λ _. right.meets (noted s) v x y z e (omega arith) d n c)

    choose_sound : (s : State) → IfOk (choice s) (λ r. Derives L (choose g A B) r.0 s.rest r.1.rest)
    choose_sound s = by_test (g.takes s.rest) (first (noted s)) (second (noted s)) (λ q. IfOk q (λ r. Derives L (choose g A B) r.0 s.rest r.1.rest))
        (λ _. as_left (first (noted s)) (left.sound (noted s))) (λ _. as_right (second (noted s)) (right.sound (noted s)))
      where
        as_left : (q : Reading (Made L)) → IfOk q (λ r. Derives L A r.0 s.rest r.1.rest) → IfOk q (λ r. Derives L (choose g A B) r.0 s.rest r.1.rest)
        as_left (Ok r) d = of_left d
        as_left (Err e) d = tt

        as_right : (q : Reading (Made L)) → IfOk q (λ r. Derives L B r.0 s.rest r.1.rest) → IfOk q (λ r. Derives L (choose g A B) r.0 s.rest r.1.rest)
        as_right (Ok r) d = of_right d
        as_right (Err e) d = tt

    choose_reaches : (s : State) → Reaches L (choose g A B) s (choice s)
    choose_reaches s = by_test (g.takes s.rest) (first (noted s)) (second (noted s)) (λ r. Reaches L (choose g A B) s r)
        (λ _. noted_reaches s (g.seen s.rest) (first (noted s)) (decided.sees s.rest) (reaches_as (noted s) (first (noted s)) (λ x o. open_left o) (λ x z code h. halt_left h) (left.reaches (noted s))))
        (λ _. noted_reaches s (g.seen s.rest) (second (noted s)) (decided.sees s.rest) (reaches_as (noted s) (second (noted s)) (λ x o. open_right o) (λ x z code h. halt_right h) (right.reaches (noted s))))

    pub exact_choose : IsExact L (choose g A B) K C choice
    exact_choose = record {
      kept = λ s n h. by_test (g.takes s.rest) (first (noted s)) (second (noted s)) (λ r. Within r n) (λ _. left.kept (noted s) n (omega arith)) (λ _. right.kept (noted s) n (omega arith));
      sound = choose_sound;
      complete = λ s v y d k. choose_complete s v y d refl k;
      halts = λ s code z h. choose_halts s code z h refl;
      covers = λ s x z e h o. choose_covers s z e h o;
      meets = λ s v x y z e h d n c. choose_meets s y z e h d n c;
      reaches = choose_reaches;
    }

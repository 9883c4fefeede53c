use Rattle.std.proofs.Common.{◌≡◌, ◌≢◌, ℕ, Bool, true, false, List, [], ◌∷◌, ◌++◌, ◌⊎◌, inl, inr, refl, sym, ap, subst, ◌∙◌}
use Rattle.gx_grammar.specs.Grammar.{empty}
use Rattle.gx_grammar.specs.Language.{Language, Part, Made}
use Rattle.gx_grammar.specs.Derivation.{Derives}
use Rattle.gx_grammar.specs.Opening.{Opens, open_end}
use Rattle.gx_grammar.specs.Halting.{Halts}
use Rattle.gx_grammar.specs.Decision.{Chooses, Repeats}
use Rattle.gx_grammar.specs.First.{AllOf, StandsFirst, EndsOrStarts, BeginsWith, begins_empty, begins_opening, begins_token, Fronts, first_of, first_behind, head_passes, by_character, HasHead, AreFronts, CharacterChooses}
use Rattle.gx_grammar.proofs.Readings.{is_empty}
use Rattle.gx_grammar.proofs.First.{all_in, in_left, first_in, first_stands, begins_in, starts, halting, begins, before_starts, before_begins}

pub head_front : (test : ℕ → Bool) (x z : List ℕ) → x ≢ [] → head_passes test (x ++ z) ≡ head_passes test x
head_front test [] z n = absurd (n refl)
head_front test (c ∷ x) z n = refl

module _ (L : Language) (test : ℕ → Bool) where
  head_begun : (b : Bool) (ts : List L.Token) (x : List ℕ) → AllOf (HasHead L test b) ts → BeginsWith L.derives L.opens ts x → (x ≡ []) ⊎ (head_passes test x ≡ b)
  head_begun b ts x a begins_empty = inl refl
  head_begun b ts x a (begins_opening u i o) = elim (is_empty x) [ inl e ↦ inl e | inr n ↦ inr ((all_in (HasHead L test b) ts a u i).opened x o n) ]
  head_begun b ts x a (begins_token s) = inr ((all_in (HasHead L test b) ts a s.token s.among).stands x (inl (s.value, s.rest, s.derived))).1

  head_starts : (b : Bool) (ts : List L.Token) (x : List ℕ) → AllOf (HasHead L test b) ts → StandsFirst L.derives L.faults ts x → head_passes test x ≡ b
  head_starts b ts x a s = ((all_in (HasHead L test b) ts a s.token s.among).stands x s.stands).1

  head_against : (A : Part L) (b : Bool) (x z : List ℕ) → head_passes test (x ++ z) ≡ b → (c : Bool) → (b ≡ c → ⊥) → (x ≡ []) ⊎ (head_passes test x ≡ c) → Opens L A x
  head_against A b x z e c n h = elim (is_empty x) [
    | inl k ↦ subst (λ w. Opens L A w) (sym k) open_end
    | inr k ↦ elim h [ inl q ↦ absurd (k q) | inr q ↦ absurd (n (sym e ∙ head_front test x z k ∙ q)) ]
  ]

  module _ (f : Fronts L) (right : AreFronts L f) (A B : Part L) (us : List L.Token) (given : CharacterChooses L f test A B us) where
    starts_passing : {v : Made L} {x y : List ℕ} → Derives L A v x y → head_passes test x ≡ true
    starts_passing {x = x} d = elim (starts L f right d) [ inl s ↦ head_starts true (first_of L f A) x given.passes (first_stands L.derives L.faults (first_of L f A) x s) | inr p ↦ (let e = given.takes in let g = p.1 in absurd (cc (e, g))) ]

    halts_passing : {x z : List ℕ} {code : ℕ} → Halts L A x code z → head_passes test x ≡ true
    halts_passing {x = x} h = head_starts true (first_of L f A) x given.passes (halting L f right h)

    halts_failing : {x z : List ℕ} {code : ℕ} → Halts L B x code z → head_passes test x ≡ false
    halts_failing {x = x} h = head_starts false (first_behind L f B us) x given.fails
        (first_in L.derives L.faults (first_of L f B) (first_behind L f B us) x (λ u i. in_left (first_of L f B) _ u i) (halting L f right h))

    stands_failing : (x : List ℕ) → EndsOrStarts L.derives L.faults (first_behind L f B us) x → head_passes test x ≡ false
    stands_failing x (inl e) = ap (head_passes test) e
    stands_failing x (inr s) = head_starts false (first_behind L f B us) x given.fails s

    left_over : (x z : List ℕ) → head_passes test (x ++ z) ≡ false → Opens L A x → Opens L B x
    left_over x z e o = head_against B false x z e true (λ q. absurd (cc)) (head_begun true (first_of L f A) x given.passes (begins L f right o))

    left_derived : {v : Made L} {x y : List ℕ} (z : List ℕ) → head_passes test (x ++ z) ≡ false → Derives L A v x y → Opens L B x
    left_derived {x = x} z e d = head_against B false x z e true (λ q. absurd (cc)) (inr (starts_passing d))

    right_over : (x z : List ℕ) → head_passes test (x ++ z) ≡ true → BeginsWith L.derives L.opens (first_behind L f B us) x → Opens L A x
    right_over x z e b = head_against A true x z e false (λ q. absurd (cc)) (head_begun false (first_behind L f B us) x given.fails b)

    pub character_chooses : Chooses L (by_character test) A B (EndsOrStarts L.derives L.faults us) (BeginsWith L.derives L.opens us)
    character_chooses = record {
      sees = λ x. record { front = []; rest = x; whole = refl; place = refl; opens = open_end };
      left = λ v x y d k. starts_passing d;
      right = λ v x y d k. stands_failing x (before_starts L f right B us x (record { value = v; rest = y; derived = d; behind = k }));
      left_halts = λ x z code h. halts_passing h;
      right_halts = λ x z code h. halts_failing h;
      left_cut = λ x z e o. inl (left_over x z e o);
      right_cut = λ x z e o. inl (right_over x z e (begins_in L.derives L.opens (first_of L f B) (first_behind L f B us) x (λ u i. in_left (first_of L f B) _ u i) (begins L f right o)));
      left_before = λ v x y z e d n c. inl (left_derived z e d);
      right_before = λ v x y z e d n c. inl (right_over x z e (before_begins L f right B us x (inr (record { value = v; rest = y; derived = d; behind = c }))));
    }

  module _ (f : Fronts L) (right : AreFronts L f) (A : Part L) (us : List L.Token) (given : CharacterChooses L f test A empty us) where
    pub character_repeats : Repeats L (by_character test) A (EndsOrStarts L.derives L.faults us) (BeginsWith L.derives L.opens us)
    character_repeats = record {
      sees = λ x. record { front = []; rest = x; whole = refl; place = refl; opens = open_end };
      item = λ v x y d k. starts_passing f right A empty us given d;
      item_halts = λ x z code h. halts_passing f right A empty us given h;
      stop = λ x k. stands_failing f right A empty us given x k;
      item_cut = λ x z e o. inl (left_over f right A empty us given x z e o);
      item_before = λ v x y z e d n c. inl (left_derived f right A empty us given z e d);
      stop_before = λ x z e n c. inl (right_over f right A empty us given x z e c);
    }

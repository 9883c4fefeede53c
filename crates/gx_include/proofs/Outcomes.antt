-- How the outcome of a walk follows from how far it has come.
use Rattle.std.proofs.Common.{◌≡◌, ℕ, ◌+◌, ◌≤◌, Bool, true, false, List, [], ◌∷◌, inl, inr, Option, Some, None, refl, sym, ◌∙◌, ap, subst, get_or, length, slice_get, arith}
use Rattle.std.proofs.lemmas.Bool.{cases_lt}
use Rattle.std.proofs.lemmas.Option.{slice_get_within, get_or_from_slice_get, slice_get-get_or}
use Rattle.gx_types.specs.SequenceType.{SequenceType}
use Rattle.gx_include_letters.specs.declared.letter.Letter.{Letter}
use Rattle.gx_include.specs.declared.walk.Origin.{Origin}
use Rattle.gx_include.specs.declared.walk.Outcome.{Outcome}
use Rattle.gx_include.specs.Pairs.{start_pair, is_bad}
use Rattle.gx_include.specs.Walk.{StateAt, StayInPlace}
use Rattle.gx_include.specs.Traced.{Traced}
use Rattle.gx_include.specs.Outcome.{outcome_at, first_bad_place, is_settled, AreGoodBelow, IsBadBelow, HasWalked, IsOutcome}
use Rattle.gx_include.proofs.Walks.{one_state}
use Rattle.gx_include.proofs.Expanding.{start_traced}

module _ (a b : SequenceType) where
  good_more : (pairs : List (ℕ × List Bool)) (at : ℕ) (pair : ℕ × List Bool) → StateAt pairs at pair → AreGoodBelow a b pairs at → is_bad a b pair ≡ false → AreGoodBelow a b pairs (at + 1)
  good_more pairs at pair here good g i p h k =
      elim (cases_lt i at) [
        | inl l ↦ good i p l k
        | inr l ↦
            let same : at ≡ i = omega arith in
            ap (λ q. is_bad a b q) (one_state pairs p pair i k (subst (λ n. StateAt pairs n pair) same here)) ∙ g
      ]

  judge_one : (pairs : List (ℕ × List Bool)) (at : ℕ) (pair : ℕ × List Bool) (bad : Option ℕ) (now : Bool) → StateAt pairs at pair → is_bad a b pair ≡ now
      → IsBadBelow a b pairs at bad → IsBadBelow a b pairs (at + 1) (first_bad_place bad now at)
  judge_one pairs at pair (Some place) now here e (l, f) = (omega (arith, l), f)
  judge_one pairs at pair None true here e good = (omega arith, record { pair = pair; here = here; bad = e; good = good })
  judge_one pairs at pair None false here e good = good_more pairs at pair here good e

  pub judge_next : (pairs : List (ℕ × List Bool)) (at : ℕ) (pair : ℕ × List Bool) (bad next : Option ℕ) → slice_get pairs at ≡ Some pair → next ≡ first_bad_place bad (is_bad a b pair) at
      → IsBadBelow a b pairs at bad → IsBadBelow a b pairs (at + 1) next
  judge_next pairs at pair bad next e is h =
      subst (IsBadBelow a b pairs (at + 1)) (sym is)
      (judge_one pairs at pair bad (is_bad a b pair) (slice_get_within pairs at pair e, get_or_from_slice_get pairs at pair pair e) refl h)

  -- where pairs are added, the first ones stay good
  stay_good : (pairs pairs2 : List (ℕ × List Bool)) (bound : ℕ) → StayInPlace pairs pairs2 → bound ≤ length pairs → AreGoodBelow a b pairs bound → AreGoodBelow a b pairs2 bound
  stay_good pairs pairs2 bound kept within good i p h k =
      let old = get_or pairs i p in
      let there : StateAt pairs i old = (omega arith, get_or_from_slice_get pairs i old old (slice_get-get_or pairs i p (omega arith))) in
      ap (λ q. is_bad a b q) (one_state pairs2 p old i k (kept i old there)) ∙ good i old h there

  pub stay_judged : (pairs pairs2 : List (ℕ × List Bool)) (bound : ℕ) (bad : Option ℕ) → StayInPlace pairs pairs2 → bound ≤ length pairs → IsBadBelow a b pairs bound bad → IsBadBelow a b pairs2 bound bad
  stay_judged pairs pairs2 bound None kept within good = stay_good pairs pairs2 bound kept within good
  stay_judged pairs pairs2 bound (Some place) kept within (l, f) =
      (l, record { pair = f.pair; here = kept place f.pair f.here; bad = f.bad; good = stay_good pairs pairs2 place kept (omega arith) f.good })

  pub none_below : (pairs : List (ℕ × List Bool)) → AreGoodBelow a b pairs 0
  none_below pairs i p h k = absurd (omega arith)

  module _ (letters : List Letter) where
    pub walked_none : (limit : Option ℕ) (pairs : List (ℕ × List Bool)) (origins : List Origin) → pairs ≡ start_pair ∷ [] → origins ≡ [] → HasWalked a b letters limit pairs origins 0
    walked_none limit pairs origins e f =
        record {
          traced = subst (λ ps. Traced a b letters ps origins 0 0) (sym e) (subst (λ os. Traced a b letters (start_pair ∷ []) os 0 0) (sym f) (start_traced a b letters));
          short = λ h. absurd (omega arith);
        }

    pub settled : (limit place : Option ℕ) (pairs : List (ℕ × List Bool)) (origins : List Origin) (at : ℕ) (outcome : Outcome)
        → true ≡ is_settled limit place → outcome ≡ outcome_at place → HasWalked a b letters limit pairs origins at → IsBadBelow a b pairs (at + 1) place
        → IsOutcome a b letters limit pairs origins outcome
    settled (Some limit) place pairs origins at outcome s e w h = absurd (cc)
    settled None None pairs origins at outcome s e w h = absurd (cc)
    settled None (Some place) pairs origins at outcome s e w (l, f) =
        subst (IsOutcome a b letters None pairs origins) (sym e) (at, omega (arith, l), w, f, inl refl)

    pub ended : (limit place : Option ℕ) (pairs : List (ℕ × List Bool)) (origins : List Origin) (at : ℕ) (outcome : Outcome)
        → outcome ≡ outcome_at place → length pairs ≤ at → HasWalked a b letters limit pairs origins at → IsBadBelow a b pairs at place
        → IsOutcome a b letters limit pairs origins outcome
    ended limit None pairs origins at outcome e l w h =
        subst (IsOutcome a b letters limit pairs origins) (sym e) (at, l, w, λ i p k. h i p (omega arith))
    ended limit (Some place) pairs origins at outcome e l w (m, f) =
        subst (IsOutcome a b letters limit pairs origins) (sym e) (at, omega (arith, m), w, f, inr l)

-- Two types have an answer under each limit: a walk over their pairs ends.
use Rattle.std.proofs.Common.{◌≡◌, ℕ, zero, suc, ◌+◌, ◌^◌, ◌<◌, ◌≤◌, Bool, true, false, List, [], ◌∷◌, ◌++◌, ◌⊎◌, ◌||◌, inl, inr, Option, Some, None, refl, sym, ◌∙◌, ap, subst, get_or, length, slice_get, length-append, arith, rules}
use Rattle.std.specs.List.{IsDistinct, list_any}
use Rattle.std.specs.Cmp.{IsEquivalence}
use Rattle.std.specs.Cmp.Rules.{comparing}
use Rattle.std.proofs.lemmas.Bool.{cases_lt, ltb-false}
use Rattle.std.proofs.lemmas.Option.{slice_get-get_or}
use Rattle.std.proofs.lemmas.Map.Keys.{IsDistinct-push}
use Rattle.gx_types.specs.SchemaSet.{SchemaSet}
use Rattle.gx_types.specs.SequenceType.{SequenceType}
use Rattle.gx_include_letters.specs.declared.letter.Letter.{Letter}
use Rattle.gx_include.specs.declared.walk.Origin.{Origin}
use Rattle.gx_include.specs.declared.walk.Outcome.{Outcome}
use Rattle.gx_include.specs.declared.walk.Outcome.TheVariants.{Safe, Bad, TooMany}
use Rattle.gx_include.specs.declared.verdict.Verdict.{Verdict}
use Rattle.gx_include.specs.declared.verdict.Verdict.TheVariants.{Yes, No}
use Rattle.gx_include.specs.Existence.{AnAnswerOfTypesExists}
use Rattle.gx_include_letters.specs.Letters.{AreLetters, ServeAll}
use Rattle.gx_include.specs.Origins.{AreRuns, IsNotedIfFound}
use Rattle.gx_include.specs.Outcome.{exceeds, outcome_at, first_bad_place, IsBadBelow, HasWalked, IsOutcome}
use Rattle.gx_include.specs.PairOrder.{same_pair}
use Rattle.gx_include.specs.Pairs.{start_pair, moved, is_bad}
use Rattle.gx_include.specs.Runs.{shapes_of_letter, shapes_of}
use Rattle.gx_include_positions.specs.Step.{single, all_next}
use Rattle.gx_include.specs.Expanding.{Expanding}
use Rattle.gx_include.specs.Traced.{Traced}
use Rattle.gx_include.specs.Verdict.{IsPast, IsVerdictOver}
use Rattle.gx_include.specs.Walk.{StayInPlace, run_at}
use Rattle.gx_include_letters.proofs.Alphabets.{are_letters, serve_all}
use Rattle.gx_include.proofs.Expanding.{expand_begins, expand_by, expand_ends}
use Rattle.gx_include.proofs.Outcomes.{judge_next, stay_judged, none_below, walked_none, ended}
use Rattle.gx_include.proofs.PairsAreOne.{equal_pairs}
use Rattle.gx_include.proofs.SomeAlphabet.{vec_of, an_alphabet_exists}
use Rattle.gx_include.proofs.Verdicts.{says_yes, says_no, says_past}

-- members by their places

some_at : {X : Type 0} (xs : List X) (i : ℕ) → i < length xs → (x : X) × (x ≡ get_or xs i x)
some_at [] i h = absurd (omega (arith, h))
some_at (x ∷ xs) zero h = (x, refl)
some_at (x ∷ xs) (suc i) h = some_at xs i (omega (arith, h))

got_at : {X : Type 0} (xs : List X) (i : ℕ) → i < length xs → (x : X) × (slice_get xs i ≡ Some x)
got_at xs i h = let x = some_at xs i h in (x.0, slice_get-get_or xs i x.0 h ∙ ap (λ y. Some y) (sym x.1))

-- one pair more

record Noted (pairs : List (ℕ × List Bool)) (origins : List Origin) (found : Option (ℕ × List Bool)) (origin : Origin) : Type 0 where
  pub pairs2 : List (ℕ × List Bool)
  pub origins2 : List Origin
  pub noted : IsNotedIfFound pairs origins found origin pairs2 origins2
  pub different : IsDistinct same_pair pairs2

pairs_are_equivalent : IsEquivalence same_pair
pairs_are_equivalent = search (comparing, rules)

here_or_later : (here later : Bool) → (here || later) ≡ true → (here ≡ true) ⊎ (later ≡ true)
here_or_later true later h = inl refl
here_or_later false later h = inr h

place_of : (pairs : List (ℕ × List Bool)) (pair : ℕ × List Bool) → list_any (same_pair pair) pairs ≡ true → (i : ℕ) × (i < length pairs) × (get_or pairs i pair ≡ pair)
place_of [] pair h = absurd (cc)
place_of (p ∷ ps) pair h =
    elim (here_or_later (same_pair pair p) (list_any (same_pair pair) ps) h) [
      | inl e ↦ (0, omega arith, sym (equal_pairs pair p e))
      | inr k ↦ let q = place_of ps pair k in (suc q.0, omega (arith, q.1), q.2)
    ]

note : (pairs : List (ℕ × List Bool)) (origins : List Origin) (found : Option (ℕ × List Bool)) (origin : Origin) → IsDistinct same_pair pairs → Noted pairs origins found origin
note pairs origins None origin d = record { pairs2 = pairs; origins2 = origins; noted = (refl, refl); different = d }
note pairs origins (Some pair) origin d = noted_as (list_any (same_pair pair) pairs) refl
  where
    noted_as : (there : Bool) → list_any (same_pair pair) pairs ≡ there → Noted pairs origins (Some pair) origin
    noted_as true e = record { pairs2 = pairs; origins2 = origins; noted = inr (refl, refl, place_of pairs pair e); different = d }
    noted_as false e = record { pairs2 = pairs ++ pair ∷ []; origins2 = origins ++ origin ∷ []; noted = inl (refl, refl); different = IsDistinct-push pairs_are_equivalent pairs pair d e }

start_alone : IsDistinct same_pair (start_pair ∷ [])
unfolding IsDistinct
start_alone = (tt, tt)

-- a walk

module _ (a b : SequenceType) (letters : List Letter) where
  -- all letters of a pair

  record Looked (old : List (ℕ × List Bool)) (at : ℕ) (left right : List Bool) : Type 0 where
    pub pairs2 : List (ℕ × List Bool)
    pub origins2 : List Origin
    pub looked : Expanding a b letters old pairs2 origins2 at (length letters) left right
    pub different : IsDistinct same_pair pairs2

  look : (more : ℕ) (old pairs : List (ℕ × List Bool)) (origins : List Origin) (at bound : ℕ) (left right : List Bool) → Expanding a b letters old pairs origins at bound left right
      → IsDistinct same_pair pairs → bound + more ≡ length letters → Looked old at left right
  look zero old pairs origins at bound left right x d e =
      let last : bound ≡ length letters = omega (arith, e) in
      record { pairs2 = pairs; origins2 = origins; looked = subst (λ n. Expanding a b letters old pairs origins at n left right) last x; different = d }
  look (suc more) old pairs origins at bound left right x d e =
      let letter = some_at letters bound (omega (arith, e)) in
      let n = note pairs origins (moved left right letter.0) (record { from = at; letter = bound }) d in
      look more old n.pairs2 n.origins2 at (bound + 1) left right
      (expand_by a b letters old pairs origins at bound left right x letter.0 (omega (arith, e)) letter.1 (moved left right letter.0) (record { from = at; letter = bound }) n.pairs2 n.origins2 refl refl refl n.noted)
      n.different (omega (arith, e))

  record Grown (pairs : List (ℕ × List Bool)) (at : ℕ) : Type 0 where
    pub pairs2 : List (ℕ × List Bool)
    pub origins2 : List Origin
    pub traced : Traced a b letters pairs2 origins2 (at + 1) 0
    pub kept : StayInPlace pairs pairs2
    pub different : IsDistinct same_pair pairs2

  grow : (pairs : List (ℕ × List Bool)) (origins : List Origin) (at : ℕ) (pair : ℕ × List Bool) → slice_get pairs at ≡ Some pair → Traced a b letters pairs origins at 0 → IsDistinct same_pair pairs
      → Grown pairs at
  grow pairs origins at pair here t d =
      let left = all_next a (single pair.0) in
      let right = all_next b pair.1 in
      let l = look (length letters) pairs pairs origins at 0 left right (expand_begins a b letters pairs origins at left right pair here refl refl t) d (omega arith) in
      record {
        pairs2 = l.pairs2;
        origins2 = l.origins2;
        traced = expand_ends a b letters pairs l.pairs2 l.origins2 at (length letters) left right l.looked refl;
        kept = l.looked.kept;
        different = l.different;
      }

  -- pair after pair

  record Ended (limit : ℕ) : Type 0 where
    pub pairs : List (ℕ × List Bool)
    pub origins : List Origin
    pub outcome : Outcome
    pub is : IsOutcome a b letters (Some limit) pairs origins outcome

  all_seen : (limit : ℕ) (pairs : List (ℕ × List Bool)) (origins : List Origin) (at : ℕ) (bad : Option ℕ) → length pairs ≤ at → HasWalked a b letters (Some limit) pairs origins at
      → IsBadBelow a b pairs at bad → Ended limit
  all_seen limit pairs origins at bad all w h =
      record { pairs = pairs; origins = origins; outcome = outcome_at bad; is = ended a b letters (Some limit) bad pairs origins at (outcome_at bad) refl all w h }

  walk_on : (fuel limit : ℕ) (pairs : List (ℕ × List Bool)) (origins : List Origin) (at : ℕ) (bad : Option ℕ) → limit < at + fuel → HasWalked a b letters (Some limit) pairs origins at
      → IsBadBelow a b pairs at bad → IsDistinct same_pair pairs → Ended limit
  walk_on zero limit pairs origins at bad enough w h d =
      let few = ltb-false limit (length pairs) (w.short (omega (arith, enough))) in all_seen limit pairs origins at bad (omega (arith, enough, few)) w h
  walk_on (suc fuel) limit pairs origins at bad enough w h d =
      elim (cases_lt at (length pairs)) [
        | inr all ↦ all_seen limit pairs origins at bad all w h
        | inl more ↦
            let pair = got_at pairs at more in
            let next = first_bad_place bad (is_bad a b pair.0) at in
            let judged = judge_next a b pairs at pair.0 bad next pair.1 refl h in
            let x = grow pairs origins at pair.0 pair.1 w.traced d in
            (elim (exceeds (Some limit) (length x.pairs2)) as (λ past. exceeds (Some limit) (length x.pairs2) ≡ past → Ended limit) [
              | true ↦ λ e. record { pairs = x.pairs2; origins = x.origins2; outcome = TooMany; is = (at + 1, x.traced, x.different, e) }
              | false ↦ λ e.
                  walk_on fuel limit x.pairs2 x.origins2 (at + 1) next (omega (arith, enough)) (record { traced = x.traced; short = λ _. e })
                  (stay_judged a b pairs x.pairs2 (at + 1) next x.kept (omega (arith, more)) judged) x.different
            ]) refl
      ]

  walked : (limit : ℕ) → Ended limit
  walked limit =
      walk_on (limit + 1) limit (start_pair ∷ []) [] 0 None (omega arith) (walked_none a b letters (Some limit) (start_pair ∷ []) [] refl refl)
      (none_below a b (start_pair ∷ [])) start_alone

-- runs by their origins

short_run : (origins : List Origin) (runs : List (List ℕ)) → AreRuns origins runs → (fuel i : ℕ) → i ≤ fuel → i ≤ length origins → length (run_at runs i) ≤ i
short_run origins runs are fuel zero f within = omega (arith, ap length are.first)
short_run origins runs are zero (suc i) f within = absurd (omega (arith, f))
short_run origins runs are (suc fuel) (suc i) f within =
    let o = some_at origins i (omega (arith, within)) in
    let l = are.longer i o.0 (omega (arith, within)) (sym o.1) in
    let shorter = short_run origins runs are fuel o.0.from (omega (arith, f, l.0)) (omega (arith, within, l.0)) in
    let same : i + 1 ≡ suc i = omega arith in
    let is : run_at runs (suc i) ≡ o.0.letter ∷ run_at runs o.0.from = ap (λ n. run_at runs n) (sym same) ∙ l.1 in
    omega (arith, ap length is, shorter, l.0)

same_run : (origins : List Origin) (runs others : List (List ℕ)) → AreRuns origins runs → AreRuns origins others → (fuel i : ℕ) → i ≤ fuel → i ≤ length origins → run_at runs i ≡ run_at others i
same_run origins runs others are be fuel zero f within = are.first ∙ sym be.first
same_run origins runs others are be zero (suc i) f within = absurd (omega (arith, f))
same_run origins runs others are be (suc fuel) (suc i) f within =
    let o = some_at origins i (omega (arith, within)) in
    let l = are.longer i o.0 (omega (arith, within)) (sym o.1) in
    let m = be.longer i o.0 (omega (arith, within)) (sym o.1) in
    let same : i + 1 ≡ suc i = omega arith in
    ap (λ n. run_at runs n) (sym same) ∙ l.1 ∙ ap (λ run. o.0.letter ∷ run) (same_run origins runs others are be fuel o.0.from (omega (arith, f, l.0)) (omega (arith, within, l.0)))
    ∙ sym m.1 ∙ ap (λ n. run_at others n) same

one_shape : (letter : Option Letter) → length (shapes_of_letter letter) ≤ 1
one_shape None = omega arith
one_shape (Some letter) = omega arith

few_shapes : (letters : List Letter) (run : List ℕ) → length (shapes_of letters run) ≤ length run
few_shapes letters [] = omega arith
few_shapes letters (number ∷ run) =
    let f = few_shapes letters run in let g = one_shape (slice_get letters number) in
    omega (arith, f, g, length-append (shapes_of letters run) (shapes_of_letter (slice_get letters number)))

-- the answer

verdict_exists : (s : SchemaSet) (a b : SequenceType) (letters : List Letter) (limit : ℕ) → limit < 2 ^ 62 → AreLetters s a b letters → ServeAll s a b letters
    → (pairs : List (ℕ × List Bool)) (origins : List Origin) (outcome : Outcome) → IsOutcome a b letters (Some limit) pairs origins outcome
    → IsPast a b letters (Some limit) ⊎ ((verdict : Verdict) × IsVerdictOver s a b letters (Some limit) verdict)
verdict_exists s a b letters limit small are serve pairs origins Safe o = inr (Yes, says_yes a b letters s (Some limit) pairs origins serve o)
verdict_exists s a b letters limit small are serve pairs origins TooMany o = inl (says_past a b letters s (Some limit) pairs origins o)
verdict_exists s a b letters limit small are serve pairs origins (Bad place) o =
    let t = o.2.traced in
    let run = run_at t.runs place in
    let within : place < length pairs = o.3.here.0 in
    let placed : place ≤ length origins = omega (arith, within, t.walked.same, t.are.count) in
    let n = says_no a b letters s (Some limit) pairs origins are place o run (λ runs r. same_run origins t.runs runs t.are r place place (omega arith) placed) in
    let all : length pairs ≤ o.0 = elim o.4 [ inl none ↦ absurd (cc none) | inr all ↦ all ] in
    let few = ltb-false limit (length pairs) (o.2.short (omega (arith, within, all))) in
    let v = vec_of (shapes_of letters run) (omega (arith, few_shapes letters run, short_run origins t.runs t.are place place (omega arith) placed, few)) in
    inr (No v.0, (n.0, (run, v.1, n.1)))

pub an_answer_exists : AnAnswerOfTypesExists
an_answer_exists s a b limit g m n k =
    let l = an_alphabet_exists s a b m n in
    let w = walked a b l.0 limit in
    let v = verdict_exists s a b l.0 limit k (are_letters s a b g l.0 l.1) (serve_all s a b g l.0 l.1) w.pairs w.origins w.outcome w.is in
    elim v [
      | inl past ↦ inl (record { letters = l.0; alphabet = l.1; past = past })
      | inr verdict ↦ inr (verdict.0, record { letters = l.0; alphabet = l.1; verdict_is = verdict.1 })
    ]

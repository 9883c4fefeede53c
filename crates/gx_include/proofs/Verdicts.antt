-- How the answer on inclusion follows from the outcome of a walk.
use Rattle.std.proofs.Common.{◌≡◌, ℕ, ◌+◌, ◌-◌, ◌<◌, ◌≤◌, Bool, List, [], ◌∷◌, ◌++◌, inl, inr, Option, Some, sym, ◌∙◌, ap, subst, get_or, length, slice_get, append_assoc, arith}
use Rattle.std.proofs.lemmas.Option.{slice_get_within, get_or_from_slice_get, slice_get-get_or}
use Rattle.gx_types.specs.SchemaSet.{SchemaSet}
use Rattle.gx_types.specs.SequenceType.{SequenceType}
use Rattle.gx_include_letters.specs.declared.letter.Letter.{Letter}
use Rattle.gx_include.specs.declared.walk.Origin.{Origin}
use Rattle.gx_include.specs.declared.walk.Outcome.TheVariants.{Safe, Bad, TooMany}
use Rattle.gx_include_positions.specs.Step.{single, all_next}
use Rattle.gx_include.specs.Pairs.{start_pair, pair_step, is_bad}
use Rattle.gx_include.specs.Walk.{leads_to, run_at, NotAfter}
use Rattle.gx_include.specs.Origins.{AreRuns}
use Rattle.gx_include.specs.Outcome.{HasWalked, IsOutcome}
use Rattle.gx_include.specs.Inclusion.{IsIncluded}
use Rattle.gx_include.specs.Answer.{HasNoVerdict}
use Rattle.gx_include.specs.declared.verdict.IncludeError.{IncludeError}
use Rattle.gx_include.specs.declared.verdict.IncludeError.TheVariants.{TooManyPairs, Memory}
use Rattle.gx_include_letters.specs.Alphabet.{IsAlphabet}
use Rattle.gx_include_letters.specs.Letters.{AreLetters, ServeAll}
use Rattle.gx_include.specs.Verdict.{IsReached, IsWithin, IsPast, IsRefutedBy, IsNoVerdictOver}
use Rattle.gx_include.proofs.Walks.{reached, none_bad, first_bad}
use Rattle.gx_include.proofs.PairRuns.{moved_parts, none_bad_included, bad_is_refused, bad_is_taken, refused_is_bad}

module _ (a b : SequenceType) (letters : List Letter) where
  few_letters : (pair : ℕ × List Bool) (number : ℕ) (next : ℕ × List Bool) → pair_step a b letters pair number ≡ Some next → number < length letters
  few_letters pair number next e =
      let m = moved_parts (all_next a (single pair.0)) (all_next b pair.1) (slice_get letters number) next e in slice_get_within letters number m.0 m.1

  all_within : (limit : Option ℕ) (pairs : List (ℕ × List Bool)) (origins : List Origin) (at : ℕ) → HasWalked a b letters limit pairs origins at → length pairs ≤ at → IsWithin a b letters limit
  all_within limit pairs origins at w all =
      inr (
        pairs,
        w.short (omega (arith, w.traced.walked.first.0)),
        λ run pair e.
            elim (reached (pair_step a b letters) start_pair pairs w.traced.runs (length letters) at 0 w.traced.walked few_letters run pair e) [
              | inl f ↦ (f.0, f.1)
              | inr f ↦ absurd (omega (arith, f.0))
            ],
      )

  module _ (s : SchemaSet) (limit : Option ℕ) (pairs : List (ℕ × List Bool)) (origins : List Origin) where
    pub says_yes : ServeAll s a b letters → IsOutcome a b letters limit pairs origins Safe → IsIncluded s a b × IsWithin a b letters limit
    says_yes serve (at, all, w, good) = (
      none_bad_included s a b letters serve
          (none_bad (pair_step a b letters) start_pair (is_bad a b) pairs w.traced.runs (length letters) at 0 w.traced.walked few_letters all (λ i p h. good i p h.0 h)),
      all_within limit pairs origins at w all,
    )

    pub says_no : AreLetters s a b letters → (place : ℕ) → IsOutcome a b letters limit pairs origins (Bad place) → (run : List ℕ)
        → ((runs : List (List ℕ)) → AreRuns origins runs → run ≡ run_at runs place)
        → IsWithin a b letters limit × IsRefutedBy s a b letters run
    says_no are place (at, before, w, bad, all) run is =
        let same : run ≡ run_at w.traced.runs place = is w.traced.runs w.traced.are in
        let leads : IsReached a b letters run bad.pair = ap (λ r. leads_to (pair_step a b letters) start_pair r) same ∙ w.traced.walked.lead place bad.pair bad.here in
        let refused = bad_is_refused s a b letters are run bad.pair leads bad.bad in (
          elim all [ inl none ↦ inl none | inr long ↦ all_within limit pairs origins at w long ],
          record {
            first = (
              refused,
              λ other r.
                  let q = refused_is_bad s a b letters are other r in
                  subst (λ x. NotAfter x other) (sym same)
                  (first_bad (pair_step a b letters) start_pair (is_bad a b) pairs w.traced.runs (length letters) at 0 place w.traced.walked few_letters before bad.here.0 bad.good other q.0 q.1 q.2),
            );
            taken = bad_is_taken s a b letters are run bad.pair leads bad.bad;
            refused = refused.1;
          },
        )

    pub says_past : IsOutcome a b letters limit pairs origins TooMany → IsPast a b letters limit
    says_past (at, t, different, many) =
        record { pairs = pairs; many = many; different = different; reached = λ i p h. (run_at t.runs i, t.walked.lead i p h) }

-- why there is no verdict is why there is none over the alphabet
pub no_verdict : (s : SchemaSet) (a b : SequenceType) (limit : Option ℕ) (letters others : List Letter) (error : IncludeError) → IsAlphabet s a b letters → others ≡ letters
    → IsNoVerdictOver a b others limit error → HasNoVerdict s a b limit error
no_verdict s a b limit letters others TooManyPairs is same past = record { letters = letters; alphabet = is; past = subst (λ ls. IsPast a b ls limit) same past }
no_verdict s a b limit letters others Memory is same past = tt

-- runs, letter by letter

origin_at : (origins : List Origin) (i : ℕ) (d : Origin) → i < length origins → get_or origins i (get_or origins i d) ≡ get_or origins i d
origin_at origins i d h = get_or_from_slice_get origins i (get_or origins i d) (get_or origins i d) (slice_get-get_or origins i d h)

pub origin_before : (origins : List Origin) (runs : List (List ℕ)) (at : ℕ) (d : Origin) → AreRuns origins runs → 0 < at → at ≤ length origins
    → (get_or origins (at - 1) d).from ≤ length origins
origin_before origins runs at d are some within =
    let i : at - 1 < length origins = omega arith in
    omega (arith, (are.longer (at - 1) (get_or origins (at - 1) d) i (origin_at origins (at - 1) d i)).0)

pub letter_before : (origins : List Origin) (runs : List (List ℕ)) (at : ℕ) (d : Origin) (run run2 all : List ℕ) → AreRuns origins runs → 0 < at → at ≤ length origins
    → run2 ≡ run ++ (get_or origins (at - 1) d).letter ∷ [] → run ++ run_at runs at ≡ all → run2 ++ run_at runs (get_or origins (at - 1) d).from ≡ all
letter_before origins runs at d run run2 all are some within e h =
    let i : at - 1 < length origins = omega arith in
    let last = are.longer (at - 1) (get_or origins (at - 1) d) i (origin_at origins (at - 1) d i) in
    let same : (at - 1) + 1 ≡ at = omega arith in
    let o = get_or origins (at - 1) d in
    ap (λ xs. xs ++ run_at runs o.from) e ∙ append_assoc run (o.letter ∷ []) (run_at runs o.from)
    ∙ ap (λ xs. run ++ xs) (sym last.1) ∙ ap (λ n. run ++ run_at runs n) same ∙ h

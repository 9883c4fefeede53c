-- How a walk over pairs looks at the letters of one pair.
use Rattle.std.proofs.Common.{◌≡◌, ℕ, ◌+◌, ◌<◌, ◌≤◌, Bool, List, [], ◌∷◌, ◌++◌, inl, inr, Option, Some, None, refl, sym, ◌∙◌, ap, subst, get_or, length, length-append, slice_get, arith}
use Rattle.std.proofs.lemmas.Option.{slice_get_within, get_or_from_slice_get, slice_get-get_or}
use Rattle.gx_types.specs.SequenceType.{SequenceType}
use Rattle.gx_include_letters.specs.declared.letter.Letter.{Letter}
use Rattle.gx_include.specs.declared.walk.Origin.{Origin}
use Rattle.gx_include_positions.specs.Step.{single, all_next}
use Rattle.gx_include.specs.Pairs.{start_pair, moved, moved_by, pair_step}
use Rattle.gx_include.specs.Origins.{AreRuns, IsNoted, IsNotedIfFound}
use Rattle.gx_include.specs.Walk.{StateAt, StayInPlace, run_at, Walked}
use Rattle.gx_include.specs.Expanding.{Expanding}
use Rattle.gx_include.specs.Traced.{Traced}
use Rattle.gx_include.proofs.Walks.{walk_begins, goes_on, was_found, finds, walks_on, get_or_front, get_or_end, at_front, at_either, one_state}

no_origin : (i : ℕ) (origin : Origin) → i < 0 → (origin.from ≤ i) × (get_or ([] ∷ []) (i + 1) [] ≡ origin.letter ∷ get_or ([] ∷ []) origin.from [])
no_origin i origin h = absurd (omega arith)

pub start_traced : (a b : SequenceType) (letters : List Letter) → Traced a b letters (start_pair ∷ []) [] 0 0
start_traced a b letters = record {
  runs = [] ∷ [];
  are = record { count = refl; first = refl; longer = λ i origin h e. no_origin i origin h };
  walked = walk_begins (pair_step a b letters) start_pair (length letters);
}

longer_runs : (origins : List Origin) (runs : List (List ℕ)) (new : Origin) → AreRuns origins runs → new.from < length runs → (i : ℕ) (origin : Origin)
    → i < length (origins ++ new ∷ []) → get_or (origins ++ new ∷ []) i origin ≡ origin
    → (origin.from ≤ i) × (get_or (runs ++ (new.letter ∷ run_at runs new.from) ∷ []) (i + 1) [] ≡ origin.letter ∷ get_or (runs ++ (new.letter ∷ run_at runs new.from) ∷ []) origin.from [])
longer_runs origins runs new are early i origin h e =
    elim (at_either origins new origin i (h, e)) [
      | inl k ↦
          let old = are.longer i origin k.0 k.1 in (
            old.0,
            get_or_front runs (new.letter ∷ run_at runs new.from) [] (i + 1) (omega (arith, k.0, are.count)) ∙ old.1
                ∙ ap (λ x. origin.letter ∷ x) (sym (get_or_front runs (new.letter ∷ run_at runs new.from) [] origin.from (omega (arith, old.0, k.0, are.count)))),
          )
      | inr k ↦
          let last : i + 1 ≡ length runs = omega (arith, k.0, are.count) in
          let from : new.from ≡ origin.from = ap (λ (o : Origin). o.from) k.1 in (
            omega (arith, from, early, last),
            get_or_end runs (new.letter ∷ run_at runs new.from) [] (i + 1) last
                ∙ ap (λ (o : Origin). o.letter ∷ run_at runs o.from) k.1
                ∙ ap (λ x. origin.letter ∷ x) (sym (get_or_front runs (new.letter ∷ run_at runs new.from) [] origin.from (omega (arith, from, early)))),
          )
    ]

runs_grow : (origins : List Origin) (runs : List (List ℕ)) (new : Origin) → AreRuns origins runs → new.from < length runs
    → AreRuns (origins ++ new ∷ []) (runs ++ (new.letter ∷ run_at runs new.from) ∷ [])
runs_grow origins runs new are early = record {
  count = omega (arith, are.count, length-append origins (new ∷ []), length-append runs ((new.letter ∷ run_at runs new.from) ∷ []));
  first = get_or_front runs (new.letter ∷ run_at runs new.from) [] 0 (omega arith) ∙ are.first;
  longer = longer_runs origins runs new are early;
}

pub expand_begins : (a b : SequenceType) (letters : List Letter) (pairs : List (ℕ × List Bool)) (origins : List Origin) (at : ℕ) (left right : List Bool) (pair : ℕ × List Bool)
    → slice_get pairs at ≡ Some pair → left ≡ all_next a (single pair.0) → right ≡ all_next b pair.1 → Traced a b letters pairs origins at 0
    → Expanding a b letters pairs pairs origins at 0 left right
expand_begins a b letters pairs origins at left right pair e l r t =
    record { pair = pair; here = (slice_get_within pairs at pair e, get_or_from_slice_get pairs at pair pair e); left_is = l; right_is = r; traced = t; kept = λ i q h. h }

-- what the step by a letter is
step_is : (a b : SequenceType) (letters : List Letter) (left right : List Bool) (pair : ℕ × List Bool) (bound : ℕ) (letter : Letter)
    → left ≡ all_next a (single pair.0) → right ≡ all_next b pair.1 → bound < length letters → letter ≡ get_or letters bound letter
    → pair_step a b letters pair bound ≡ moved left right letter
step_is a b letters left right pair bound letter l r h e =
    ap (λ o. moved_by (all_next a (single pair.0)) (all_next b pair.1) o) (slice_get-get_or letters bound letter h ∙ ap (λ x. Some x) (sym e))
    ∙ ap (λ xs. moved xs (all_next b pair.1) letter) (sym l)
    ∙ ap (λ xs. moved left xs letter) (sym r)

module _ (a b : SequenceType) (letters : List Letter) (old : List (ℕ × List Bool)) (pairs : List (ℕ × List Bool)) (origins : List Origin) (at bound : ℕ) (left right : List Bool)
    (x : Expanding a b letters old pairs origins at bound left right) (letter : Letter) (within : bound < length letters) (is : letter ≡ get_or letters bound letter) where
  leads : (p : ℕ × List Bool) → StateAt pairs at p → pair_step a b letters p bound ≡ moved left right letter
  leads p h =
      let same : x.pair ≡ p = one_state pairs x.pair p at x.here h in
      subst (λ q. pair_step a b letters q bound ≡ moved left right letter) same (step_is a b letters left right x.pair bound letter x.left_is x.right_is within is)

  pub expand_none : moved left right letter ≡ None → Expanding a b letters old pairs origins at (bound + 1) left right
  expand_none none = record {
    pair = x.pair;
    here = x.here;
    left_is = x.left_is;
    right_is = x.right_is;
    traced = record {
      runs = x.traced.runs;
      are = x.traced.are;
      walked =
          goes_on (pair_step a b letters) start_pair pairs x.traced.runs (length letters) at bound x.traced.walked
          (λ s next h e. let f = leads s h in absurd (cc));
    };
    kept = x.kept;
  }

  pub expand_stood : (new : ℕ × List Bool) → moved left right letter ≡ Some new → (i : ℕ) → StateAt pairs i new → Expanding a b letters old pairs origins at (bound + 1) left right
  expand_stood new some i there = record {
    pair = x.pair;
    here = x.here;
    left_is = x.left_is;
    right_is = x.right_is;
    traced = record {
      runs = x.traced.runs;
      are = x.traced.are;
      walked =
          goes_on (pair_step a b letters) start_pair pairs x.traced.runs (length letters) at bound x.traced.walked
          (λ s next h e.
          let f = leads s h in
          let same : new ≡ next = cc in
          was_found (pair_step a b letters) start_pair pairs x.traced.runs (length letters) at bound x.traced.walked x.here.0 next i (subst (StateAt pairs i) same there));
    };
    kept = x.kept;
  }

  pub expand_new : (new : ℕ × List Bool) → moved left right letter ≡ Some new
      → Expanding a b letters old (pairs ++ new ∷ []) (origins ++ (record { from = at; letter = bound }) ∷ []) at (bound + 1) left right
  expand_new new some = record {
    pair = x.pair;
    here = at_front pairs new x.pair at x.here;
    left_is = x.left_is;
    right_is = x.right_is;
    traced = record {
      runs = x.traced.runs ++ (bound ∷ run_at x.traced.runs at) ∷ [];
      are = runs_grow origins x.traced.runs (record { from = at; letter = bound }) x.traced.are (omega (arith, x.here.0, x.traced.walked.same));
      walked =
          finds (pair_step a b letters) start_pair pairs x.traced.runs (length letters) at bound x.traced.walked x.here.0 x.pair new x.here
          (leads x.pair x.here ∙ some);
    };
    kept = λ i p h. at_front pairs new p i (x.kept i p h);
  }

  pub expand_noted : (new : ℕ × List Bool) (origin : Origin) (pairs2 : List (ℕ × List Bool)) (origins2 : List Origin) → moved left right letter ≡ Some new
      → origin.from ≡ at → origin.letter ≡ bound
      → IsNoted pairs origins new origin pairs2 origins2 → Expanding a b letters old pairs2 origins2 at (bound + 1) left right
  expand_noted new origin pairs2 origins2 some from by (inl h) =
      let known : Origin = record { from = at; letter = bound } in
      let same : known ≡ origin = ap (λ n. let o : Origin = record { from = n; letter = bound } in o) (sym from) ∙ ap (λ n. let o : Origin = record { from = origin.from; letter = n } in o) (sym by) in
      subst (λ ps. Expanding a b letters old ps origins2 at (bound + 1) left right) (sym h.0)
      (subst (λ os. Expanding a b letters old (pairs ++ new ∷ []) os at (bound + 1) left right) (ap (λ o. origins ++ o ∷ []) same ∙ sym h.1) (expand_new new some))
  expand_noted new origin pairs2 origins2 some from by (inr h) =
      subst (λ ps. Expanding a b letters old ps origins2 at (bound + 1) left right) (sym h.0)
      (subst (λ os. Expanding a b letters old pairs os at (bound + 1) left right) (sym h.1) (expand_stood new some h.2.0 (h.2.1, h.2.2)))

-- what a letter leads to was noted, if it leads anywhere
pub expand_by : (a b : SequenceType) (letters : List Letter) (old pairs : List (ℕ × List Bool)) (origins : List Origin) (at bound : ℕ) (left right : List Bool)
    → Expanding a b letters old pairs origins at bound left right → (letter : Letter) → bound < length letters → letter ≡ get_or letters bound letter
    → (found : Option (ℕ × List Bool)) (origin : Origin) (pairs2 : List (ℕ × List Bool)) (origins2 : List Origin) → moved left right letter ≡ found
    → origin.from ≡ at → origin.letter ≡ bound → IsNotedIfFound pairs origins found origin pairs2 origins2
    → Expanding a b letters old pairs2 origins2 at (bound + 1) left right
expand_by a b letters old pairs origins at bound left right x letter within is (Some new) origin pairs2 origins2 e from by h =
    expand_noted a b letters old pairs origins at bound left right x letter within is new origin pairs2 origins2 e from by h
expand_by a b letters old pairs origins at bound left right x letter within is None origin pairs2 origins2 e from by h =
    subst (λ ps. Expanding a b letters old ps origins2 at (bound + 1) left right) (sym h.0)
    (subst (λ os. Expanding a b letters old pairs os at (bound + 1) left right) (sym h.1) (expand_none a b letters old pairs origins at bound left right x letter within is e))

pub expand_ends : (a b : SequenceType) (letters : List Letter) (old pairs : List (ℕ × List Bool)) (origins : List Origin) (at bound : ℕ) (left right : List Bool)
    → Expanding a b letters old pairs origins at bound left right → bound ≡ length letters → Traced a b letters pairs origins (at + 1) 0
expand_ends a b letters old pairs origins at bound left right x e = record {
  runs = x.traced.runs;
  are = x.traced.are;
  walked =
      walks_on (pair_step a b letters) start_pair pairs x.traced.runs (length letters) at
      (subst (λ n. Walked (pair_step a b letters) start_pair pairs x.traced.runs (length letters) at n) e x.traced.walked);
}

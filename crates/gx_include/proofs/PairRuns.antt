-- What the pairs that runs lead to say of the two types.
use Rattle.std.proofs.Common.{◌≡◌, ℕ, zero, suc, Bool, true, false, ◌&&◌, not, List, [], ◌∷◌, ◌++◌, Option, None, Some, refl, sym, ◌∙◌, ap, subst, get_or, slice_get, append_assoc, ◌↔◌, if◌then◌else◌}
use Rattle.std.proofs.lemmas.Bool.{and_from, and_parts}
use Rattle.std.proofs.lemmas.List.{append-nil}
use Rattle.gx_types.specs.declared.shape.Shape.{Shape}
use Rattle.gx_types.specs.SchemaSet.{SchemaSet}
use Rattle.gx_types.specs.Takes.{Takes, EachShape}
use Rattle.gx_types.specs.SequenceType.{SequenceType}
use Rattle.gx_include_letters.specs.declared.letter.Letter.{Letter}
use Rattle.gx_include_positions.specs.Positions.{both_set}
use Rattle.gx_include_positions.specs.Step.{single, all_next, all_tests, step_over, is_end}
use Rattle.gx_include_positions.specs.Test.{is_taken}
use Rattle.gx_include.specs.Walk.{go_by, leads_to}
use Rattle.gx_include.specs.Pairs.{start_pair, moved_by, pair_step, is_bad}
use Rattle.gx_include.specs.Runs.{placed, place_step, shapes_of_letter, shapes_of, IsRefusedRun}
use Rattle.gx_include_letters.specs.WellFormed.{IsWellFormedShape}
use Rattle.gx_include.specs.Inclusion.{IsIncluded}
use Rattle.gx_include_letters.specs.Letters.{IsLetter, AreLetters, ServeAll}
use Rattle.gx_include_positions.proofs.SetReads.{Reads, reads_forward, reads_back, end_reads, reads_end, single_within, larger_reads, member_reads, start_reads, reads_start}

-- flags that are set in both lists

both_set_has : (xs ys : List Bool) (i : ℕ) → get_or xs i false ≡ true → get_or ys i false ≡ true → get_or (both_set xs ys) i false ≡ true
both_set_has [] ys i h k = absurd (cc)
both_set_has (x ∷ xs) [] i h k = absurd (cc)
both_set_has (x ∷ xs) (y ∷ ys) zero h k = and_from x y h k
both_set_has (x ∷ xs) (y ∷ ys) (suc i) h k = both_set_has xs ys i h k

pub both_set_parts : (xs ys : List Bool) (i : ℕ) → get_or (both_set xs ys) i false ≡ true → (get_or xs i false ≡ true) × (get_or ys i false ≡ true)
both_set_parts [] ys i h = absurd (cc)
both_set_parts (x ∷ xs) [] i h = absurd (cc)
both_set_parts (x ∷ xs) (y ∷ ys) zero h = and_parts x y h
both_set_parts (x ∷ xs) (y ∷ ys) (suc i) h = both_set_parts xs ys i h

-- steps

some_if : {X : Type 0} (g : Bool) (x y : X) → (if g then Some x else None) ≡ Some y → (g ≡ true) × (x ≡ y)
some_if true x y e = (refl, cc)
some_if false x y e = absurd (cc)

pub gone_by : {S : Type 0} (step : S → ℕ → Option S) (letter : ℕ) (before : Option S) (next : S) → go_by step letter before ≡ Some next
    → (s : S) × (before ≡ Some s) × (step s letter ≡ Some next)
gone_by step letter None next e = absurd (cc)
gone_by step letter (Some s) next e = (s, refl, e)

pub moved_parts : (left right : List Bool) (letter : Option Letter) (pair : ℕ × List Bool) → moved_by left right letter ≡ Some pair
    → (l : Letter) × (letter ≡ Some l) × (get_or left l.place false ≡ true) × ((l.place, both_set right l.takers) ≡ pair)
moved_parts left right None pair e = absurd (cc)
moved_parts left right (Some l) pair e = let p = some_if (get_or left l.place false) (l.place, both_set right l.takers) pair e in (l, refl, p.0, p.1)

placed_parts : (next : List Bool) (letter : Option Letter) (place : ℕ) → placed next letter ≡ Some place
    → (l : Letter) × (letter ≡ Some l) × (get_or next l.place false ≡ true) × (l.place ≡ place)
placed_parts next None place e = absurd (cc)
placed_parts next (Some l) place e = let p = some_if (get_or next l.place false) l.place place e in (l, refl, p.0, p.1)

module _ (s : SchemaSet) (a b : SequenceType) (letters : List Letter) where
  moves : (pair : ℕ × List Bool) (number : ℕ) (l : Letter) → slice_get letters number ≡ Some l → get_or (all_next a (single pair.0)) l.place false ≡ true
      → pair_step a b letters pair number ≡ Some (l.place, both_set (all_next b pair.1) l.takers)
  moves pair number l e f =
      ap (λ o. moved_by (all_next a (single pair.0)) (all_next b pair.1) o) e
      ∙ ap (λ (g : Bool). if g then Some (l.place, both_set (all_next b pair.1) l.takers) else None) f

  places : (place number : ℕ) (l : Letter) → slice_get letters number ≡ Some l → get_or (all_next a (single place)) l.place false ≡ true
      → place_step a letters place number ≡ Some l.place
  places place number l e f = ap (λ o. placed (all_next a (single place)) o) e ∙ ap (λ (g : Bool). if g then Some l.place else None) f

  -- what a run that leads to a pair says of both types
  pub record Along (run : List ℕ) (pair : ℕ × List Bool) : Type 0 where
    pub place : leads_to (place_step a letters) 0 run ≡ Some pair.0
    pub left : (rest : List Shape) → Reads s a (single pair.0) rest → Takes s a (shapes_of letters run ++ rest)
    pub right : (rest : List Shape) → Reads s b pair.1 rest ↔ Takes s b (shapes_of letters run ++ rest)

  along_none : Along [] start_pair
  along_none = record { place = refl; left = λ rest h. reads_start s a rest h; right = λ rest. (reads_start s b rest, start_reads s b rest) }

  one_shape : (run : List ℕ) (number : ℕ) (l : Letter) (rest : List Shape) → slice_get letters number ≡ Some l
      → shapes_of letters run ++ (l.shape ∷ rest) ≡ shapes_of letters (number ∷ run) ++ rest
  one_shape run number l rest e =
      sym (append_assoc (shapes_of letters run) (l.shape ∷ []) rest) ∙ ap (λ o. (shapes_of letters run ++ shapes_of_letter o) ++ rest) (sym e)

  left_goes : (place : ℕ) (l : Letter) (rest : List Shape) → IsLetter s a b l → get_or (all_next a (single place)) l.place false ≡ true
      → Reads s a (single l.place) rest → Reads s a (single place) (l.shape ∷ rest)
  left_goes place l rest is f h =
      reads_forward s l.shape a (single place) rest is.left
      (larger_reads s a (single l.place) (step_over a (is_taken s l.shape) (single place))
      (single_within l.place (step_over a (is_taken s l.shape) (single place)) (both_set_has (all_next a (single place)) (all_tests a (is_taken s l.shape)) l.place f is.taken)) rest h)

  right_is : (set : List Bool) (l : Letter) → IsLetter s a b l → both_set (all_next b set) l.takers ≡ step_over b (is_taken s l.shape) set
  right_is set l is = ap (λ xs. both_set (all_next b set) xs) is.takers

  right_goes : (set : List Bool) (l : Letter) (rest : List Shape) → IsLetter s a b l → Reads s b (both_set (all_next b set) l.takers) rest ↔ Reads s b set (l.shape ∷ rest)
  right_goes set l rest is = (
    λ h. reads_forward s l.shape b set rest is.right (subst (λ xs. Reads s b xs rest) (right_is set l is) h),
    λ h. subst (λ xs. Reads s b xs rest) (sym (right_is set l is)) (reads_back s l.shape b set rest is.right h),
  )

  along_more : (run : List ℕ) (pair : ℕ × List Bool) (number : ℕ) (l : Letter) → Along run pair → IsLetter s a b l → slice_get letters number ≡ Some l
      → get_or (all_next a (single pair.0)) l.place false ≡ true → Along (number ∷ run) (l.place, both_set (all_next b pair.1) l.takers)
  along_more run pair number l x is e f = record {
    place = ap (λ o. go_by (place_step a letters) number o) x.place ∙ places pair.0 number l e f;
    left = λ rest h. subst (λ xs. Takes s a xs) (one_shape run number l rest e) (x.left (l.shape ∷ rest) (left_goes pair.0 l rest is f h));
    right = λ rest. (
      λ h. subst (λ xs. Takes s b xs) (one_shape run number l rest e) ((x.right (l.shape ∷ rest)).0 ((right_goes pair.1 l rest is).0 h)),
      λ h. (right_goes pair.1 l rest is).1 ((x.right (l.shape ∷ rest)).1 (subst (λ xs. Takes s b xs) (sym (one_shape run number l rest e)) h)),
    );
  }

  along : AreLetters s a b letters → (run : List ℕ) (pair : ℕ × List Bool) → leads_to (pair_step a b letters) start_pair run ≡ Some pair → Along run pair
  along are [] pair e = let is : start_pair ≡ pair = cc in subst (Along []) is along_none
  along are (number ∷ run) pair e =
      let g = gone_by (pair_step a b letters) number (leads_to (pair_step a b letters) start_pair run) pair e in
      let m = moved_parts (all_next a (single g.0.0)) (all_next b g.0.1) (slice_get letters number) pair g.2 in
      subst (Along (number ∷ run)) m.3 (along_more run g.0 number m.0 (along are run g.0 g.1) (are number m.0 m.1) m.1 m.2)

  -- a run along the positions leads to a pair
  pair_of_run : (run : List ℕ) (place : ℕ) → leads_to (place_step a letters) 0 run ≡ Some place
      → (set : List Bool) × (leads_to (pair_step a b letters) start_pair run ≡ Some (place, set))
  pair_of_run [] place e = let is : 0 ≡ place = cc in (single 0, ap (λ n. let p : ℕ × List Bool = (n, single 0) in Some p) is)
  pair_of_run (number ∷ run) place e =
      let g = gone_by (place_step a letters) number (leads_to (place_step a letters) 0 run) place e in
      let m = placed_parts (all_next a (single g.0)) (slice_get letters number) place g.2 in
      let q = pair_of_run run g.0 g.1 in (
        both_set (all_next b q.0) m.0.takers,
        ap (λ o. go_by (pair_step a b letters) number o) q.1 ∙ moves (g.0, q.0) number m.0 m.1 m.2
            ∙ ap (λ n. let p : ℕ × List Bool = (n, both_set (all_next b q.0) m.0.takers) in Some p) m.3,
      )

  -- a bad pair

  not_true : (x : Bool) → not x ≡ true → x ≡ true → ⊥
  not_true true h k = absurd (cc)
  not_true false h k = absurd (cc)

  pub bad_is_refused : AreLetters s a b letters → (run : List ℕ) (pair : ℕ × List Bool) → leads_to (pair_step a b letters) start_pair run ≡ Some pair → is_bad a b pair ≡ true
      → IsRefusedRun s a b letters run
  bad_is_refused are run pair e bad =
      let x = along are run pair e in
      let p = and_parts (is_end a (single pair.0)) (not (is_end b pair.1)) bad in (
        (pair.0, x.place, p.0),
        λ h. not_true (is_end b pair.1) p.1 (reads_end s b pair.1 ((x.right []).1 (subst (λ xs. Takes s b xs) (sym (append-nil (shapes_of letters run))) h))),
      )

  pub bad_is_taken : AreLetters s a b letters → (run : List ℕ) (pair : ℕ × List Bool) → leads_to (pair_step a b letters) start_pair run ≡ Some pair → is_bad a b pair ≡ true
      → Takes s a (shapes_of letters run)
  bad_is_taken are run pair e bad =
      let x = along are run pair e in
      let p = and_parts (is_end a (single pair.0)) (not (is_end b pair.1)) bad in
      subst (λ xs. Takes s a xs) (append-nil (shapes_of letters run)) (x.left [] (end_reads s a (single pair.0) p.0))

  true_from : (x : Bool) → (x ≡ true → ⊥) → not x ≡ true
  true_from true h = absurd (h refl)
  true_from false h = refl

  pub refused_is_bad : AreLetters s a b letters → (run : List ℕ) → IsRefusedRun s a b letters run
      → (pair : ℕ × List Bool) × (leads_to (pair_step a b letters) start_pair run ≡ Some pair) × (is_bad a b pair ≡ true)
  refused_is_bad are run r =
      let q = pair_of_run run r.0.0 r.0.1 in
      let x = along are run (r.0.0, q.0) q.1 in (
        (r.0.0, q.0),
        q.1,
        and_from (is_end a (single r.0.0)) (not (is_end b q.0)) r.0.2
            (true_from (is_end b q.0) (λ h. r.1 (subst (λ xs. Takes s b xs) (append-nil (shapes_of letters run)) ((x.right []).0 (end_reads s b q.0 h))))),
      )

  -- where no pair is bad

  good_end : (x y : Bool) → (x && not y) ≡ false → x ≡ true → y ≡ true
  good_end true true h k = refl
  good_end true false h k = absurd (cc)
  good_end false y h k = absurd (cc)

  abbrev pub NoneBad : Type 0
  NoneBad = (run : List ℕ) (pair : ℕ × List Bool) → leads_to (pair_step a b letters) start_pair run ≡ Some pair → is_bad a b pair ≡ false

  follows_on : ServeAll s a b letters → NoneBad → (list : List Shape) → EachShape (IsWellFormedShape s) list → (run : List ℕ) (pair : ℕ × List Bool)
      → leads_to (pair_step a b letters) start_pair run ≡ Some pair → Reads s a (single pair.0) list → Reads s b pair.1 list
  follows_on all none [] wf run pair e h =
      end_reads s b pair.1 (good_end (is_end a (single pair.0)) (is_end b pair.1) (none run pair e) (reads_end s a (single pair.0) h))
  follows_on all none (x ∷ list) wf run pair e h =
      let q = member_reads s a (step_over a (is_taken s x) (single pair.0)) list (reads_back s x a (single pair.0) list (all.left x wf.0) h) in
      let p = both_set_parts (all_next a (single pair.0)) (all_tests a (is_taken s x)) q.0 q.1 in
      let z = all.stands x wf.0 q.0 p.1 in
      let next : ℕ × List Bool = (z.letter.place, both_set (all_next b pair.1) z.letter.takers) in
      let leads : leads_to (pair_step a b letters) start_pair (z.number ∷ run) ≡ Some next =
      ap (λ o. go_by (pair_step a b letters) z.number o) e ∙ moves pair z.number z.letter z.here (subst (λ n. get_or (all_next a (single pair.0)) n false ≡ true) (sym z.at) p.0) in
      let r = follows_on all none list wf.1 (z.number ∷ run) next leads (subst (λ n. Reads s a (single n) list) (sym z.at) q.2) in
      reads_forward s x b pair.1 list (all.right x wf.0) (subst (λ xs. Reads s b (both_set (all_next b pair.1) xs) list) z.alike r)

  pub none_bad_included : ServeAll s a b letters → NoneBad → IsIncluded s a b
  none_bad_included all none list wf h = reads_start s b list (follows_on all none list wf [] start_pair refl (start_reads s a list h))

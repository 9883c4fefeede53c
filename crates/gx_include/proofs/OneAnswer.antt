-- There is one answer on two types.
use Rattle.std.proofs.Common.{◌≡◌, ℕ, ◌+◌, ◌<◌, Bool, true, false, cond, List, [], ◌∷◌, ◌++◌, inl, inr, Option, None, Some, refl, sym, ◌∙◌, ap, subst, get_or, map, slice_get, option_map, arith}
use mathlib.Core.Path.{fun_ext}
use Rattle.std.proofs.lemmas.Bool.{cases_lt}
use Rattle.std.proofs.lemmas.Option.{slice_get-map}
use Rattle.gx_base.specs.declared.name.Name.{Name}
use Rattle.gx_types.specs.declared.shape.Shape.{Shape}
use Rattle.gx_types.specs.SchemaSet.{SchemaSet}
use Rattle.gx_types.specs.SequenceType.{SequenceType}
use Rattle.gx_types.specs.Takes.{Takes}
use Rattle.gx_types.specs.TypeRules.{positions_of}
use Rattle.gx_include_letters.specs.declared.letter.Letter.{Letter}
use Rattle.gx_include.specs.declared.verdict.Verdict.{Verdict}
use Rattle.gx_include.specs.declared.verdict.Verdict.TheVariants.{Yes, No}
use Rattle.gx_include_letters.specs.Alphabet.{LetterEntry, entry_of_letter, entries_below, IsAlphabet}
use Rattle.gx_include.specs.Answer.{IsAnswer, ReachesTooManyPairs}
use Rattle.gx_include_letters.specs.WellFormed.{plain_types}
use Rattle.gx_include.specs.Laws.{IsSameVerdict, AnswersAreOne, TooManyPairsExcludeVerdicts}
use Rattle.gx_include.specs.Pairs.{start_pair, moved_by, pair_step}
use Rattle.gx_include_positions.specs.Positions.{both_set}
use Rattle.gx_include.specs.Runs.{placed, place_step, shapes_of_letter, shapes_of, IsRefusedRun}
use Rattle.gx_include_positions.specs.Step.{single, all_next}
use Rattle.gx_include_positions.specs.Names.{with_names, is_named}
use Rattle.gx_include_letters.specs.Trials.{other_name, IsOther, trial_shapes}
use Rattle.gx_include.specs.Verdict.{IsWithin, IsPast}
use Rattle.gx_include.specs.Walk.{leads_to, NotAfter}
use Rattle.gx_include.proofs.Counts.{past_is_not_within}
use Rattle.gx_include.proofs.Walks.{before_trans, before_itself}
use Rattle.gx_include.proofs.WellFormed.{no_excludes_inclusion}

-- the name that no list has is one
not_before : (names : List Name) (x y : Name) (h : IsOther names x) (k : IsOther names y) → h.number < k.number → ⊥
not_before names x y h k lt =
    let known : is_named names x ≡ true = ap (is_named names) h.is ∙ k.before h.number lt in
    let unknown : is_named names x ≡ false = h.new in
    cc

one_other : (names : List Name) (x y : Name) → IsOther names x → IsOther names y → x ≡ y
one_other names x y h k =
    elim (cases_lt h.number k.number) [
      | inl lt ↦ absurd (not_before names x y h k lt)
      | inr le ↦ elim (cases_lt k.number h.number) [
        | inl lt ↦ absurd (not_before names y x k h lt)
        | inr ge ↦ let same : h.number ≡ k.number = omega arith in h.is ∙ ap other_name same ∙ sym k.is
      ]
    ]

-- what a letter does is said by its entry
moved_entry : (left right : List Bool) → Option LetterEntry → Option (ℕ × List Bool)
moved_entry left right None = None
moved_entry left right (Some entry) = cond (get_or left entry.0 false) (Some (entry.0, both_set right entry.2)) None

moved_as : (left right : List Bool) (o : Option Letter) → moved_by left right o ≡ moved_entry left right (option_map entry_of_letter o)
unfolding moved_entry
moved_as left right None = refl
moved_as left right (Some letter) = refl

placed_entry : List Bool → Option LetterEntry → Option ℕ
placed_entry next None = None
placed_entry next (Some entry) = cond (get_or next entry.0 false) (Some entry.0) None

placed_as : (next : List Bool) (o : Option Letter) → placed next o ≡ placed_entry next (option_map entry_of_letter o)
unfolding placed_entry
placed_as next None = refl
placed_as next (Some letter) = refl

shape_entry : Option LetterEntry → List Shape
shape_entry None = []
shape_entry (Some entry) = entry.1 ∷ []

shape_as : (o : Option Letter) → shapes_of_letter o ≡ shape_entry (option_map entry_of_letter o)
unfolding shape_entry
shape_as None = refl
shape_as (Some letter) = refl

-- alphabets with the same entries do the same
module _ (s : SchemaSet) (a b : SequenceType) (L M : List Letter) (same : map entry_of_letter L ≡ map entry_of_letter M) where
  got : (n : ℕ) → option_map entry_of_letter (slice_get L n) ≡ option_map entry_of_letter (slice_get M n)
  got n = sym (slice_get-map entry_of_letter L n) ∙ ap (λ (es : List LetterEntry). slice_get es n) same ∙ slice_get-map entry_of_letter M n

  same_pairs : pair_step a b L ≡ pair_step a b M
  same_pairs =
      fun_ext (λ (pair : ℕ × List Bool). fun_ext (λ (n : ℕ).
      moved_as (all_next a (single pair.0)) (all_next b pair.1) (slice_get L n) ∙ ap (moved_entry (all_next a (single pair.0)) (all_next b pair.1)) (got n)
      ∙ sym (moved_as (all_next a (single pair.0)) (all_next b pair.1) (slice_get M n))))

  same_number_sets : place_step a L ≡ place_step a M
  same_number_sets =
      fun_ext (λ (place : ℕ). fun_ext (λ (n : ℕ).
      placed_as (all_next a (single place)) (slice_get L n) ∙ ap (placed_entry (all_next a (single place))) (got n) ∙ sym (placed_as (all_next a (single place)) (slice_get M n))))

  pub same_shapes : (run : List ℕ) → shapes_of L run ≡ shapes_of M run
  same_shapes [] = refl
  same_shapes (n ∷ run) =
      ap (λ (xs : List Shape). xs ++ shapes_of_letter (slice_get L n)) (same_shapes run)
      ∙ ap (λ (xs : List Shape). shapes_of M run ++ xs) (shape_as (slice_get L n) ∙ ap shape_entry (got n) ∙ sym (shape_as (slice_get M n)))

  pub past_as : (limit : Option ℕ) → IsPast a b L limit → IsPast a b M limit
  past_as limit p = record {
    pairs = p.pairs;
    many = p.many;
    different = p.different;
    reached = λ i pair h.
        let r = p.reached i pair h in
        (r.0, ap (λ (step : ℕ × List Bool → ℕ → Option (ℕ × List Bool)). leads_to step start_pair r.0) (sym same_pairs) ∙ r.1);
  }

  pub refused_as : (run : List ℕ) → IsRefusedRun s a b L run → IsRefusedRun s a b M run
  refused_as run r = (
    (r.0.0, ap (λ (step : ℕ → ℕ → Option ℕ). leads_to step 0 run) (sym same_number_sets) ∙ r.0.1, r.0.2),
    λ taken. r.1 (subst (Takes s b) (sym (same_shapes run)) taken),
  )

not_after_both : (u v : List ℕ) → NotAfter u v → NotAfter v u → u ≡ v
not_after_both u v (inl e) k = e
not_after_both u v (inr h) (inl e) = sym e
not_after_both u v (inr h) (inr k) = absurd (before_itself u (before_trans u v u h k))

module _ (s : SchemaSet) (a b : SequenceType) (limit : Option ℕ) where
  same_entries : (L M : List Letter) → IsAlphabet s a b L → IsAlphabet s a b M → map entry_of_letter L ≡ map entry_of_letter M
  same_entries L M h k =
      let names = with_names (with_names [] a) b in
      h.are ∙ ap (λ (o : Name). entries_below s a b (trial_shapes (plain_types s) (names ++ o ∷ [])) (positions_of a + 1)) (one_other names h.other k.other h.fresh k.fresh) ∙ sym k.are

  past_or_within : (L M : List Letter) → IsAlphabet s a b L → IsAlphabet s a b M → IsPast a b L limit → IsWithin a b M limit → ⊥
  past_or_within L M h k past within = past_is_not_within a b M limit (past_as s a b L M (same_entries L M h k) limit past) within

  pub one_answer : (v w : Verdict) → IsAnswer s a b limit v → IsAnswer s a b limit w → IsSameVerdict v w
  one_answer Yes Yes h k = tt
  one_answer Yes (No list) h k = absurd (no_excludes_inclusion s a b limit (No list) k tt h.verdict_is.0)
  one_answer (No list) Yes h k = absurd (no_excludes_inclusion s a b limit (No list) h tt k.verdict_is.0)
  one_answer (No list) (No other) h k =
      let same = same_entries h.letters k.letters h.alphabet k.alphabet in
      let back = same_entries k.letters h.letters k.alphabet h.alphabet in
      let one = h.verdict_is.1 in
      let two = k.verdict_is.1 in
      let runs : one.0 ≡ two.0 = not_after_both one.0 two.0 (one.2.first.1 two.0 (refused_as s a b k.letters h.letters back two.0 two.2.first.0))
      (two.2.first.1 one.0 (refused_as s a b h.letters k.letters same one.0 one.2.first.0)) in
      one.1 ∙ ap (shapes_of h.letters) runs ∙ same_shapes s a b h.letters k.letters same two.0 ∙ sym two.1

  pub too_many : (verdict : Verdict) → ReachesTooManyPairs s a b limit → IsAnswer s a b limit verdict → ⊥
  too_many Yes h k = past_or_within h.letters k.letters h.alphabet k.alphabet h.past k.verdict_is.1
  too_many (No list) h k = past_or_within h.letters k.letters h.alphabet k.alphabet h.past k.verdict_is.0

pub answers_are_one : AnswersAreOne
answers_are_one s a b limit v w h k = one_answer s a b limit v w h k

pub too_many_pairs_exclude_verdicts : TooManyPairsExcludeVerdicts
too_many_pairs_exclude_verdicts s a b limit verdict h k = too_many s a b limit verdict h k

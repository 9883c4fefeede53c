-- There is one judgement on the restrictions of schemas.
use Rattle.std.proofs.Common.{◌≡◌, ℕ, ◌<◌, Bool, List, inl, inr, Option, Some, sym, ◌∙◌, ap, subst, length, slice_get, unwrap_or, is_some, arith, [], ◌∷◌}
use Rattle.std.proofs.lemmas.Bool.{cases_lt, false≢true}
use Rattle.std.proofs.lemmas.Option.{slice_get_within}
use Rattle.gx_types.specs.declared.declaration.AttributeUse.{AttributeUse}
use Rattle.gx_types.specs.declared.declaration.Declared.{Declared}
use Rattle.gx_types.specs.declared.shape.Shape.{Shape}
use Rattle.gx_types.specs.declared.shape.Shape.TheVariants as shapes
use Rattle.gx_types.specs.SchemaSet.{SchemaSet, declaration_of}
use Rattle.gx_include.specs.declared.verdict.Verdict.{Verdict}
use Rattle.gx_include.specs.declared.verdict.Verdict.TheVariants.{Yes, No}
use Rattle.gx_include.specs.Laws.{AnswersAreOne, IsSameVerdict, TooManyPairsExcludeVerdicts}
use Rattle.gx_schema_restriction.specs.declared.restrictions.Restrictions.{Restrictions}
use Rattle.gx_schema_restriction.specs.declared.restrictions.Restrictions.TheVariants.{Sound, Unsound, Undecided}
use Rattle.gx_schema_restriction.specs.Laws.{JudgementsAreOne, IsSameJudgement}
use Rattle.gx_schema_restriction.specs.Restriction.{AreUsesJudged, IsContentVerdict, IsNotYes, IsRestriction, IsUndecided, children_in, children_of_base}
use Rattle.gx_schema_restriction.specs.Restrictions.{AreJudged, AreSoundBelow, IsJudgedAt, IsUndecidedAt}

abbrev shape_of : AttributeUse → List Shape
shape_of given = shapes.Attr given.name given.kind ∷ []

-- of attributes there is one verdict
uses_are_one : (fault : Option AttributeUse) (one other : Verdict) → AreUsesJudged fault one → AreUsesJudged fault other → IsSameVerdict one other
uses_are_one fault Yes Yes h k = tt
uses_are_one fault Yes (No list) h k = false≢true (ap is_some (sym h ∙ k.1))
uses_are_one fault (No list) Yes h k = false≢true (ap is_some (sym k ∙ h.1))
uses_are_one fault (No list) (No other) h k = h.2 ∙ ap (λ found. shape_of (unwrap_or found h.0)) (sym h.1 ∙ k.1) ∙ sym k.2

module _ (one_answer : AnswersAreOne) (excluded : TooManyPairsExcludeVerdicts) (schemas : SchemaSet) (pairs : ℕ) where
  contents_are_one : (declared : Declared) (one other : Verdict) → IsContentVerdict schemas pairs declared one → IsContentVerdict schemas pairs declared other → IsSameVerdict one other
  contents_are_one declared one other h k =
      one_answer schemas (children_in declared.content) (children_of_base (declaration_of schemas declared.base)) (Some pairs) one other h k

  -- a refused content is not included
  not_included : (declared : Declared) (one other : Verdict) → IsNotYes one → IsContentVerdict schemas pairs declared one → IsContentVerdict schemas pairs declared Yes → IsSameVerdict one other
  not_included declared Yes other r h k = absurd r
  not_included declared (No list) other r h k = absurd (contents_are_one declared (No list) Yes h k)

  included_not : (declared : Declared) (one other : Verdict) → IsNotYes other → IsContentVerdict schemas pairs declared other → IsContentVerdict schemas pairs declared Yes → IsSameVerdict one other
  included_not declared one Yes r h k = absurd r
  included_not declared one (No list) r h k = absurd (contents_are_one declared (No list) Yes h k)

  verdicts_are_one : (declared : Declared) (one other : Verdict) → IsRestriction schemas pairs declared one → IsRestriction schemas pairs declared other → IsSameVerdict one other
  verdicts_are_one declared one other (inl h) (inl k) = contents_are_one declared one other h.1 k.1
  verdicts_are_one declared one other (inl h) (inr k) = not_included declared one other h.0 h.1 k.0
  verdicts_are_one declared one other (inr h) (inl k) = included_not declared one other k.0 k.1 h.0
  verdicts_are_one declared one other (inr h) (inr k) = uses_are_one _ one other h.1 k.1

  -- a type that is not decided has no verdict
  no_verdict : (declared : Declared) (verdict : Verdict) → IsUndecided schemas pairs declared → IsRestriction schemas pairs declared verdict → ⊥
  no_verdict declared verdict many (inl h) = excluded schemas (children_in declared.content) (children_of_base (declaration_of schemas declared.base)) (Some pairs) verdict many h.1
  no_verdict declared verdict many (inr h) = excluded schemas (children_in declared.content) (children_of_base (declaration_of schemas declared.base)) (Some pairs) Yes many h.0

  module _ (restricted : List Bool) where
    -- a type below sound ones has the verdict Yes
    sound_at : (bound number : ℕ) (verdict : Verdict) → AreSoundBelow schemas pairs restricted bound → number < bound → IsJudgedAt schemas pairs restricted number verdict → IsSameVerdict Yes verdict
    sound_at bound number verdict sound l h = verdicts_are_one h.0 Yes verdict (sound number h.0 l h.1 h.2) h.3

    -- a type below sound ones is decided
    decided_at : (bound number : ℕ) → AreSoundBelow schemas pairs restricted bound → number < bound → IsUndecidedAt schemas pairs restricted number → ⊥
    decided_at bound number sound l h = no_verdict h.0 Yes h.3 (sound number h.0 l h.1 h.2)

    sound_everywhere : (number : ℕ) (verdict : Verdict) → AreSoundBelow schemas pairs restricted (length schemas.types) → IsJudgedAt schemas pairs restricted number verdict → IsSameVerdict Yes verdict
    sound_everywhere number verdict sound h = sound_at (length schemas.types) number verdict sound (slice_get_within schemas.types number h.0 h.1) h

    -- two verdicts at one type
    same_at : (number other_number : ℕ) (verdict other : Verdict) → number ≡ other_number → IsJudgedAt schemas pairs restricted number verdict
        → IsJudgedAt schemas pairs restricted other_number other → IsSameVerdict verdict other
    same_at number other_number verdict other same h k =
        verdicts_are_one k.0 verdict other
        (subst (λ (d : Declared). IsRestriction schemas pairs d verdict) (ap (λ found. unwrap_or found h.0) (sym h.1 ∙ ap (λ n. slice_get schemas.types n) same ∙ k.1)) h.3) k.3

    -- the verdict at one type and that it is not decided exclude each other
    not_both : (number other_number : ℕ) (verdict : Verdict) → number ≡ other_number → IsJudgedAt schemas pairs restricted number verdict → IsUndecidedAt schemas pairs restricted other_number → ⊥
    not_both number other_number verdict same h k =
        no_verdict k.0 verdict k.3
        (subst (λ (d : Declared). IsRestriction schemas pairs d verdict) (ap (λ found. unwrap_or found h.0) (sym h.1 ∙ ap (λ n. slice_get schemas.types n) same ∙ k.1)) h.3)

    -- the first type that is not sound, or not decided, is one
    same_place : (number other_number : ℕ) → (number < other_number → ⊥) → (other_number < number → ⊥) → number ≡ other_number
    same_place number other_number before behind =
        elim (cases_lt number other_number) [
          | inl less ↦ absurd (before less)
          | inr not_less ↦
              elim (cases_lt other_number number) [
                | inl less ↦ absurd (behind less)
                | inr same ↦ omega arith
              ]
        ]

    judged_once : (one other : Restrictions) → AreJudged schemas pairs restricted one → AreJudged schemas pairs restricted other → IsSameJudgement one other
    judged_once Sound Sound h k = tt
    judged_once Sound (Unsound number list) h k = sound_everywhere number (No list) h k.1
    judged_once Sound (Undecided number) h k = decided_at (length schemas.types) number h (slice_get_within schemas.types number k.1.0 k.1.1) k.1
    judged_once (Unsound number list) Sound h k = sound_everywhere number (No list) k h.1
    judged_once (Undecided number) Sound h k = decided_at (length schemas.types) number k (slice_get_within schemas.types number h.1.0 h.1.1) h.1
    judged_once (Unsound number list) (Unsound other others) h k =
        let same : number ≡ other = same_place number other (λ less. sound_at other number (No list) k.0 less h.1) (λ less. sound_at number other (No others) h.0 less k.1) in
        (same, same_at number other (No list) (No others) same h.1 k.1)
    judged_once (Undecided number) (Undecided other) h k = same_place number other (λ less. decided_at other number k.0 less h.1) (λ less. decided_at number other h.0 less k.1)
    judged_once (Unsound number list) (Undecided other) h k =
        not_both number other (No list) (same_place number other (λ less. sound_at other number (No list) k.0 less h.1) (λ less. decided_at number other h.0 less k.1)) h.1 k.1
    judged_once (Undecided number) (Unsound other others) h k =
        not_both other number (No others) (same_place other number (λ less. sound_at number other (No others) h.0 less k.1) (λ less. decided_at other number k.0 less h.1)) k.1 h.1

pub judgements_are_one : AnswersAreOne → TooManyPairsExcludeVerdicts → JudgementsAreOne
judgements_are_one one_answer excluded schemas pairs restricted one other h k = judged_once one_answer excluded schemas pairs restricted one other h k

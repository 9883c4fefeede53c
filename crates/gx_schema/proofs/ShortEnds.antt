-- Where each declaration that is named is there, and none stands on a circle, ways take fewer steps than there are declarations.
use Rattle.std.proofs.Common.{◌≡◌, ℕ, zero, suc, ◌<◌, inl, inr, Bool, true, false, List, length, Option, Some, sym, ◌∙◌, subst, ap, arith}
use Rattle.std.proofs.Math.ListN.{set, length-set}
use Rattle.std.proofs.lemmas.Bool.{true≢false, cases_Bool}
use Rattle.gx_schema_simple.specs.Circles.{named_next, ComesTo, directly, StandsOnCircle}
use Rattle.gx_schema_simple.specs.Ends.{none_or_passes, ends_by_steps}
use Rattle.gx_schema_simple.specs.Walk.{has_mark}
use Rattle.gx_schema_simple.proofs.CircleLemmas.{leads_on}
use Rattle.gx_schema_simple.proofs.Marks.{set_entry, unmarked, unmarked-set, no_marks, length-no_marks, unmarked-no_marks, has_mark-no_marks}
use Rattle.gx_schema_simple.proofs.ShortCircles.{next_or_none}

-- no declaration stands on a circle
abbrev pub IsStraight : List (Option ℕ) → Type 0
IsStraight bases = (number : ℕ) → StandsOnCircle bases number → ⊥

-- each declaration that is named is there
abbrev pub NamesWithin : List (Option ℕ) → Type 0
NamesWithin bases = (number next : ℕ) → named_next bases number ≡ Some next → next < length bases

-- all declarations that were passed lead to one
abbrev LeadTo : List (Option ℕ) → (passed : List Bool) → ℕ → Type 0
LeadTo bases passed to = (number : ℕ) → has_mark passed number ≡ true → ComesTo bases number to

unpassed : (bases : List (Option ℕ)) (passed : List Bool) (from : ℕ) → IsStraight bases → LeadTo bases passed from → has_mark passed from ≡ false
unpassed bases passed from straight lead = elim (cases_Bool (has_mark passed from)) [
  | inl is_so ↦ absurd (straight from (lead from is_so))
  | inr is_not ↦ is_not
]

lead_on : (bases : List (Option ℕ)) (passed : List Bool) (from next : ℕ) → from < length passed → LeadTo bases passed from → named_next bases from ≡ Some next → LeadTo bases (set passed from true) next
lead_on bases passed from next within lead here number is_so = elim (set_entry passed from true false number within) [
  | inl (same, _) ↦ subst (λ (n : ℕ). ComesTo bases n next) (sym same) (directly here)
  | inr there ↦ leads_on bases number from next (lead number (sym there ∙ is_so)) (directly here)
]

ends_ahead : (bases : List (Option ℕ)) (passed : List Bool) (steps from : ℕ) → IsStraight bases → NamesWithin bases → length passed ≡ length bases → unmarked passed ≡ suc steps → from < length bases → LeadTo bases passed from →
    ends_by_steps bases steps from ≡ true
ends_ahead bases passed zero from straight within sized count there lead = elim (next_or_none (named_next bases from)) [
  | inl none ↦ ap (none_or_passes (λ next. false)) none
  | inr (next, here) ↦
      let inside : from < length passed = omega arith in
      let last = unmarked-set passed from inside (unpassed bases passed from straight lead) in
      let inside_next : next < length (set passed from true) = let size = length-set passed from true in let small = within from next here in omega arith in
      let fewer = unmarked-set (set passed from true) next inside_next (unpassed bases (set passed from true) next straight (lead_on bases passed from next inside lead here)) in
      absurd (omega arith)
]
ends_ahead bases passed (suc steps) from straight within sized count there lead = elim (next_or_none (named_next bases from)) [
  | inl none ↦ ap (none_or_passes (ends_by_steps bases steps)) none
  | inr (next, here) ↦
      let inside : from < length passed = omega arith in
      let fewer = unmarked-set passed from inside (unpassed bases passed from straight lead) in
      ap (none_or_passes (ends_by_steps bases steps)) here
      ∙ ends_ahead bases (set passed from true) steps next straight within (length-set passed from true ∙ sized) (omega arith) (within from next here) (lead_on bases passed from next inside lead here)
]

pub ends_in_fewer : (bases : List (Option ℕ)) (steps number : ℕ) → IsStraight bases → NamesWithin bases → length bases ≡ suc steps → number < length bases → ends_by_steps bases steps number ≡ true
ends_in_fewer bases steps number straight within size there =
    ends_ahead bases (no_marks bases) steps number straight within (length-no_marks bases) (unmarked-no_marks bases ∙ size) there
    (λ n is_so. absurd (true≢false (sym is_so ∙ has_mark-no_marks bases n)))

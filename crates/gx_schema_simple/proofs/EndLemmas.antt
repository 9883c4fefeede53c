-- Without circles all ways end.
use Rattle.std.proofs.Common.{◌≡◌, ℕ, zero, suc, ◌<◌, ◌≤◌, ◌+◌, inl, inr, Bool, true, false, List, [], ◌∷◌, length, Option, None, Some, refl, sym, ◌∙◌, subst, ap, arith}
use Rattle.std.proofs.Math.ListN.{set, length-set}
use Rattle.std.proofs.lemmas.Bool.{true≢false, cases_Bool, cases_lt}
use Rattle.std.proofs.lemmas.List.{length-map}
use Rattle.std.specs.Prelude.{if◌then◌else◌}
use Rattle.gx_schema_simple.specs.Circles.{named_next, ComesTo, directly, through, StandsOnCircle, is_circular}
use Rattle.gx_schema_simple.specs.CircularTypes.{first_circular_from, HasNoCircle}
use Rattle.gx_schema_simple.specs.Ends.{none_or_passes, ends_by_steps, EndSoon}
use Rattle.gx_schema_simple.specs.Forms.{followed_bases, followed_of, reference_of, references_of}
use Rattle.gx_schema_simple.specs.Laws.{NoneIsCircular, TypesEnd}
use Rattle.gx_schema_simple.specs.Walk.{has_mark}
use Rattle.gx_schema_simple.specs.declared.type_form.TypeForm.{TypeForm}
use Rattle.gx_schema_simple.specs.declared.type_form.TypeForm.TheVariants as forms
use Rattle.gx_schema_simple.proofs.CircleLemmas.{begins, leads_on, within_by_next}
use Rattle.gx_schema_simple.proofs.Marks.{set_entry, unmarked, unmarked-set, no_marks, length-no_marks, unmarked-no_marks, has_mark-no_marks}
use Rattle.gx_schema_simple.proofs.ShortCircles.{circles_are_short, next_or_none}

-- ---- ways end

-- the declarations that were passed lead to the one that is looked at
ends_ahead : (bases : List (Option ℕ)) (passed : List Bool) (steps from : ℕ) → ((n : ℕ) → StandsOnCircle bases n → ⊥) → length passed ≡ length bases → unmarked passed ≡ steps →
    ((n : ℕ) → has_mark passed n ≡ true → ComesTo bases n from) → ends_by_steps bases steps from ≡ true
ends_ahead bases passed zero from straight sized count lead = elim (next_or_none (named_next bases from)) [
  | inl none ↦ ap (none_or_passes (λ next. false)) none
  | inr (next, here) ↦ elim (cases_Bool (has_mark passed from)) [
    | inl is_so ↦ absurd (straight from (lead from is_so))
    | inr is_not ↦
        let within : from < length passed = let w = within_by_next bases from next here in omega arith in
        let fewer = unmarked-set passed from within is_not in
        absurd (omega arith)
  ]
]
ends_ahead bases passed (suc steps) from straight sized count lead = elim (next_or_none (named_next bases from)) [
  | inl none ↦ ap (none_or_passes (ends_by_steps bases steps)) none
  | inr (next, here) ↦ elim (cases_Bool (has_mark passed from)) [
    | inl is_so ↦ absurd (straight from (lead from is_so))
    | inr is_not ↦
        let within : from < length passed = let w = within_by_next bases from next here in omega arith in
        let fewer = unmarked-set passed from within is_not in
        let lead_on : ((n : ℕ) → has_mark (set passed from true) n ≡ true → ComesTo bases n next) = λ n is_so. elim (set_entry passed from true false n within) [
          | inl (same, _) ↦ subst (λ (m : ℕ). ComesTo bases m next) (sym same) (directly here)
          | inr there ↦ leads_on bases n from next (lead n (sym there ∙ is_so)) (directly here)
        ] in
        ap (none_or_passes (ends_by_steps bases steps)) here ∙ ends_ahead bases (set passed from true) steps next straight (length-set passed from true ∙ sized) (omega arith) lead_on
  ]
]

pub straight_ways_end : (bases : List (Option ℕ)) → ((n : ℕ) → StandsOnCircle bases n → ⊥) → EndSoon bases
straight_ways_end bases straight number =
    ends_ahead bases (no_marks bases) (length bases) number straight (length-no_marks bases) (unmarked-no_marks bases)
    (λ n is_so. absurd (true≢false (sym is_so ∙ has_mark-no_marks bases n)))

-- ---- bases are among what types name

followed_is_named : (form : TypeForm) (base : ℕ) → followed_of form ≡ Some base → reference_of form ≡ Some base
followed_is_named (forms.Restriction place base facets) number here = here
followed_is_named (forms.List place item) number here = absurd (cc)
followed_is_named (forms.SimpleContent base facets) number here = here
followed_is_named (forms.ComplexContent base) number here = absurd (cc)

pub base_is_named : (types : List TypeForm) (number base : ℕ) → named_next (followed_bases types) number ≡ Some base → named_next (references_of types) number ≡ Some base
base_is_named [] number base here = absurd (cc)
base_is_named (form ∷ types) zero base here = followed_is_named form base here
base_is_named (form ∷ types) (suc number) base here = base_is_named types number base here

way_of_bases : (types : List TypeForm) (from to : ℕ) → ComesTo (followed_bases types) from to → ComesTo (references_of types) from to
way_of_bases types from to (directly here) = directly (base_is_named types from to here)
way_of_bases types from to (through {between = between} here way) = through (base_is_named types from between here) (way_of_bases types between to way)

no_way_round : (types : List TypeForm) → HasNoCircle types → (number : ℕ) → StandsOnCircle (references_of types) number → ⊥
no_way_round types straight number circle = true≢false (sym ((circles_are_short (references_of types) number).1 circle) ∙ straight number)

pub types_end : TypesEnd
types_end types straight = (
  straight_ways_end (references_of types) (no_way_round types straight),
  straight_ways_end (followed_bases types) (λ number circle. no_way_round types straight number (way_of_bases types number number circle)),
)

-- ---- the first on a circle

chosen_first : (t : Bool) (number : ℕ) (rest : Option ℕ) → (if t then Some number else rest) ≡ None → (t ≡ false) × (rest ≡ None)
chosen_first true number rest none = absurd (cc)
chosen_first false number rest none = (refl, none)

none_behind : (bases : List (Option ℕ)) (number left n : ℕ) → first_circular_from bases number left ≡ None → number ≤ n → n < number + left → is_circular bases n ≡ false
none_behind bases number zero n none from below = absurd (omega arith)
none_behind bases number (suc left) n none from below =
    let (here, rest) = chosen_first (is_circular bases number) number (first_circular_from bases (suc number) left) none in
    elim (cases_lt number n) [
      | inl less ↦ none_behind bases (suc number) left n rest (omega arith) (omega arith)
      | inr not_less ↦ let same : number ≡ n = omega arith in subst (λ (m : ℕ). is_circular bases m ≡ false) same here
    ]

outside_is_straight : (bases : List (Option ℕ)) (number : ℕ) → length bases ≤ number → is_circular bases number ≡ false
outside_is_straight bases number outside = elim (cases_Bool (is_circular bases number)) [
  | inl circular ↦
      let circle = (circles_are_short bases number).0 circular in
      let (next, names) = begins bases number number circle in
      let within = within_by_next bases number next names in
      absurd (omega arith)
  | inr straight ↦ straight
]

pub none_is_circular : NoneIsCircular
none_is_circular types none number = elim (cases_lt number (length types)) [
  | inl within ↦ none_behind (references_of types) 0 (length types) number none (omega arith) (omega arith)
  | inr outside ↦ outside_is_straight (references_of types) number (let size = length-map types reference_of in omega arith)
]

-- ---- steps of a search for the first

pub first_later : (bases : List (Option ℕ)) (number left less : ℕ) → left ≡ suc less → is_circular bases number ≡ false → first_circular_from bases (suc number) less ≡ first_circular_from bases number left
first_later bases number left less size straight =
    sym (ap (λ (t : Bool). if t then Some number else first_circular_from bases (suc number) less) straight) ∙ sym (ap (first_circular_from bases number) size)

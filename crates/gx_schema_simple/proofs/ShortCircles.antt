-- No circle is longer than there are declarations.
use Rattle.std.proofs.Common.{◌≡◌, ◌≢◌, ℕ, zero, suc, ◌<◌, ◌⊎◌, ◌↔◌, inl, inr, Bool, true, false, ◌||◌, List, length, Option, None, Some, refl, sym, ◌∙◌, subst, ap, arith}
use Rattle.std.proofs.Math.ListN.{set, length-set}
use Rattle.std.specs.Prelude.{◌==◌}
use Rattle.std.proofs.lemmas.Bool.{true≢false, or_cases, cases_Bool}
use Rattle.std.proofs.lemmas.Bool.Decides.{eqb_tells}
use Rattle.std.proofs.lemmas.List.{get_or-set_same, get_or-set_other}
use Rattle.gx_schema_simple.specs.Circles.{named_next, ComesTo, directly, through, StandsOnCircle, next_passes, comes_within, is_circular, CirclesAreShort}
use Rattle.gx_schema_simple.specs.Walk.{has_mark}
use Rattle.gx_schema_simple.proofs.CircleLemmas.{leads_on, behind_first, leads_back, begins, within_by_next, leads_nowhere}
use Rattle.gx_schema_simple.proofs.Marks.{set_entry, unmarked, unmarked-set, no_marks, length-no_marks, unmarked-no_marks, has_mark-no_marks}

-- ---- a way that is found is one

pub next_or_none : (next : Option ℕ) → (next ≡ None) ⊎ ((number : ℕ) × (next ≡ Some number))
next_or_none None = inl refl
next_or_none (Some number) = inr (number, refl)

equal_by_test : (a b : ℕ) → (a == b) ≡ true → a ≡ b
equal_by_test a b e = elim (eqb_tells a b) [ inl (_, same) ↦ same | inr (different, _) ↦ absurd (true≢false (sym e ∙ different)) ]

test_of_equal : (a b : ℕ) → a ≡ b → (a == b) ≡ true
test_of_equal a b e = elim (eqb_tells a b) [ inl (same, _) ↦ same | inr (_, different) ↦ absurd (different e) ]

way_by_steps : (bases : List (Option ℕ)) (steps from to : ℕ) → comes_within bases steps from to ≡ true → ComesTo bases from to
way_by_steps bases zero from to e = absurd (true≢false (sym e))
way_by_steps bases (suc steps) from to e =
    let passes : ℕ → Bool = λ next. (next == to) || comes_within bases steps next to in
    elim (next_or_none (named_next bases from)) [
      | inl none ↦ absurd (true≢false (sym e ∙ ap (next_passes passes) none))
      | inr (next, here) ↦ elim (or_cases (next == to) (comes_within bases steps next to) (sym (ap (next_passes passes) here) ∙ e)) [
        | inl same ↦ directly (subst (λ (n : ℕ). named_next bases from ≡ Some n) (equal_by_test next to same) here)
        | inr way ↦ through here (way_by_steps bases steps next to way)
      ]
    ]

-- ---- a way up to the first time that it comes to a declaration

-- the declarations, where one of them names none
cut : List (Option ℕ) → ℕ → List (Option ℕ)
cut bases target = set bases target None

next-cut : (bases : List (Option ℕ)) (target number next : ℕ) → number ≢ target → named_next bases number ≡ Some next → named_next (cut bases target) number ≡ Some next
unfolding cut
next-cut bases target number next different here = get_or-set_other bases target number None None different ∙ here

way-cut : (bases : List (Option ℕ)) (target from : ℕ) → from ≢ target → ComesTo bases from target → ComesTo (cut bases target) from target
way-cut bases target from different (directly here) = directly (next-cut bases target from target different here)
way-cut bases target from different (through {between = between} here way) = elim (eqb_tells between target) [
  | inl (_, same) ↦ directly (next-cut bases target from target different (subst (λ (n : ℕ). named_next bases from ≡ Some n) same here))
  | inr (_, apart) ↦ through (next-cut bases target from between different here) (way-cut bases target between apart way)
]

-- a way to a declaration does not go round before it comes there
no_circle_before : (bases : List (Option ℕ)) (target from : ℕ) → target < length bases → ComesTo (cut bases target) from target → StandsOnCircle (cut bases target) from → ⊥
unfolding cut
no_circle_before bases target from within way circle =
    leads_nowhere (set bases target None) target from (get_or-set_same bases target None None within) (leads_back (set bases target None) from target circle way)

-- ---- a circle is found

pub or_right : (a b : Bool) → b ≡ true → (a || b) ≡ true
or_right true b e = refl
or_right false b e = e

pub or_left : (a b : Bool) → a ≡ true → (a || b) ≡ true
or_left true b e = refl
or_left false b e = absurd (true≢false (sym e))

-- a declaration that is named leads to the target, where it is that one or ends before it
found_behind : (bases : List (Option ℕ)) (steps from next target : ℕ) → named_next bases from ≡ Some next → (next ≡ target) ⊎ (comes_within bases steps next target ≡ true) →
    comes_within bases (suc steps) from target ≡ true
found_behind bases steps from next target here ahead =
    ap (next_passes (λ n. (n == target) || comes_within bases steps n target)) here ∙ elim ahead [
      | inl same ↦ or_left (next == target) (comes_within bases steps next target) (test_of_equal next target same)
      | inr found ↦ or_right (next == target) (comes_within bases steps next target) found
    ]

-- the declarations that were passed lead to the one that is looked at, and the target is marked from the beginning
found_ahead : (bases : List (Option ℕ)) (passed : List Bool) (target steps from : ℕ) → length passed ≡ length bases → target < length bases → unmarked passed ≡ steps →
    ((n : ℕ) → has_mark passed n ≡ true → n ≢ target → ComesTo (cut bases target) n from) →
    from ≢ target → ComesTo bases from target → comes_within bases steps from target ≡ true
found_ahead bases passed target zero from sized inside count lead different way = elim (cases_Bool (has_mark passed from)) [
  | inl is_so ↦ absurd (no_circle_before bases target from inside (way-cut bases target from different way) (lead from is_so different))
  | inr is_not ↦
      let (next, here) = begins bases from target way in
      let within : from < length passed = let w = within_by_next bases from next here in omega arith in
      let fewer = unmarked-set passed from within is_not in
      absurd (omega arith)
]
found_ahead bases passed target (suc steps) from sized inside count lead different way = elim (cases_Bool (has_mark passed from)) [
  | inl is_so ↦ absurd (no_circle_before bases target from inside (way-cut bases target from different way) (lead from is_so different))
  | inr is_not ↦
      let (next, here) = begins bases from target way in
      let within : from < length passed = let w = within_by_next bases from next here in omega arith in
      let fewer = unmarked-set passed from within is_not in
      let step = next-cut bases target from next different here in
      let lead_on : ((n : ℕ) → has_mark (set passed from true) n ≡ true → n ≢ target → ComesTo (cut bases target) n next) = λ n is_so apart. elim (set_entry passed from true false n within) [
        | inl (same, _) ↦ subst (λ (m : ℕ). ComesTo (cut bases target) m next) (sym same) (directly step)
        | inr there ↦ leads_on (cut bases target) n from next (lead n (sym there ∙ is_so) apart) (directly step)
      ] in
      found_behind bases steps from next target here (elim (eqb_tells next target) [
        | inl (_, same) ↦ inl same
        | inr (_, apart) ↦ elim (behind_first bases from next target here way) [
          | inl same ↦ inl (sym same)
          | inr onward ↦ inr (found_ahead bases (set passed from true) target steps next (length-set passed from true ∙ sized) inside (omega arith) lead_on apart onward)
        ]
      ])
]

only_target_marked : (bases : List (Option ℕ)) (target n : ℕ) → target < length bases → has_mark (set (no_marks bases) target true) n ≡ true → n ≢ target → ⊥
only_target_marked bases target n inside is_so apart =
    absurd (true≢false (sym is_so ∙ get_or-set_other (no_marks bases) target n true false apart ∙ has_mark-no_marks bases n))

-- a circle is found within so many steps and one
found_circle : (bases : List (Option ℕ)) (steps number : ℕ) → length bases ≡ suc steps → StandsOnCircle bases number → comes_within bases (suc steps) number number ≡ true
found_circle bases steps number size circle =
    let (next, here) = begins bases number number circle in
    let inside = within_by_next bases number next here in
    let marks = length-no_marks bases in
    let within : number < length (no_marks bases) = omega arith in
    let fewer = unmarked-set (no_marks bases) number within (has_mark-no_marks bases number) in
    let all = unmarked-no_marks bases in
    found_behind bases steps number next number here (elim (eqb_tells next number) [
      | inl (_, same) ↦ inl same
      | inr (_, apart) ↦ elim (behind_first bases number next number here circle) [
        | inl same ↦ inl (sym same)
        | inr onward ↦ inr (found_ahead bases (set (no_marks bases) number true) number steps next (length-set (no_marks bases) number true ∙ marks) inside (omega arith)
            (λ n is_so different. absurd (only_target_marked bases number n inside is_so different)) apart onward)
      ]
    ])

before_length : (n number : ℕ) → number < n → (steps : ℕ) × (n ≡ suc steps)
before_length zero number within = absurd (omega arith)
before_length (suc steps) number within = (steps, refl)

pub circles_are_short : CirclesAreShort
circles_are_short bases number = (
  way_by_steps bases (length bases) number number,
  λ circle.
      let (next, here) = begins bases number number circle in
      let (steps, size) = before_length (length bases) number (within_by_next bases number next here) in
      subst (λ (n : ℕ). comes_within bases n number number ≡ true) (sym size) (found_circle bases steps number size circle),
)

-- marks at all that stand on circles, and at nothing else, are as circles are decided
pub circles_are_decided : (bases : List (Option ℕ)) (marks : List Bool) → ((number : ℕ) → (has_mark marks number ≡ true) ↔ StandsOnCircle bases number) → (number : ℕ) → has_mark marks number ≡ is_circular bases number
circles_are_decided bases marks exact number = elim (cases_Bool (has_mark marks number)) [
  | inl marked ↦ marked ∙ sym ((circles_are_short bases number).1 ((exact number).0 marked))
  | inr unmarked ↦ elim (cases_Bool (is_circular bases number)) [
    | inl circular ↦ absurd (true≢false (sym ((exact number).1 ((circles_are_short bases number).0 circular)) ∙ unmarked))
    | inr straight ↦ unmarked ∙ sym straight
  ]
]

-- The references among what types say of their varieties come to an end.
use Rattle.std.proofs.Common.{◌≡◌, ℕ, zero, suc, ◌<◌, ◌+◌, inl, inr, Bool, true, false, List, [], ◌∷◌, length, Option, None, Some, slice_get, unwrap_or, refl, sym, ◌∙◌, subst, ap, arith, if◌then◌else◌}
use Rattle.std.specs.List.{Contains}
use Rattle.std.proofs.lemmas.Bool.{true≢false, cases_lt, lt-ltb, le-ltb}
use Rattle.std.proofs.lemmas.List.{get_or_past}
use Rattle.std.proofs.lemmas.Option.{slice_get_past}
use Rattle.gx_references.specs.References.{numbers_named, named_by, meaning_in, meaning_within, meaning_of, AreMeanings, AreEndless}
use Rattle.gx_references.specs.Circles.{RefersTo, directly as refers_directly, through as refers_through, IsPartOfItself}
use Rattle.gx_references.specs.Known.{known, table_entry}
use Rattle.gx_references.specs.Laws.{CircleIfEndless}
use Rattle.gx_schema_simple.specs.Circles.{named_next, ComesTo, directly, through, is_circular}
use Rattle.gx_schema_simple.specs.Forms.{reference_of, references_of}
use Rattle.gx_schema_simple.specs.Varieties.{said, said_by, said_of_base, said_from, said_varieties, said_number, variety_said}
use Rattle.gx_schema_components.specs.declared.component.Base.{Base}
use Rattle.gx_schema_components.specs.declared.component.Base.TheVariants.{Builtin, Declared}
use Rattle.gx_schema_simple.specs.declared.type_form.TypeForm.{TypeForm}
use Rattle.gx_schema_simple.specs.declared.type_form.TypeForm.TheVariants as forms
use Rattle.gx_schema_simple.specs.declared.variety.SaidVariety.{SaidVariety}
use Rattle.gx_schema_simple.specs.declared.variety.SaidVariety.TheVariants.{Own, OfBase}
use Rattle.gx_schema_simple.specs.declared.variety.TypeVariety.{TypeVariety}
use Rattle.gx_schema_simple.specs.declared.variety.TypeVariety.TheVariants.{Hidden}
use Rattle.gx_schema_simple.proofs.ShortCircles.{circles_are_short}

-- ---- what one type says

nothing_contained : {P : Type 0} (to : ℕ) → Contains [] to → P
nothing_contained to (k, within, here) = absurd (omega arith)

only_contained : (number to : ℕ) → Contains (number ∷ []) to → number ≡ to
only_contained number to (zero, within, here) = here
only_contained number to (suc k, within, here) = absurd (omega arith)

base_step : (count : ℕ) (base : Base) (to : ℕ) → Contains (said_number (said_of_base count base)) to → (base ≡ Declared to) × (to < count)
base_step count (Builtin builtin) to here = nothing_contained to here
base_step count (Declared number) to here = elim (cases_lt number count) [
  | inl within ↦
      let test = lt-ltb number count within in
      let same = only_contained number to (subst (λ (s : SaidVariety). Contains (said_number s) to) (ap (λ (t : Bool). if t then OfBase number else Own Hidden) test) here) in
      (ap Declared same, subst (λ (n : ℕ). n < count) same within)
  | inr outside ↦ let test = le-ltb number count outside in nothing_contained to (subst (λ (s : SaidVariety). Contains (said_number s) to) (ap (λ (t : Bool). if t then OfBase number else Own Hidden) test) here)
]

said_step : (count : ℕ) (form : TypeForm) (to : ℕ) → Contains (said_number (said_by count form)) to → (reference_of form ≡ Some to) × (to < count)
said_step count (forms.Restriction place base facets) to here = let (same, within) = base_step count base to here in (ap (λ (b : Base). reference_of (forms.Restriction place b facets)) same, within)
said_step count (forms.List place item) to here = nothing_contained to here
said_step count (forms.SimpleContent base facets) to here = let (same, within) = base_step count base to here in (ap (λ (b : Base). reference_of (forms.SimpleContent b facets)) same, within)
said_step count (forms.ComplexContent base) to here = nothing_contained to here

circle_step : (is_on_circle : Bool) (count : ℕ) (form : TypeForm) (to : ℕ) → Contains (said_number (said is_on_circle count form)) to → (is_on_circle ≡ false) × (reference_of form ≡ Some to) × (to < count)
circle_step true count form to here = nothing_contained to here
circle_step false count form to here = let (names, within) = said_step count form to here in (refl, names, within)

-- ---- what all types say

pub form_at : (types : List TypeForm) (k : ℕ) → k < length types → (form : TypeForm) × (slice_get types k ≡ Some form)
form_at [] k within = absurd (omega arith)
form_at (form ∷ types) zero within = (form, refl)
form_at (form ∷ types) (suc k) within = form_at types k (omega arith)

said_at : (all : List TypeForm) (number : ℕ) (types : List TypeForm) (k : ℕ) (form : TypeForm) → slice_get types k ≡ Some form →
    slice_get (said_from all number types) k ≡ Some (said (is_circular (references_of all) (number + k)) (length all) form)
said_at all number [] k form here = absurd (cc)
said_at all number (other ∷ types) zero form here =
    let same : number ≡ number + 0 = omega arith in
    let it : other ≡ form = cc in
    ap (λ (f : TypeForm). Some (said (is_circular (references_of all) number) (length all) f)) it ∙ ap (λ (n : ℕ). Some (said (is_circular (references_of all) n) (length all) form)) same
said_at all number (other ∷ types) (suc k) form here =
    let same : suc number + k ≡ number + suc k = omega arith in
    said_at all (suc number) types k form here ∙ ap (λ (n : ℕ). Some (said (is_circular (references_of all) n) (length all) form)) same

pub said_of_form : (types : List TypeForm) (number : ℕ) (form : TypeForm) → slice_get types number ≡ Some form →
    slice_get (said_varieties types) number ≡ Some (said (is_circular (references_of types) number) (length types) form)
said_of_form types number form here =
    let same : 0 + number ≡ number = omega arith in
    said_at types 0 types number form here ∙ ap (λ (n : ℕ). Some (said (is_circular (references_of types) n) (length types) form)) same

pub length-said_from : (all : List TypeForm) (number : ℕ) (types : List TypeForm) → length (said_from all number types) ≡ length types
length-said_from all number [] = refl
length-said_from all number (form ∷ types) = ap suc (length-said_from all (suc number) types)

reference_at : (types : List TypeForm) (k : ℕ) (form : TypeForm) → slice_get types k ≡ Some form → named_next (references_of types) k ≡ reference_of form
reference_at [] k form here = absurd (cc)
reference_at (other ∷ types) zero form here = let it : other ≡ form = cc in ap reference_of it
reference_at (other ∷ types) (suc k) form here = reference_at types k form here

-- ---- ways

one_step : (types : List TypeForm) (from to : ℕ) → from < length types → Contains (named_by said_number (said_varieties types) from) to →
    (is_circular (references_of types) from ≡ false) × (named_next (references_of types) from ≡ Some to) × (to < length types)
one_step types from to within here =
    let (form, there) = form_at types from within in
    let (straight, names, inside) = circle_step (is_circular (references_of types) from) (length types) form to
    (subst (λ (b : Option SaidVariety). Contains (numbers_named said_number b from) to) (said_of_form types from form there) here) in
    (straight, reference_at types from form there ∙ names, inside)

way_of : (types : List TypeForm) (from to : ℕ) → from < length types → RefersTo said_number (said_varieties types) from to → ComesTo (references_of types) from to × (to < length types)
way_of types from to within (refers_directly here) = let (straight, names, inside) = one_step types from to within here in (directly names, inside)
way_of types from to within (refers_through {between = between} here way) =
    let (straight, names, inside) = one_step types from between within here in
    let (onward, end) = way_of types between to inside way in
    (through names onward, end)

first_step_is_straight : (types : List TypeForm) (from to : ℕ) → from < length types → RefersTo said_number (said_varieties types) from to → is_circular (references_of types) from ≡ false
first_step_is_straight types from to within (refers_directly here) = (one_step types from to within here).0
first_step_is_straight types from to within (refers_through {between = between} here way) = (one_step types from between within here).0

no_circle : (types : List TypeForm) (number : ℕ) → number < length types → IsPartOfItself said_number (said_varieties types) number → ⊥
no_circle types number within circle =
    let (way, _) = way_of types number number within circle in
    true≢false (sym ((circles_are_short (references_of types) number).1 way) ∙ first_step_is_straight types number number within circle)

pub not_endless : (types : List TypeForm) → CircleIfEndless said_number → AreEndless said_number (said_varieties types) → ⊥
not_endless types law (number, within, fails) =
    let inside : number < length types = let size = length-said_from types 0 types in omega arith in
    let (other, reached, circle) = law (said_varieties types) number fails in
    elim reached [
      | inl same ↦ no_circle types other (subst (λ (n : ℕ). n < length types) (sym same) inside) circle
      | inr way ↦ no_circle types other (way_of types number other inside way).1 circle
    ]

-- ---- the table

pub meaning_outside : (bodies : List SaidVariety) (steps number : ℕ) → slice_get bodies number ≡ None → meaning_within variety_said Hidden bodies steps number ≡ Hidden
meaning_outside bodies zero number outside = refl
meaning_outside bodies (suc steps) number outside = ap (λ (b : Option SaidVariety). meaning_in variety_said Hidden b (meaning_within variety_said Hidden bodies steps)) outside

pub table_is_right : (bodies : List SaidVariety) (table : List (Option TypeVariety)) → AreMeanings said_number variety_said Hidden bodies table → (number : ℕ) → known Hidden table number ≡ meaning_of variety_said Hidden bodies number
table_is_right bodies table are number = elim (cases_lt number (length bodies)) [
  | inl within ↦ ap (λ (m : Option TypeVariety). unwrap_or m Hidden) (are.meanings number within)
  | inr outside ↦
      let past : table_entry table number ≡ None = let size = are.sized in get_or_past table number None (omega arith) in
      ap (λ (m : Option TypeVariety). unwrap_or m Hidden) past ∙ sym (meaning_outside bodies (length bodies) number (slice_get_past bodies number outside))
]

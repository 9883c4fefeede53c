-- Varieties are as types say, and without circles none is hidden.
use Rattle.std.proofs.Common.{◌≡◌, ◌≢◌, ℕ, zero, suc, ◌<◌, ◌≤◌, inl, inr, Bool, true, false, List, [], ◌∷◌, length, Option, Some, slice_get, refl, sym, ◌∙◌, ap, arith, if◌then◌else◌}
use Rattle.std.proofs.lemmas.Bool.{true≢false, cases_Bool, cases_lt, lt-ltb, le-ltb}
use Rattle.std.proofs.lemmas.Option.{slice_get_past, slice_get_within}
use Rattle.gx_references.specs.Laws.{CircleIfEndless, MeaningsSolve}
use Rattle.gx_references.specs.References.{ends, meaning_in}
use Rattle.gx_schema_simple.specs.Circles.{named_next}
use Rattle.gx_schema_simple.specs.CircularTypes.{HasNoCircle}
use Rattle.gx_schema_simple.specs.Ends.{none_or_passes, ends_by_steps, NamesTypes}
use Rattle.gx_schema_simple.specs.Forms.{followed_bases, followed_of}
use Rattle.gx_schema_simple.specs.Laws.{variety_by, VarietiesSolve, NothingIsHidden}
use Rattle.gx_schema_simple.specs.Varieties.{said, said_by, said_of_base, said_varieties, said_number, variety_said, variety_of, variety_of_base}
use Rattle.gx_schema_components.specs.declared.component.Base.{Base}
use Rattle.gx_schema_components.specs.declared.component.Base.TheVariants.{Builtin, Declared}
use Rattle.gx_schema_simple.specs.declared.type_form.TypeForm.{TypeForm}
use Rattle.gx_schema_simple.specs.declared.type_form.TypeForm.TheVariants as forms
use Rattle.gx_schema_simple.specs.declared.variety.SaidVariety.{SaidVariety}
use Rattle.gx_schema_simple.specs.declared.variety.SaidVariety.TheVariants.{Own, OfBase}
use Rattle.gx_schema_simple.specs.declared.variety.TypeVariety.TheVariants as varieties
use Rattle.gx_schema_simple.proofs.EndLemmas.{base_is_named, types_end}
use Rattle.gx_schema_simple.proofs.VarietyLemmas.{form_at, length-said_from, meaning_outside, not_endless, said_of_form}

-- ---- varieties solve their equations

ends_within_types : CircleIfEndless said_number → (types : List TypeForm) (number : ℕ) → number < length types → ends said_number (said_varieties types) number ≡ true
ends_within_types circle types number within = elim (cases_Bool (ends said_number (said_varieties types) number)) [
  | inl is_so ↦ is_so
  | inr fails ↦ absurd (not_endless types circle (number, (let size = length-said_from types 0 types in omega arith), fails))
]

variety_outside : (types : List TypeForm) (number : ℕ) → length types ≤ number → variety_of types number ≡ varieties.Hidden
variety_outside types number outside =
    let size = length-said_from types 0 types in
    meaning_outside (said_varieties types) (length (said_varieties types)) number (slice_get_past (said_varieties types) number (omega arith))

base_is_so : (types : List TypeForm) (base : Base) → variety_said (variety_of types) (said_of_base (length types) base) ≡ variety_of_base (variety_of types) base
base_is_so types (Builtin builtin) = refl
base_is_so types (Declared number) = elim (cases_lt number (length types)) [
  | inl within ↦ ap (λ (t : Bool). variety_said (variety_of types) (if t then OfBase number else Own varieties.Hidden)) (lt-ltb number (length types) within)
  | inr outside ↦
      ap (λ (t : Bool). variety_said (variety_of types) (if t then OfBase number else Own varieties.Hidden)) (le-ltb number (length types) outside)
      ∙ sym (variety_outside types number outside)
]

form_is_so : (types : List TypeForm) (form : TypeForm) → variety_said (variety_of types) (said_by (length types) form) ≡ variety_by (variety_of types) form
form_is_so types (forms.Restriction place base facets) = base_is_so types base
form_is_so types (forms.List place item) = refl
form_is_so types (forms.SimpleContent base facets) = base_is_so types base
form_is_so types (forms.ComplexContent base) = refl

pub varieties_solve : CircleIfEndless said_number → MeaningsSolve said_number variety_said varieties.Hidden → VarietiesSolve
varieties_solve circle solve types number form here straight =
    solve (said_varieties types) number (ends_within_types circle types number (slice_get_within types number form here))
    ∙ ap (λ (b : Option SaidVariety). meaning_in variety_said varieties.Hidden b (variety_of types)) (said_of_form types number form here)
    ∙ ap (λ (t : Bool). variety_said (variety_of types) (said t (length types) form)) straight
    ∙ form_is_so types form

-- ---- nothing is hidden

-- what is seen of a base, where a way from it ends
pub base_at : (types : List TypeForm) (k : ℕ) (form : TypeForm) → slice_get types k ≡ Some form → named_next (followed_bases types) k ≡ followed_of form
base_at [] k form here = absurd (cc)
base_at (other ∷ types) zero form here = let it : other ≡ form = cc in ap followed_of it
base_at (other ∷ types) (suc k) form here = base_at types k form here

-- a base is built in, or it is declared and seen
SeenBase : List TypeForm → Base → Type 0
SeenBase types base = (number : ℕ) → base ≡ Declared number → variety_of types number ≢ varieties.Hidden

seen_base : (types : List TypeForm) (base : Base) → SeenBase types base → variety_of_base (variety_of types) base ≢ varieties.Hidden
unfolding SeenBase
seen_base types (Builtin builtin) seen hidden = absurd (cc)
seen_base types (Declared number) seen hidden = seen number refl hidden

-- what follows is seen
SeenNext : List TypeForm → Option ℕ → Type 0
SeenNext types next = (number : ℕ) → next ≡ Some number → variety_of types number ≢ varieties.Hidden

seen_form : (types : List TypeForm) (form : TypeForm) → SeenNext types (followed_of form) → variety_by (variety_of types) form ≢ varieties.Hidden
unfolding SeenNext SeenBase
seen_form types (forms.Restriction place base facets) seen hidden = seen_base types base (λ number same. seen number (ap (λ (b : Base). followed_of (forms.Restriction place b facets)) same)) hidden
seen_form types (forms.List place item) seen hidden = absurd (cc)
seen_form types (forms.SimpleContent base facets) seen hidden = seen_base types base (λ number same. seen number (ap (λ (b : Base). followed_of (forms.SimpleContent b facets)) same)) hidden
seen_form types (forms.ComplexContent base) seen hidden = absurd (cc)

seen_by_steps : VarietiesSolve → (types : List TypeForm) (steps number : ℕ) → HasNoCircle types → NamesTypes types → ends_by_steps (followed_bases types) steps number ≡ true → number < length types → variety_of types number ≢ varieties.Hidden
unfolding SeenNext
seen_by_steps solve types zero number straight names e within hidden =
    let (form, here) = form_at types number within in
    seen_form types form
    (λ next follows. absurd (true≢false (sym e ∙ ap (none_or_passes (λ n. false)) (base_at types number form here ∙ follows))))
    (sym (solve types number form here (straight number)) ∙ hidden)
seen_by_steps solve types (suc steps) number straight names e within hidden =
    let (form, here) = form_at types number within in
    seen_form types form
    (λ next follows.
    let named = base_at types number form here ∙ follows in
    seen_by_steps solve types steps next straight names (sym (ap (none_or_passes (ends_by_steps (followed_bases types) steps)) named) ∙ e) (names number next (base_is_named types number next named)))
    (sym (solve types number form here (straight number)) ∙ hidden)

pub nothing_is_hidden : VarietiesSolve → NothingIsHidden
nothing_is_hidden solve types straight names number within = seen_by_steps solve types (length (followed_bases types)) number straight names ((types_end types straight).1 number) within

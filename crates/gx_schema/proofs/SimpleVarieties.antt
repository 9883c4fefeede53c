-- Types without complex content have single values, or lists of the items of one of them.
use Rattle.std.proofs.Common.{◌≡◌, ℕ, zero, suc, ◌<◌, ◌⊎◌, inl, inr, Bool, true, false, not, ◌&&◌, List, length, Option, None, Some, slice_get, unwrap_or, refl, sym, ◌∙◌, subst, ap, arith}
use Rattle.std.proofs.lemmas.Bool.{true≢false}
use Rattle.std.proofs.lemmas.List.{length-map}
use Rattle.gx_base.specs.declared.type_name.Builtin.{Builtin as BuiltinType}
use Rattle.gx_base.specs.declared.type_name.TypeName.{TypeName}
use Rattle.gx_schema_syntax.specs.declared.written.WrittenFacet.{WrittenFacet}
use Rattle.gx_schema_components.specs.declared.component.Base.{Base}
use Rattle.gx_schema_components.specs.declared.component.Base.TheVariants.{Builtin, Declared}
use Rattle.gx_schema_simple.specs.CircularTypes.{HasNoCircle}
use Rattle.gx_schema_simple.specs.Ends.{ends_by_steps, none_or_passes}
use Rattle.gx_schema_simple.specs.Circles.{is_circular}
use Rattle.gx_schema_simple.specs.Faults.{is_complex_form}
use Rattle.gx_schema_simple.specs.Forms.{followed_base, reference_of, references_of}
use Rattle.gx_schema_simple.specs.Laws.{VarietiesSolve, is_complex_among, variety_by}
use Rattle.gx_schema_simple.specs.Varieties.{variety_of, variety_of_base}
use Rattle.gx_schema_simple.specs.declared.type_form.TypeForm.{TypeForm}
use Rattle.gx_schema_simple.specs.declared.type_form.TypeForm.TheVariants as forms
use Rattle.gx_schema_simple.specs.declared.variety.TypeVariety.{TypeVariety}
use Rattle.gx_schema_simple.specs.declared.variety.TypeVariety.TheVariants as varieties
use Rattle.gx_schema_simple.proofs.CircleLemmas.{within_by_next}
use Rattle.gx_schema_simple.proofs.ShortCircles.{circles_are_short}
use Rattle.std.specs.Bool.{IsTrue}
use Rattle.gx_types.specs.SchemaInvariant.{is_nameable}
use Rattle.gx_schema.specs.DerivationFaults.{has_complex_content}
use Rattle.gx_schema.specs.SimpleBases.{base_of_simple_content, behind_simple_content, simple_base, simple_base_within}
use Rattle.gx_schema.proofs.Declarations.{element_at}
use Rattle.gx_schema.proofs.ShortEnds.{IsStraight, NamesWithin, ends_in_fewer}
use Rattle.gx_schema.proofs.TypesByNumber.{reference_at}
use Rattle.gx_schema.proofs.SimpleForms.{AreReadTypes, IsReadBase, IsReadForm, is_simple_form}

-- ---- what types name ends

reference_is_read : (count : ℕ) (form : TypeForm) (next : ℕ) → IsReadForm count form → reference_of form ≡ Some next → next < count
reference_is_read count (forms.Restriction place (Builtin builtin) facets) next simple e = absurd (cc)
reference_is_read count (forms.Restriction place (Declared number) facets) next simple e = let same : number ≡ next = cc in omega arith
reference_is_read count (forms.List place (Builtin builtin)) next simple e = absurd (cc)
reference_is_read count (forms.List place (Declared number)) next simple e = let same : number ≡ next = cc in omega arith
reference_is_read count (forms.SimpleContent (Builtin builtin) facets) next simple e = absurd (cc)
reference_is_read count (forms.SimpleContent (Declared number) facets) next simple e = let same : number ≡ next = cc in omega arith
reference_is_read count (forms.ComplexContent None) next simple e = absurd (cc)
reference_is_read count (forms.ComplexContent (Some (Builtin builtin))) next simple e = absurd (cc)
reference_is_read count (forms.ComplexContent (Some (Declared number))) next simple e = let same : number ≡ next = cc in omega arith

names_within : (declared : List TypeName) (types : List TypeForm) → AreReadTypes declared types → NamesWithin (references_of types)
names_within declared types are number next e =
    let size = length-map types reference_of in
    let sized = are.sized in
    let within = within_by_next (references_of types) number next e in
    let (form, here) = element_at types number (omega arith) in
    let small = reference_is_read (length declared) form next (are.read number form here) (sym (reference_at types number form here) ∙ e) in
    omega arith

none_on_circle : (types : List TypeForm) → HasNoCircle types → IsStraight (references_of types)
none_on_circle types straight number circle = true≢false (sym ((circles_are_short (references_of types) number).1 circle) ∙ straight number)

pub one_less : (count number : ℕ) → number < count → (steps : ℕ) × (count ≡ suc steps)
one_less zero number within = absurd (omega arith)
one_less (suc steps) number within = (steps, refl)

pub ends_soon : (declared : List TypeName) (types : List TypeForm) → AreReadTypes declared types → (steps number : ℕ) → length types ≡ suc steps → number < length types → ends_by_steps (references_of types) steps number ≡ true
ends_soon declared types are steps number size within =
    let same = length-map types reference_of in
    ends_in_fewer (references_of types) steps number (none_on_circle types are.circles) (names_within declared types are) (same ∙ size) (omega arith)

-- where a way ends, no type is named
pub names_none : (types : List TypeForm) (number next : ℕ) (form : TypeForm) → slice_get types number ≡ Some form → ends_by_steps (references_of types) zero number ≡ true → reference_of form ≡ Some next → ⊥
names_none types number next form here e names = true≢false (sym e ∙ ap (none_or_passes (λ n. false)) (reference_at types number form here ∙ names))

-- and else the way from the type that is named ends one step earlier
pub next_ends : (types : List TypeForm) (steps number next : ℕ) (form : TypeForm) → slice_get types number ≡ Some form → ends_by_steps (references_of types) (suc steps) number ≡ true → reference_of form ≡ Some next →
    ends_by_steps (references_of types) steps next ≡ true
next_ends types steps number next form here e names = sym (ap (none_or_passes (ends_by_steps (references_of types) steps)) (reference_at types number form here ∙ names)) ∙ e

-- ---- varieties

-- single values, or lists of the items of some type
abbrev pub IsSimpleVariety : List TypeForm → TypeVariety → Type 0
IsSimpleVariety types variety =
    ((bottom : BuiltinType) × (variety ≡ varieties.Atomic bottom)) ⊎ ((number : ℕ) × (place : ℕ) × (item : Base) × (variety ≡ varieties.List item) × (slice_get types number ≡ Some (forms.List place item)))

-- what is not complex has no complex content
no_complex_content : (form : Option TypeForm) → is_complex_form form ≡ false → has_complex_content form ≡ false
no_complex_content None e = refl
no_complex_content (Some (forms.Restriction place base facets)) e = refl
no_complex_content (Some (forms.List place item)) e = refl
no_complex_content (Some (forms.SimpleContent base facets)) e = refl
no_complex_content (Some (forms.ComplexContent base)) e = absurd (true≢false e)

not_complex_by : (t f : Bool) → t ≡ false → (not t && f) ≡ false → f ≡ false
not_complex_by true f e h = absurd (true≢false e)
not_complex_by false f e h = h

-- a base is built in, or has no complex content
abbrev pub HasNoComplexContent : List TypeForm → Base → Type 0
HasNoComplexContent types (Builtin builtin) = Unit {0}
HasNoComplexContent types (Declared number) = has_complex_content (slice_get types number) ≡ false

-- a base is built in, or is no complex type
abbrev pub IsNotComplex : List TypeForm → Base → Type 0
IsNotComplex types (Builtin builtin) = Unit {0}
IsNotComplex types (Declared number) = is_complex_form (slice_get types number) ≡ false

pub not_complex : (types : List TypeForm) → HasNoCircle types → (base : Base) → is_complex_among types base ≡ false → IsNotComplex types base
not_complex types straight (Builtin builtin) e = tt
not_complex types straight (Declared number) e = not_complex_by (is_circular (references_of types) number) (is_complex_form (slice_get types number)) (straight number) e

pub plain_has_none : (types : List TypeForm) (base : Base) → IsNotComplex types base → HasNoComplexContent types base
plain_has_none types (Builtin builtin) e = tt
plain_has_none types (Declared number) e = no_complex_content (slice_get types number) e

simple_if_not_complex : (form : TypeForm) → is_complex_form (Some form) ≡ false → is_simple_form (Some form) ≡ true
simple_if_not_complex (forms.Restriction place base facets) e = refl
simple_if_not_complex (forms.List place item) e = refl
simple_if_not_complex (forms.SimpleContent base facets) e = absurd (true≢false e)
simple_if_not_complex (forms.ComplexContent base) e = absurd (true≢false e)

pub plain_form : (types : List TypeForm) (number : ℕ) (form : TypeForm) → slice_get types number ≡ Some form → IsNotComplex types (Declared number) → is_simple_form (Some form) ≡ true
plain_form types number form here plain = simple_if_not_complex form (sym (ap is_complex_form here) ∙ plain)

-- the bases of types with values have no complex content
followed_has_none : (declared : List TypeName) (types : List TypeForm) → AreReadTypes declared types → (number : ℕ) (form : TypeForm) → slice_get types number ≡ Some form → has_complex_content (Some form) ≡ false →
    (base : Base) → followed_base form ≡ Some base → HasNoComplexContent types base
followed_has_none declared types are number (forms.Restriction place base facets) here simple other e =
    let same : base ≡ other = cc in subst (HasNoComplexContent types) same (plain_has_none types base (not_complex types are.circles base (are.faults.bases number place base facets here)))
followed_has_none declared types are number (forms.List place item) here simple other e = absurd (cc)
followed_has_none declared types are number (forms.SimpleContent (Builtin builtin) facets) here simple other e = let same : Builtin builtin ≡ other = cc in subst (HasNoComplexContent types) same tt
followed_has_none declared types are number (forms.SimpleContent (Declared base) facets) here simple other e =
    let same : Declared base ≡ other = cc in subst (HasNoComplexContent types) same (are.simple_bases number (Declared base) facets here base refl)
followed_has_none declared types are number (forms.ComplexContent base) here simple other e = absurd (true≢false simple)

-- and those of simple content have none
pub simple_content_base : (declared : List TypeName) (types : List TypeForm) → AreReadTypes declared types → (number : ℕ) (base : Base) (facets : List WrittenFacet) → slice_get types number ≡ Some (forms.SimpleContent base facets) →
    HasNoComplexContent types base
simple_content_base declared types are number base facets here = followed_has_none declared types are number (forms.SimpleContent base facets) here refl base refl

variety_of_form : (types : List TypeForm) (count number : ℕ) (form : TypeForm) → IsReadForm count form → slice_get types number ≡ Some form → has_complex_content (Some form) ≡ false →
    ((next : ℕ) → reference_of form ≡ Some next → followed_base form ≡ Some (Declared next) → next < count → IsSimpleVariety types (variety_of types next)) → IsSimpleVariety types (variety_by (variety_of types) form)
variety_of_form types count number (forms.Restriction place (Builtin builtin) facets) read here simple next = inl (builtin, refl)
variety_of_form types count number (forms.Restriction place (Declared base) facets) read here simple next = next base refl refl read
variety_of_form types count number (forms.List place item) read here simple next = inr (number, place, item, refl, here)
variety_of_form types count number (forms.SimpleContent (Builtin builtin) facets) read here simple next = inl (builtin, refl)
variety_of_form types count number (forms.SimpleContent (Declared base) facets) read here simple next = next base refl refl read
variety_of_form types count number (forms.ComplexContent base) read here simple next = absurd (true≢false simple)

form_has_none : (types : List TypeForm) (number : ℕ) (form : TypeForm) → slice_get types number ≡ Some form → has_complex_content (slice_get types number) ≡ false → has_complex_content (Some form) ≡ false
form_has_none types number form here simple = sym (ap has_complex_content here) ∙ simple

variety_by_steps : VarietiesSolve → (declared : List TypeName) (types : List TypeForm) → AreReadTypes declared types → (steps number : ℕ) → ends_by_steps (references_of types) steps number ≡ true → number < length types →
    has_complex_content (slice_get types number) ≡ false → IsSimpleVariety types (variety_of types number)
variety_by_steps solve declared types are zero number e within simple =
    let (form, here) = element_at types number within in
    subst (IsSimpleVariety types) (sym (solve types number form here (are.circles number)))
    (variety_of_form types (length declared) number form (are.read number form here) here (form_has_none types number form here simple) (λ next names follows small. absurd (names_none types number next form here e names)))
variety_by_steps solve declared types are (suc steps) number e within simple =
    let (form, here) = element_at types number within in
    let sized = are.sized in
    let plain = form_has_none types number form here simple in
    subst (IsSimpleVariety types) (sym (solve types number form here (are.circles number)))
    (variety_of_form types (length declared) number form (are.read number form here) here plain
    (λ next names follows small.
    variety_by_steps solve declared types are steps next (next_ends types steps number next form here e names) (omega arith) (followed_has_none declared types are number form here plain (Declared next) follows)))

pub variety_of_base_is_simple : VarietiesSolve → (declared : List TypeName) (types : List TypeForm) → AreReadTypes declared types → (base : Base) → IsReadBase (length declared) base → HasNoComplexContent types base →
    IsSimpleVariety types (variety_of_base (variety_of types) base)
variety_of_base_is_simple solve declared types are (Builtin builtin) read simple = inl (builtin, refl)
variety_of_base_is_simple solve declared types are (Declared number) read simple =
    let sized = are.sized in
    let within : number < length types = omega arith in
    let (steps, size) = one_less (length types) number within in
    variety_by_steps solve declared types are steps number (ends_soon declared types are steps number size within) within simple

-- ---- the simple types of simple content

-- a built-in type that may be named, or a declared simple type
abbrev pub IsSimpleBase : (count : ℕ) → List TypeForm → Base → Type 0
IsSimpleBase count types (Builtin builtin) = IsTrue (is_nameable builtin)
IsSimpleBase count types (Declared number) = (number < count) × (is_simple_form (slice_get types number) ≡ true)

-- a base that none stands behind is the end
pub stays : (types : List TypeForm) (steps : ℕ) (base : Base) → behind_simple_content types base ≡ base → simple_base_within types steps base ≡ base
stays types zero base e = refl
stays types (suc steps) base e = ap (simple_base_within types steps) e ∙ stays types steps base e

pub behind_step : (types : List TypeForm) (number : ℕ) (base : Base) (count less : ℕ) → count ≡ suc less → base_of_simple_content (slice_get types number) ≡ Some base →
    simple_base_within types count (Declared number) ≡ simple_base_within types less base
behind_step types number base count less e f =
    ap (λ (n : ℕ). simple_base_within types n (Declared number)) e ∙ ap (λ (found : Option Base). simple_base_within types less (unwrap_or found (Declared number))) f

behind_form : (types : List TypeForm) (number : ℕ) (form : TypeForm) → slice_get types number ≡ Some form → behind_simple_content types (Declared number) ≡ unwrap_or (base_of_simple_content (Some form)) (Declared number)
behind_form types number form here = ap (λ (o : Option TypeForm). unwrap_or (base_of_simple_content o) (Declared number)) here

simple_end : (declared : List TypeName) (types : List TypeForm) → AreReadTypes declared types → (steps number : ℕ) (form : TypeForm) → slice_get types number ≡ Some form → has_complex_content (Some form) ≡ false → number < length declared →
    ((next : ℕ) → reference_of form ≡ Some next → followed_base form ≡ Some (Declared next) → next < length declared → IsSimpleBase (length declared) types (simple_base_within types steps (Declared next))) →
    IsSimpleBase (length declared) types (simple_base_within types steps (unwrap_or (base_of_simple_content (Some form)) (Declared number)))
simple_end declared types are steps number (forms.Restriction place base facets) here simple within next =
    subst (IsSimpleBase (length declared) types) (sym (stays types steps (Declared number) (behind_form types number (forms.Restriction place base facets) here))) (within, ap is_simple_form here)
simple_end declared types are steps number (forms.List place item) here simple within next =
    subst (IsSimpleBase (length declared) types) (sym (stays types steps (Declared number) (behind_form types number (forms.List place item) here))) (within, ap is_simple_form here)
simple_end declared types are steps number (forms.SimpleContent (Builtin builtin) facets) here simple within next =
    subst (IsSimpleBase (length declared) types) (sym (stays types steps (Builtin builtin) refl)) (are.read number (forms.SimpleContent (Builtin builtin) facets) here)
simple_end declared types are steps number (forms.SimpleContent (Declared base) facets) here simple within next = next base refl refl (are.read number (forms.SimpleContent (Declared base) facets) here)
simple_end declared types are steps number (forms.ComplexContent base) here simple within next = absurd (true≢false simple)

simple_by_steps : (declared : List TypeName) (types : List TypeForm) → AreReadTypes declared types → (steps number : ℕ) → ends_by_steps (references_of types) steps number ≡ true → number < length types →
    has_complex_content (slice_get types number) ≡ false → IsSimpleBase (length declared) types (simple_base_within types (suc steps) (Declared number))
simple_by_steps declared types are zero number e within simple =
    let (form, here) = element_at types number within in
    let sized = are.sized in
    subst (λ (base : Base). IsSimpleBase (length declared) types (simple_base_within types zero base)) (sym (behind_form types number form here))
    (simple_end declared types are zero number form here (form_has_none types number form here simple) (omega arith) (λ next names follows small. absurd (names_none types number next form here e names)))
simple_by_steps declared types are (suc steps) number e within simple =
    let (form, here) = element_at types number within in
    let sized = are.sized in
    let plain = form_has_none types number form here simple in
    subst (λ (base : Base). IsSimpleBase (length declared) types (simple_base_within types (suc steps) base)) (sym (behind_form types number form here))
    (simple_end declared types are (suc steps) number form here plain (omega arith)
    (λ next names follows small.
    simple_by_steps declared types are steps next (next_ends types steps number next form here e names) (omega arith) (followed_has_none declared types are number form here plain (Declared next) follows)))

pub simple_base_is_simple : (declared : List TypeName) (types : List TypeForm) → AreReadTypes declared types → (base : Base) → IsReadBase (length declared) base → HasNoComplexContent types base →
    IsSimpleBase (length declared) types (simple_base types base)
simple_base_is_simple declared types are (Builtin builtin) read simple =
    subst (IsSimpleBase (length declared) types) (sym (stays types (length types) (Builtin builtin) refl)) read
simple_base_is_simple declared types are (Declared number) read simple =
    let sized = are.sized in
    let within : number < length types = omega arith in
    let (steps, size) = one_less (length types) number within in
    subst (λ (n : ℕ). IsSimpleBase (length declared) types (simple_base_within types n (Declared number))) (sym size)
    (simple_by_steps declared types are steps number (ends_soon declared types are steps number size within) within simple)

-- Types without faulty derivations.
use Rattle.std.proofs.Common.{◌≡◌, ◌∙◌, ℕ, zero, suc, ◌+◌, Bool, true, false, not, List, [], ◌∷◌, slice_get, nat_le, Option, None, Some, refl, sym, ap, subst, arith, if◌then◌else◌}
use Rattle.std.proofs.lemmas.Bool.{true≢false}
use Rattle.gx_schema_syntax.specs.declared.written.ContentKind.{ContentKind}
use Rattle.gx_schema_syntax.specs.declared.written.ContentKind.TheVariants as contents
use Rattle.gx_schema_syntax.specs.declared.written.WrittenFacet.{WrittenFacet}
use Rattle.gx_schema_components.specs.declared.component.Base.{Base}
use Rattle.gx_schema_components.specs.declared.component.Base.TheVariants.{Builtin, Declared}
use Rattle.gx_schema_components.specs.declared.component.ComplexType.{ComplexType}
use Rattle.gx_schema_components.specs.declared.component.Derivation.{Derivation}
use Rattle.gx_schema_components.specs.declared.component.Derivation.TheVariants as derivations
use Rattle.gx_schema_components.specs.declared.component.SimpleType.{SimpleType}
use Rattle.gx_schema_components.specs.declared.component.SimpleType.TheVariants as simple
use Rattle.gx_schema_components.specs.declared.component.TypeComponent.{TypeComponent}
use Rattle.gx_schema_components.specs.declared.component.TypeForm.{TypeForm as ComponentForm}
use Rattle.gx_schema_components.specs.declared.component.TypeForm.TheVariants as components
use Rattle.gx_schema_simple.specs.declared.faults.Fault.{Fault}
use Rattle.gx_schema_simple.specs.declared.type_form.TypeForm.{TypeForm}
use Rattle.gx_schema_simple.specs.declared.type_form.TypeForm.TheVariants as forms
use Rattle.gx_schema_simple.specs.Faults.{earlier_fault}
use Rattle.gx_schema.specs.DerivationFaults.{derivation_fault, derivation_place, first_derivation_fault, has_complex_content, has_derivation_fault, kind_fits_base}
use Rattle.gx_schema.specs.SeenComponents.{is_circular_base, seen_derivation, seen_form, seen_type, seen_types}
use Rattle.gx_schema.specs.TypeForms.{form_of_content, form_of_derivation, form_of_simple_type, form_of_type, forms_of}
use Rattle.gx_schema.proofs.SimpleForms.{HasSimpleBases}

-- ---- no first fault

one_of_two : (t : Bool) (one other : Fault) → (if t then Some one else Some other) ≡ None → ⊥
one_of_two true one other e = cc
one_of_two false one other e = cc

one_none : (one other : Option Fault) → earlier_fault one other ≡ None → one ≡ None
one_none None other e = refl
one_none (Some one) None e = absurd (cc)
one_none (Some one) (Some other) e = absurd (one_of_two (nat_le one.place other.place) one other e)

other_none : (one other : Option Fault) → earlier_fault one other ≡ None → other ≡ None
other_none None other e = e
other_none (Some one) None e = refl
other_none (Some one) (Some other) e = absurd (one_of_two (nat_le one.place other.place) one other e)

none_of_type : (all : List TypeForm) (first : ℕ) (types : List TypeComponent) → first_derivation_fault all first types ≡ None → (number : ℕ) (component : TypeComponent) → slice_get types number ≡ Some component →
    derivation_fault all (first + number) component.form ≡ None
none_of_type all first [] e number component here = absurd (cc)
none_of_type all first (other ∷ types) e zero component here =
    let it : other ≡ component = cc in
    let same : first + zero ≡ first = omega arith in
    ap (λ (n : ℕ). derivation_fault all n component.form) same
    ∙ subst (λ (c : TypeComponent). derivation_fault all first c.form ≡ None) it (one_none (derivation_fault all first other.form) (first_derivation_fault all (suc first) types) e)
none_of_type all first (other ∷ types) e (suc number) component here =
    let same : first + suc number ≡ suc first + number = omega arith in
    ap (λ (n : ℕ). derivation_fault all n component.form) same
    ∙ none_of_type all (suc first) types (other_none (derivation_fault all first other.form) (first_derivation_fault all (suc first) types) e) number component here

not_faulty : (t : Bool) (fault : Fault) → (if t then Some fault else None) ≡ None → t ≡ false
not_faulty true fault e = absurd (cc)
not_faulty false fault e = refl

-- ---- what is seen where nothing is circular

base_is_seen : (is_circular : ℕ → Bool) → ((number : ℕ) → is_circular number ≡ false) → (base : Base) → is_circular_base is_circular base ≡ false
base_is_seen is_circular straight (Builtin builtin) = refl
base_is_seen is_circular straight (Declared number) = straight number

seen_as_is : (is_circular : ℕ → Bool) → ((number : ℕ) → is_circular number ≡ false) → (derivation : Derivation) → seen_derivation is_circular derivation ≡ derivation
seen_as_is is_circular straight derivations.Own = refl
seen_as_is is_circular straight (derivations.Extends from) =
    ap (λ (b : Bool). if b then derivations.Own else derivations.Extends from) (base_is_seen is_circular straight from.base)
seen_as_is is_circular straight (derivations.Restricts from) =
    ap (λ (b : Bool). if b then derivations.Own else derivations.Restricts from) (base_is_seen is_circular straight from.base)

seen_at : (is_circular : ℕ → Bool) (types : List TypeComponent) (number : ℕ) (component : TypeComponent) → slice_get types number ≡ Some component → slice_get (seen_types is_circular types) number ≡ Some (seen_type is_circular component)
seen_at is_circular [] number component here = absurd (cc)
seen_at is_circular (other ∷ types) zero component here = let it : other ≡ component = cc in ap (λ (c : TypeComponent). Some (seen_type is_circular c)) it
seen_at is_circular (other ∷ types) (suc number) component here = seen_at is_circular types number component here

component_at : (types : List TypeComponent) (number : ℕ) (form : TypeForm) → slice_get (forms_of types) number ≡ Some form → (component : TypeComponent) × (slice_get types number ≡ Some component) × (form_of_type component.form ≡ form)
component_at [] number form here = absurd (cc)
component_at (component ∷ types) zero form here = let it : form_of_type component.form ≡ form = cc in (component, refl, it)
component_at (component ∷ types) (suc number) form here = component_at types number form here

-- ---- simple content

true_of_not : (t : Bool) → not t ≡ false → t ≡ true
true_of_not true e = refl
true_of_not false e = absurd (true≢false e)

false_of_not : (t : Bool) → not t ≡ true → t ≡ false
false_of_not true e = absurd (true≢false (sym e))
false_of_not false e = refl

content_is_simple : (all : List TypeForm) (content : ContentKind) (own base : Base) (facets kept : List WrittenFacet) → form_of_content content own facets ≡ forms.SimpleContent base kept →
    kind_fits_base all content own ≡ true → (other : ℕ) → base ≡ Declared other → has_complex_content (slice_get all other) ≡ false
content_is_simple all contents.Simple own base facets kept e fits other f =
    let same : own ≡ base = cc in
    false_of_not (has_complex_content (slice_get all other)) (sym (ap (kind_fits_base all contents.Simple) (same ∙ f)) ∙ fits)
content_is_simple all contents.Complex own base facets kept e fits other f = absurd (cc)

derivation_is_simple : (all : List TypeForm) (derivation : Derivation) (base : Base) (facets kept : List WrittenFacet) → form_of_derivation derivation facets ≡ forms.SimpleContent base kept →
    has_derivation_fault all derivation ≡ false → (other : ℕ) → base ≡ Declared other → has_complex_content (slice_get all other) ≡ false
derivation_is_simple all derivations.Own base facets kept e sound other f = absurd (cc)
derivation_is_simple all (derivations.Extends from) base facets kept e sound other f =
    content_is_simple all from.content from.base base facets kept e (true_of_not (kind_fits_base all from.content from.base) sound) other f
derivation_is_simple all (derivations.Restricts from) base facets kept e sound other f =
    content_is_simple all from.content from.base base facets kept e (true_of_not (kind_fits_base all from.content from.base) sound) other f

no_simple_type : (definition : SimpleType) (base : Base) (kept : List WrittenFacet) → form_of_simple_type definition ≡ forms.SimpleContent base kept → ⊥
no_simple_type (simple.Restriction place own facets) base kept e = cc
no_simple_type (simple.List place item) base kept e = cc

form_is_simple : (all : List TypeForm) (number : ℕ) (form : ComponentForm) (is_circular : ℕ → Bool) → ((n : ℕ) → is_circular n ≡ false) → (base : Base) (kept : List WrittenFacet) → form_of_type form ≡ forms.SimpleContent base kept →
    ((definition : ComplexType) → form ≡ components.Complex definition → has_derivation_fault all (seen_derivation is_circular definition.derivation) ≡ false) → (other : ℕ) → base ≡ Declared other → has_complex_content (slice_get all other) ≡ false
form_is_simple all number (components.Simple definition) is_circular straight base kept e sound other f = absurd (no_simple_type definition base kept e)
form_is_simple all number (components.Complex definition) is_circular straight base kept e sound other f =
    derivation_is_simple all definition.derivation base definition.facets kept e
    (sym (ap (has_derivation_fault all) (seen_as_is is_circular straight definition.derivation)) ∙ sound definition refl) other f

sound_at : (all : List TypeForm) (is_circular : ℕ → Bool) (types : List TypeComponent) → first_derivation_fault all 0 (seen_types is_circular types) ≡ None → (number : ℕ) (component : TypeComponent) → slice_get types number ≡ Some component →
    (definition : ComplexType) → component.form ≡ components.Complex definition → has_derivation_fault all (seen_derivation is_circular definition.derivation) ≡ false
sound_at all is_circular types e number component here definition f =
    let told = none_of_type all 0 (seen_types is_circular types) e number (seen_type is_circular component) (seen_at is_circular types number component here) in
    let derivation = seen_derivation is_circular definition.derivation in
    not_faulty (has_derivation_fault all derivation) (record { place = derivation_place derivation; number = 0 + number })
    (subst (λ (form : ComponentForm). derivation_fault all (0 + number) (seen_form is_circular form) ≡ None) f told)

pub simple_bases_fit : (types : List TypeComponent) (is_circular : ℕ → Bool) → ((number : ℕ) → is_circular number ≡ false) → first_derivation_fault (forms_of types) 0 (seen_types is_circular types) ≡ None →
    HasSimpleBases (forms_of types)
simple_bases_fit types is_circular straight e number base facets here other f =
    let (component, there, it) = component_at types number (forms.SimpleContent base facets) here in
    form_is_simple (forms_of types) number component.form is_circular straight base facets it (sound_at (forms_of types) is_circular types e number component there) other f

-- The laws of types.
use Rattle.std.specs.Prelude.{◌≡◌, ◌≢◌, ℕ, ◌<◌, Bool, false, List, [], length, None, Some, slice_get}
use Rattle.gx_schema_syntax.specs.declared.written.WrittenFacet.{WrittenFacet}
use Rattle.gx_schema_simple.specs.Circles.{is_circular}
use Rattle.gx_schema_simple.specs.CircularTypes.{first_circular, HasNoCircle}
use Rattle.gx_schema_simple.specs.Ends.{EndSoon, NamesTypes}
use Rattle.gx_schema_simple.specs.Faults.{first_type_fault, is_complex, is_list, values_seen_among, simple_faults, type_faults}
use Rattle.gx_schema_simple.specs.Forms.{followed_bases, references_of}
use Rattle.gx_schema_simple.specs.Varieties.{variety_of, variety_of_base}
use Rattle.gx_schema_components.specs.declared.component.Base.{Base}
use Rattle.gx_schema_simple.specs.declared.type_form.TypeForm.{TypeForm}
use Rattle.gx_schema_simple.specs.declared.type_form.TypeForm.TheVariants as forms
use Rattle.gx_schema_simple.specs.declared.variety.TypeVariety.{TypeVariety}
use Rattle.gx_schema_simple.specs.declared.variety.TypeVariety.TheVariants as varieties

-- where no number is the first on a circle, no type stands on one
abbrev pub NoneIsCircular : Type 0
NoneIsCircular = (types : List TypeForm) → first_circular types ≡ None → HasNoCircle types

-- ---- varieties

-- the variety of a type of a form, over the varieties of declared types
abbrev pub variety_by : (ℕ → TypeVariety) → TypeForm → TypeVariety
variety_by known (forms.Restriction place base facets) = variety_of_base known base
variety_by known (forms.List place item) = varieties.List item
variety_by known (forms.SimpleContent base facets) = variety_of_base known base
variety_by known (forms.ComplexContent base) = varieties.NoValues

-- the variety of a type that stands on no circle is that of its form
abbrev pub VarietiesSolve : Type 0
VarietiesSolve = (types : List TypeForm) (number : ℕ) (form : TypeForm) → slice_get types number ≡ Some form → is_circular (references_of types) number ≡ false →
    variety_of types number ≡ variety_by (variety_of types) form

-- without circles nothing is hidden
abbrev pub NothingIsHidden : Type 0
NothingIsHidden = (types : List TypeForm) → HasNoCircle types → NamesTypes types → (number : ℕ) → number < length types → variety_of types number ≢ varieties.Hidden

-- ---- ends

-- without circles what types name ends, and so do their bases
abbrev pub TypesEnd : Type 0
TypesEnd = (types : List TypeForm) → HasNoCircle types → EndSoon (references_of types) × EndSoon (followed_bases types)

-- ---- faults

-- a type is complex
abbrev pub is_complex_among : List TypeForm → Base → Bool
is_complex_among types base = is_complex (is_circular (references_of types)) types base

-- what types without faults keep to: no type has a fault, no items are complex or lists, and no simple type restricts a complex one
pub record AreConsistent (types : List TypeForm) : Type 0 where
  pub faults : (number : ℕ) (form : TypeForm) → slice_get types number ≡ Some form → type_faults types (values_seen_among types) number form ≡ []
  pub items : (number place : ℕ) (item : Base) → slice_get types number ≡ Some (forms.List place item) →
      (is_complex_among types item ≡ false) × (is_list (variety_of_base (variety_of types) item) ≡ false)
  pub bases : (number place : ℕ) (base : Base) (facets : List WrittenFacet) → slice_get types number ≡ Some (forms.Restriction place base facets) →
      is_complex_among types base ≡ false

-- where there is no first fault, there is none
abbrev pub NoFirstFault : Type 0
NoFirstFault = (types : List TypeForm) → first_type_fault (simple_faults types) ≡ None → AreConsistent types

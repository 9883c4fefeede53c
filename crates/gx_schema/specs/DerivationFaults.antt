-- Simple content over a base without it, and complex content over one that is simple or has simple content (XML Schema 1.0 part 1, sections
-- 3.4.3 and 3.4.6).
use Rattle.std.specs.Prelude.{ℕ, suc, Bool, true, false, not, List, [], ◌∷◌, Option, None, Some, slice_get, if◌then◌else◌}
use Rattle.gx_schema_syntax.specs.declared.written.ContentKind.{ContentKind}
use Rattle.gx_schema_syntax.specs.declared.written.ContentKind.TheVariants as contents
use Rattle.gx_schema_components.specs.declared.component.Base.{Base}
use Rattle.gx_schema_components.specs.declared.component.Base.TheVariants.{Builtin, Declared}
use Rattle.gx_schema_components.specs.declared.component.Derivation.{Derivation}
use Rattle.gx_schema_components.specs.declared.component.Derivation.TheVariants as derivations
use Rattle.gx_schema_components.specs.declared.component.TypeComponent.{TypeComponent}
use Rattle.gx_schema_components.specs.declared.component.TypeForm.{TypeForm as ComponentForm}
use Rattle.gx_schema_components.specs.declared.component.TypeForm.TheVariants as components
use Rattle.gx_schema_simple.specs.declared.faults.Fault.{Fault}
use Rattle.gx_schema_simple.specs.declared.type_form.TypeForm.{TypeForm}
use Rattle.gx_schema_simple.specs.declared.type_form.TypeForm.TheVariants as forms
use Rattle.gx_schema_simple.specs.Faults.{earlier_fault}

abbrev pub has_complex_content : Option TypeForm → Bool
has_complex_content (Some (forms.ComplexContent base)) = true
has_complex_content _ = false

abbrev pub has_simple_values : Option TypeForm → Bool
has_simple_values (Some (forms.Restriction place base facets)) = true
has_simple_values (Some (forms.List place item)) = true
has_simple_values (Some (forms.SimpleContent base facets)) = true
has_simple_values _ = false

abbrev pub kind_fits_base : List TypeForm → ContentKind → Base → Bool
kind_fits_base types contents.Simple (Builtin builtin) = true
kind_fits_base types contents.Simple (Declared number) = not (has_complex_content (slice_get types number))
kind_fits_base types contents.Complex (Builtin builtin) = false
kind_fits_base types contents.Complex (Declared number) = not (has_simple_values (slice_get types number))

-- ---- all

abbrev pub has_derivation_fault : List TypeForm → Derivation → Bool
has_derivation_fault all derivations.Own = false
has_derivation_fault all (derivations.Extends from) = not (kind_fits_base all from.content from.base)
has_derivation_fault all (derivations.Restricts from) = not (kind_fits_base all from.content from.base)

abbrev pub derivation_place : Derivation → ℕ
derivation_place derivations.Own = 0
derivation_place (derivations.Extends from) = from.place
derivation_place (derivations.Restricts from) = from.place

abbrev pub derivation_fault : List TypeForm → (number : ℕ) → ComponentForm → Option Fault
derivation_fault all number (components.Simple definition) = None
derivation_fault all number (components.Complex definition) =
    if has_derivation_fault all definition.derivation then Some (record { place = derivation_place definition.derivation; number = number }) else None

-- the first fault by place of types, of which the first has this number among all types
abbrev pub first_derivation_fault : List TypeForm → (number : ℕ) → List TypeComponent → Option Fault
first_derivation_fault all number [] = None
first_derivation_fault all number (component ∷ others) = earlier_fault (derivation_fault all number component.form) (first_derivation_fault all (suc number) others)

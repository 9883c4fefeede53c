-- The content and the positions of a type look at nothing but those of the type that it extends.
use Rattle.std.specs.Prelude.{◌≡◌, ℕ, zero, ◌+◌, Bool, true, false, [], ◌∷◌, refl}
use Rattle.std.specs.List.{Contains}
use Rattle.std.proofs.Common.{ap, arith}
use Rattle.gx_types.specs.SequenceType.{SequenceType}
use Rattle.gx_references.specs.Known.{SameMeaningsOn}
use Rattle.gx_schema_components.specs.declared.component.Base.{Base}
use Rattle.gx_schema_components.specs.declared.component.Base.TheVariants.{Builtin, Declared}
use Rattle.gx_schema_components.specs.declared.component.TypeComponent.{TypeComponent}
use Rattle.gx_schema_components.specs.declared.component.TypeForm.{TypeForm}
use Rattle.gx_schema_components.specs.declared.component.TypeForm.TheVariants as forms
use Rattle.gx_schema_content.specs.declared.effective.Effective.{Effective}
use Rattle.gx_schema_content.specs.declared.source.ContentSource.{ContentSource}
use Rattle.gx_schema_content.specs.declared.source.ContentSource.TheVariants as sources
use Rattle.gx_schema_content.specs.GroupPositions.{counted}
use Rattle.gx_schema_content.specs.Sources.{declared_base, extended_by, extended_by_form, extended_types, source_of}
use Rattle.gx_schema_content.specs.TypeContents.{content_of_base, written_content, sourced_content, form_content, type_content_that_fits}
use Rattle.gx_schema_content.specs.TypePositions.{positions_of_base, written_positions, sourced_positions, form_positions, component_positions}

pub only_member : (number : ℕ) → Contains (number ∷ []) number
only_member number = (zero, omega arith, refl)

base_agrees : (f g : ℕ → Effective) (base : Base) → SameMeaningsOn f g (declared_base base) → content_of_base f base ≡ content_of_base g base
base_agrees f g (Builtin builtin) agree = refl
base_agrees f g (Declared number) agree = agree number (only_member number)

sourced_content_agrees : (f g : ℕ → Effective) (source : ContentSource) (mixed : Bool) (written : SequenceType) → SameMeaningsOn f g (extended_by source) →
    sourced_content f source mixed written ≡ sourced_content g source mixed written
sourced_content_agrees f g sources.Simple mixed written agree = refl
sourced_content_agrees f g sources.Written mixed written agree = refl
sourced_content_agrees f g (sources.Behind base) mixed written agree =
    ap (λ (known : Effective). sourced_content (λ _. known) (sources.Behind (Declared 0)) mixed written) (base_agrees f g base agree)

form_content_agrees : (groups : ℕ → SequenceType) (f g : ℕ → Effective) (form : TypeForm) → SameMeaningsOn f g (extended_by_form form) → form_content groups f form ≡ form_content groups g form
form_content_agrees groups f g (forms.Simple definition) agree = refl
form_content_agrees groups f g (forms.Complex definition) agree = sourced_content_agrees f g (source_of definition.derivation) definition.mixed (written_content groups definition.content) agree

pub type_content_that_fits_agrees : (fits : Bool) (groups : ℕ → SequenceType) (f g : ℕ → Effective) (component : TypeComponent) → SameMeaningsOn f g (extended_types component) →
    type_content_that_fits fits groups f component ≡ type_content_that_fits fits groups g component
type_content_that_fits_agrees true groups f g component agree = form_content_agrees groups f g component.form agree
type_content_that_fits_agrees false groups f g component agree = refl

positions_of_base_agree : (f g : ℕ → ℕ) (base : Base) → SameMeaningsOn f g (declared_base base) → positions_of_base f base ≡ positions_of_base g base
positions_of_base_agree f g (Builtin builtin) agree = refl
positions_of_base_agree f g (Declared number) agree = agree number (only_member number)

sourced_positions_agree : (f g : ℕ → ℕ) (source : ContentSource) (written : ℕ) → SameMeaningsOn f g (extended_by source) → sourced_positions f source written ≡ sourced_positions g source written
sourced_positions_agree f g sources.Simple written agree = refl
sourced_positions_agree f g sources.Written written agree = refl
sourced_positions_agree f g (sources.Behind base) written agree = ap (λ (count : ℕ). count + written) (positions_of_base_agree f g base agree)

form_positions_agree : (groups f g : ℕ → ℕ) (form : TypeForm) → SameMeaningsOn f g (extended_by_form form) → form_positions groups f form ≡ form_positions groups g form
form_positions_agree groups f g (forms.Simple definition) agree = refl
form_positions_agree groups f g (forms.Complex definition) agree = sourced_positions_agree f g (source_of definition.derivation) (written_positions groups definition.content) agree

pub type_positions_agree : (groups f g : ℕ → ℕ) (component : TypeComponent) → SameMeaningsOn f g (extended_types component) →
    counted (component_positions groups f component) ≡ counted (component_positions groups g component)
type_positions_agree groups f g component agree = ap counted (form_positions_agree groups f g component.form agree)

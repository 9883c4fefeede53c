-- The contents of complex types (XML Schema 1.0 part 1, section 3.4.2).
use Rattle.std.specs.Prelude.{ℕ, Bool, true, false, ◌||◌, ◌&&◌, Option, None, Some, if◌then◌else◌}
use Rattle.gx_types.specs.SequenceType.{SequenceType, never, nothing, item, both, either, optional, star, plus}
use Rattle.gx_types.specs.TypeRules.{joined_types}
use Rattle.gx_schema_components.specs.declared.component.Base.{Base}
use Rattle.gx_schema_components.specs.declared.component.Base.TheVariants.{Builtin, Declared}
use Rattle.gx_schema_components.specs.declared.component.ComplexType.{ComplexType}
use Rattle.gx_schema_components.specs.declared.component.Particle.{Particle}
use Rattle.gx_schema_components.specs.declared.component.TypeComponent.{TypeComponent}
use Rattle.gx_schema_components.specs.declared.component.TypeForm.{TypeForm}
use Rattle.gx_schema_components.specs.declared.component.TypeForm.TheVariants as forms
use Rattle.gx_schema_content.specs.declared.effective.Effective.{Effective}
use Rattle.gx_schema_content.specs.declared.source.ContentSource.{ContentSource}
use Rattle.gx_schema_content.specs.declared.source.ContentSource.TheVariants as sources
use Rattle.gx_schema_content.specs.GroupContents.{particle_content}
use Rattle.gx_schema_content.specs.Sources.{source_of}

-- the content of a type that is built in or simple, or has simple content, is empty, and without texts
abbrev pub empty_content : Effective
empty_content = record { content = nothing; mixed = false }

abbrev pub content_of_base : (ℕ → Effective) → Base → Effective
content_of_base types (Builtin builtin) = empty_content
content_of_base types (Declared number) = types number

-- the content that is written at a type
abbrev pub written_content : (ℕ → SequenceType) → Option Particle → SequenceType
written_content groups None = nothing
written_content groups (Some particle) = particle_content groups particle

abbrev pub is_nothing : SequenceType → Bool
is_nothing nothing = true
is_nothing never = false
is_nothing (item kind) = false
is_nothing (both first second) = false
is_nothing (either first second) = false
is_nothing (optional part) = false
is_nothing (star part) = false
is_nothing (plus part) = false

-- what a type holds, over the contents of types
abbrev pub sourced_content : (ℕ → Effective) → ContentSource → (mixed : Bool) (written : SequenceType) → Effective
sourced_content types sources.Simple mixed written = empty_content
sourced_content types sources.Written mixed written = record { content = written; mixed = mixed }
sourced_content types (sources.Behind base) mixed written = record {
  content = joined_types (content_of_base types base).content written;
  mixed = mixed || (is_nothing written && (content_of_base types base).mixed);
}

abbrev pub complex_content : (ℕ → SequenceType) → (ℕ → Effective) → ComplexType → Effective
complex_content groups types definition = sourced_content types (source_of definition.derivation) definition.mixed (written_content groups definition.content)

abbrev pub form_content : (ℕ → SequenceType) → (ℕ → Effective) → TypeForm → Effective
form_content groups types (forms.Simple definition) = empty_content
form_content groups types (forms.Complex definition) = complex_content groups types definition

-- what is put for a type whose content is not known, or has too many positions
abbrev pub unknown_content : Effective
unknown_content = record { content = never; mixed = false }

abbrev pub type_content_that_fits : Bool → (ℕ → SequenceType) → (ℕ → Effective) → TypeComponent → Effective
type_content_that_fits fits groups types component = if fits then form_content groups types component.form else unknown_content

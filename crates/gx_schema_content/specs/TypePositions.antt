-- How many elements stand in the contents of types, texts left out.
use Rattle.std.specs.Prelude.{ℕ, ◌+◌, Option, None, Some}
use Rattle.gx_schema_components.specs.declared.component.Base.{Base}
use Rattle.gx_schema_components.specs.declared.component.Base.TheVariants.{Builtin, Declared}
use Rattle.gx_schema_components.specs.declared.component.ComplexType.{ComplexType}
use Rattle.gx_schema_components.specs.declared.component.Particle.{Particle}
use Rattle.gx_schema_components.specs.declared.component.TypeComponent.{TypeComponent}
use Rattle.gx_schema_components.specs.declared.component.TypeForm.{TypeForm}
use Rattle.gx_schema_components.specs.declared.component.TypeForm.TheVariants as forms
use Rattle.gx_schema_content.specs.declared.source.ContentSource.{ContentSource}
use Rattle.gx_schema_content.specs.declared.source.ContentSource.TheVariants as sources
use Rattle.gx_schema_content.specs.GroupPositions.{particle_positions}
use Rattle.gx_schema_content.specs.Sources.{source_of}

abbrev pub positions_of_base : (ℕ → ℕ) → Base → ℕ
positions_of_base types (Builtin builtin) = 0
positions_of_base types (Declared number) = types number

abbrev pub written_positions : (ℕ → ℕ) → Option Particle → ℕ
written_positions groups None = 0
written_positions groups (Some particle) = particle_positions groups particle

abbrev pub sourced_positions : (ℕ → ℕ) → ContentSource → (written : ℕ) → ℕ
sourced_positions types sources.Simple written = 0
sourced_positions types sources.Written written = written
sourced_positions types (sources.Behind base) written = positions_of_base types base + written

abbrev pub complex_positions : (ℕ → ℕ) → (ℕ → ℕ) → ComplexType → ℕ
complex_positions groups types definition = sourced_positions types (source_of definition.derivation) (written_positions groups definition.content)

abbrev pub form_positions : (ℕ → ℕ) → (ℕ → ℕ) → TypeForm → ℕ
form_positions groups types (forms.Simple definition) = 0
form_positions groups types (forms.Complex definition) = complex_positions groups types definition

-- over the positions of groups and of types
abbrev pub component_positions : (ℕ → ℕ) → (ℕ → ℕ) → TypeComponent → ℕ
component_positions groups types component = form_positions groups types component.form

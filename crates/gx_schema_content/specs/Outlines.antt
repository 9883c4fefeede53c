-- What is seen of the contents of groups and types without writing them out: whether they are none, or empty.
use Rattle.std.specs.Prelude.{ℕ, zero, suc, Bool, true, false, ◌||◌, ◌&&◌, List, Option, None, Some, fold, if◌then◌else◌}
use Rattle.gx_schema_syntax.specs.declared.role.Compositor.{Compositor}
use Rattle.gx_schema_syntax.specs.declared.role.Compositor.TheVariants.{Sequence, Choice}
use Rattle.gx_schema_components.specs.declared.component.Base.{Base}
use Rattle.gx_schema_components.specs.declared.component.Base.TheVariants.{Builtin, Declared}
use Rattle.gx_schema_components.specs.declared.component.Bounds.{Bounds}
use Rattle.gx_schema_components.specs.declared.component.ComplexType.{ComplexType}
use Rattle.gx_schema_components.specs.declared.component.ModelGroup.{ModelGroup}
use Rattle.gx_schema_components.specs.declared.component.Particle.{Particle}
use Rattle.gx_schema_components.specs.declared.component.Term.{Term}
use Rattle.gx_schema_components.specs.declared.component.Term.TheVariants.{Element, Group}
use Rattle.gx_schema_components.specs.declared.component.TypeComponent.{TypeComponent}
use Rattle.gx_schema_components.specs.declared.component.TypeForm.{TypeForm}
use Rattle.gx_schema_components.specs.declared.component.TypeForm.TheVariants as forms
use Rattle.gx_schema_content.specs.declared.outline.Outline.{Outline}
use Rattle.gx_schema_content.specs.declared.outline.Outline.TheVariants.{Never, Empty, Filled}
use Rattle.gx_schema_content.specs.declared.outline.TypeOutline.{TypeOutline}
use Rattle.gx_schema_content.specs.declared.source.ContentSource.{ContentSource}
use Rattle.gx_schema_content.specs.declared.source.ContentSource.TheVariants as sources
use Rattle.gx_schema_content.specs.Elements.{may_occur}
use Rattle.gx_schema_content.specs.Sources.{source_of}

abbrev pub is_empty_outline : Outline → Bool
is_empty_outline Never = false
is_empty_outline Empty = true
is_empty_outline Filled = false

-- the outline of a content and one behind it
abbrev pub joined_outlines : Outline → Outline → Outline
joined_outlines Never second = Never
joined_outlines Empty second = second
joined_outlines Filled Never = Never
joined_outlines Filled Empty = Filled
joined_outlines Filled Filled = Filled

-- the outline of a choice of two contents
abbrev pub chosen_outlines : Outline → Outline → Outline
chosen_outlines Never second = second
chosen_outlines Empty Never = Empty
chosen_outlines Empty Empty = Empty
chosen_outlines Empty Filled = Filled
chosen_outlines Filled second = Filled

-- the outline of a content that may occur; where it is none and need not occur, only the empty content is left
abbrev pub occurring_outline : (least : ℕ) → Outline → Outline
occurring_outline zero Never = Empty
occurring_outline (suc least) Never = Never
occurring_outline least Empty = Empty
occurring_outline least Filled = Filled

-- the outline of a content as often as bounds say
abbrev pub bounded_outline : Bounds → Outline → Outline
bounded_outline bounds outline = if may_occur bounds.greatest then occurring_outline bounds.least outline else Empty

-- ---- groups

abbrev pub term_outline : (ℕ → Outline) → Term → Outline
term_outline groups (Element name kind) = Filled
term_outline groups (Group number) = groups number

abbrev pub particle_outline : (ℕ → Outline) → Particle → Outline
particle_outline groups particle = bounded_outline particle.bounds (term_outline groups particle.term)

abbrev pub sequence_outline : (ℕ → Outline) → List Particle → Outline
sequence_outline groups particles = fold (λ done particle. joined_outlines done (particle_outline groups particle)) Empty particles

abbrev pub choice_outline : (ℕ → Outline) → List Particle → Outline
choice_outline groups particles = fold (λ done particle. chosen_outlines done (particle_outline groups particle)) Never particles

abbrev pub composed_outline : (ℕ → Outline) → Compositor → List Particle → Outline
composed_outline groups Sequence particles = sequence_outline groups particles
composed_outline groups Choice particles = choice_outline groups particles

abbrev pub group_outline : (ℕ → Outline) → ModelGroup → Outline
group_outline groups group = composed_outline groups group.compositor group.particles

-- ---- types

abbrev pub empty_outline : TypeOutline
empty_outline = record { content = Empty; mixed = false }

-- what is put for a type whose content is not known
abbrev pub unknown_outline : TypeOutline
unknown_outline = record { content = Never; mixed = false }

abbrev pub outline_of_base : (ℕ → TypeOutline) → Base → TypeOutline
outline_of_base types (Builtin builtin) = empty_outline
outline_of_base types (Declared number) = types number

abbrev pub written_outline : (ℕ → Outline) → Option Particle → Outline
written_outline groups None = Empty
written_outline groups (Some particle) = particle_outline groups particle

abbrev pub sourced_outline : (ℕ → TypeOutline) → ContentSource → (mixed : Bool) (written : Outline) → TypeOutline
sourced_outline types sources.Simple mixed written = empty_outline
sourced_outline types sources.Written mixed written = record { content = written; mixed = mixed }
sourced_outline types (sources.Behind base) mixed written = record {
  content = joined_outlines (outline_of_base types base).content written;
  mixed = mixed || (is_empty_outline written && (outline_of_base types base).mixed);
}

abbrev pub complex_outline : (ℕ → Outline) → (ℕ → TypeOutline) → ComplexType → TypeOutline
complex_outline groups types definition = sourced_outline types (source_of definition.derivation) definition.mixed (written_outline groups definition.content)

abbrev pub form_outline : (ℕ → Outline) → (ℕ → TypeOutline) → TypeForm → TypeOutline
form_outline groups types (forms.Simple definition) = empty_outline
form_outline groups types (forms.Complex definition) = complex_outline groups types definition

abbrev pub type_outline : (ℕ → Outline) → (ℕ → TypeOutline) → TypeComponent → TypeOutline
type_outline groups types component = form_outline groups types component.form

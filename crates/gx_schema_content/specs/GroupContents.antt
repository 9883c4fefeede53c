-- The contents of particles and of model groups (XML Schema 1.0 part 1, sections 3.8 and 3.9).
use Rattle.std.specs.Prelude.{ℕ, Bool, List, Option, None, Some, fold, map, if◌then◌else◌}
use Rattle.std.specs.List.{filter_map}
use Rattle.gx_types.specs.SequenceType.{SequenceType, never, nothing, item}
use Rattle.gx_types.specs.TypeRules.{joined_types}
use Rattle.gx_types.specs.Choice.{choice_among}
use Rattle.gx_types.specs.declared.item_type.ItemType.TheVariants as items
use Rattle.gx_schema_components.specs.declared.component.Term.{Term}
use Rattle.gx_schema_components.specs.declared.component.Term.TheVariants.{Element, Group}
use Rattle.gx_schema_components.specs.declared.component.Particle.{Particle}
use Rattle.gx_schema_syntax.specs.declared.role.Compositor.{Compositor}
use Rattle.gx_schema_syntax.specs.declared.role.Compositor.TheVariants.{Sequence, Choice}
use Rattle.gx_schema_components.specs.declared.component.ModelGroup.{ModelGroup}
use Rattle.gx_schema_content.specs.Occurrences.{bounded}

-- the group that a particle holds
abbrev pub group_of_term : Term → Option ℕ
group_of_term (Element name kind) = None
group_of_term (Group number) = Some number

abbrev pub group_of_particle : Particle → Option ℕ
group_of_particle particle = group_of_term particle.term

-- the groups that a group holds
abbrev pub groups_in : ModelGroup → List ℕ
groups_in group = filter_map group_of_particle group.particles

-- the content of what a particle holds, over the contents of groups
abbrev pub term_content : (ℕ → SequenceType) → Term → SequenceType
term_content groups (Element name kind) = item (items.Element (Some name) kind)
term_content groups (Group number) = groups number

abbrev pub particle_content : (ℕ → SequenceType) → Particle → SequenceType
particle_content groups particle = bounded particle.bounds (term_content groups particle.term)

-- the contents of a sequence stand one behind another, and those of a choice are chosen from at once
abbrev pub composed : (ℕ → SequenceType) → Compositor → List Particle → SequenceType
composed groups Sequence particles = fold (λ done particle. joined_types done (particle_content groups particle)) nothing particles
composed groups Choice particles = choice_among (map (particle_content groups) particles)

abbrev pub group_content : (ℕ → SequenceType) → ModelGroup → SequenceType
group_content groups group = composed groups group.compositor group.particles

-- a group of too many positions has no content: what holds it is refused before its content is looked at
abbrev pub content_that_fits : Bool → (ℕ → SequenceType) → ModelGroup → SequenceType
content_that_fits fits groups group = if fits then group_content groups group else never

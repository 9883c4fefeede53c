-- How many elements stand in a content, each as often as it is written out.
use Rattle.std.specs.Prelude.{ℕ, ◌+◌, ◌*◌, List, min, sum_by}
use Rattle.gx_schema_components.specs.declared.component.Term.{Term}
use Rattle.gx_schema_components.specs.declared.component.Term.TheVariants.{Element, Group}
use Rattle.gx_schema_components.specs.declared.component.Particle.{Particle}
use Rattle.gx_schema_components.specs.declared.component.ModelGroup.{ModelGroup}
use Rattle.gx_schema_content.specs.Occurrences.{times_counted}
use Rattle.gx_base.specs.declared.limits.TheConstants.{CONTENT_POSITIONS}

-- over the positions of groups
abbrev pub term_positions : (ℕ → ℕ) → Term → ℕ
term_positions groups (Element name kind) = 1
term_positions groups (Group number) = groups number

abbrev pub particle_positions : (ℕ → ℕ) → Particle → ℕ
particle_positions groups particle = times_counted particle.bounds.least particle.bounds.greatest (term_positions groups particle.term)

-- the particles of a sequence stand together, and those of a choice are all counted
abbrev pub positions_together : (ℕ → ℕ) → List Particle → ℕ
positions_together groups particles = sum_by (particle_positions groups) particles

abbrev pub group_positions : (ℕ → ℕ) → ModelGroup → ℕ
group_positions groups group = positions_together groups group.particles

-- positions are counted to one more than the limit
abbrev pub counted : ℕ → ℕ
counted positions = min positions (CONTENT_POSITIONS + 1)

-- the positions of a content, where its texts count
abbrev pub positions_with_texts : ℕ → ℕ
positions_with_texts positions = 1 + 2 * positions

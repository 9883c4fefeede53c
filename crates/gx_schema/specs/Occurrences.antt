-- How often particles occur (XML Schema 1.0 part 1, sections 3.9.1 and 3.9.6), and the first particle that breaks a rule on it.
use Rattle.std.specs.Prelude.{ℕ, suc, Bool, false, not, nat_lt, List, [], ◌∷◌, Option, None, Some}
use Rattle.std.specs.Option.{option_map, option_or}
use Rattle.gx_schema_syntax.specs.declared.written.Bounds.{Bounds}
use Rattle.gx_schema_syntax.specs.declared.written.GlobalDeclaration.{GlobalDeclaration}
use Rattle.gx_schema_syntax.specs.declared.written.GlobalDeclaration.TheVariants.{Element, Attribute, Group, AttributeGroup}
use Rattle.gx_schema_syntax.specs.declared.written.TypeDeclaration.{TypeDeclaration}
use Rattle.gx_schema_syntax.specs.declared.written.TypeDefinition.{TypeDefinition}
use Rattle.gx_schema_syntax.specs.declared.written.TypeDefinition.TheVariants.{Simple, Complex}
use Rattle.gx_schema_syntax.specs.DocumentTree.{DocumentTree}
use Rattle.gx_schema_syntax.specs.ParticleTree.{ParticleTree, ParticleTrees, an_element, a_group, a_model_group, no_particles, a_particle}
use Rattle.gx_schema_components.specs.Bounds.{is_at_most_greatest, number_of_text}
use Rattle.gx_schema.specs.declared.found.Found.{Found}
use Rattle.gx_schema.specs.declared.occurrences.OccurrenceRule.{OccurrenceRule}
use Rattle.gx_schema.specs.declared.occurrences.OccurrenceRule.TheVariants.{Order, Limit}
use Rattle.gx_schema.specs.FirstFound.{earlier_found, first_found, found_in_definition, found_in_type, place_where}

-- the greatest maxOccurs
abbrev pub occurrence_limit : ℕ
occurrence_limit = 64

abbrev pub is_past_occurrences : Option (List ℕ) → Bool
is_past_occurrences None = false
is_past_occurrences (Some greatest) = nat_lt occurrence_limit (number_of_text greatest)

-- minOccurs is above maxOccurs; maxOccurs is a number above the limit
abbrev pub breaks_rule : OccurrenceRule → Bounds → Bool
breaks_rule Order bounds = not (is_at_most_greatest (number_of_text bounds.least) (option_map number_of_text bounds.greatest))
breaks_rule Limit bounds = is_past_occurrences bounds.greatest

-- ---- the first particle that breaks a rule, in document order: a model group stands in front of its particles

abbrev mutual
  pub first_breaking : OccurrenceRule → ParticleTree → Option ℕ
  first_breaking rule (an_element place bounds declaration) = place_where (breaks_rule rule bounds) place
  first_breaking rule (a_group place bounds reference) = place_where (breaks_rule rule bounds) place
  first_breaking rule (a_model_group place bounds compositor particles) = option_or (place_where (breaks_rule rule bounds) place) (first_breaking_among rule particles)

  pub first_breaking_among : OccurrenceRule → ParticleTrees → Option ℕ
  first_breaking_among rule no_particles = None
  first_breaking_among rule (a_particle first others) = option_or (first_breaking rule first) (first_breaking_among rule others)

abbrev pub first_breaking_in : OccurrenceRule → Option ParticleTree → Option ℕ
first_breaking_in rule None = None
first_breaking_in rule (Some particle) = first_breaking rule particle

abbrev pub first_breaking_of : OccurrenceRule → TypeDefinition → Option ℕ
first_breaking_of rule (Simple definition) = None
first_breaking_of rule (Complex definition) = first_breaking_in rule definition.particle

-- ---- shown with the type or the group definition that holds it most closely

abbrev pub broken_in_type : OccurrenceRule → (file : ℕ) → TypeDeclaration → Option Found
broken_in_type rule file declaration = option_map (found_in_type file declaration.name) (first_breaking_of rule declaration.definition)

abbrev pub broken_in_global : OccurrenceRule → (file : ℕ) → GlobalDeclaration → Option Found
broken_in_global rule file (Element place name kind) = None
broken_in_global rule file (Attribute place name kind) = None
broken_in_global rule file (Group place name particle) = option_map (found_in_definition file name) (first_breaking_in rule particle)
broken_in_global rule file (AttributeGroup place name attributes) = None

abbrev pub broken_in_document : OccurrenceRule → (file : ℕ) → DocumentTree → Option Found
broken_in_document rule file document = earlier_found (first_found (broken_in_type rule file) document.types) (first_found (broken_in_global rule file) document.declarations)

abbrev pub broken_from : OccurrenceRule → (file : ℕ) → List DocumentTree → Option Found
broken_from rule file [] = None
broken_from rule file (document ∷ documents) = earlier_found (broken_in_document rule file document) (broken_from rule (suc file) documents)

-- the first particle by place whose minOccurs is above its maxOccurs
abbrev pub disordered_bounds : List DocumentTree → Option Found
disordered_bounds documents = broken_from Order 0 documents

-- the first particle by place whose maxOccurs is past the limit
abbrev pub past_occurrence_limit : List DocumentTree → Option Found
past_occurrence_limit documents = broken_from Limit 0 documents

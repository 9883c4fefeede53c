-- Contents have no more positions than are counted.
use Rattle.std.proofs.Common.{◌≡◌, ℕ, zero, suc, ◌+◌, ◌-◌, ◌*◌, ◌≤◌, Bool, true, false, List, [], ◌∷◌, length, Option, None, Some, map, slice_get, if◌then◌else◌, refl, ap, subst, arith}
use Rattle.std.specs.Prelude.{fold, min, nat_le}
use Rattle.std.specs.List.{list_any}
use Rattle.std.proofs.lemmas.Bool.{leb-true}
use Rattle.std.proofs.lemmas.Nat.{mul-le}
use Rattle.gx_base.specs.declared.limits.TheConstants.{CONTENT_POSITIONS}
use Rattle.gx_types.specs.SequenceType.{SequenceType, never, nothing, item, both, either, optional, star, plus}
use Rattle.gx_types.specs.TypeRules.{joined_types, positions_of}
use Rattle.gx_types.specs.Indicator.{optional_of}
use Rattle.gx_types.specs.Choice.{gathered, has_empty, with_members}
use Rattle.gx_type_laws.proofs.Positions.{joined_positions, optional_positions, star_positions, members_positions}
use Rattle.gx_references.specs.References.{meaning_in, meaning_within}
use Rattle.gx_schema_syntax.specs.declared.role.Compositor.{Compositor}
use Rattle.gx_schema_syntax.specs.declared.role.Compositor.TheVariants.{Sequence, Choice}
use Rattle.gx_schema_components.specs.declared.component.Base.{Base}
use Rattle.gx_schema_components.specs.declared.component.Base.TheVariants.{Builtin, Declared}
use Rattle.gx_schema_components.specs.declared.component.Bounds.{Bounds}
use Rattle.gx_schema_components.specs.declared.component.ModelGroup.{ModelGroup}
use Rattle.gx_schema_components.specs.declared.component.Particle.{Particle}
use Rattle.gx_schema_components.specs.declared.component.Term.{Term}
use Rattle.gx_schema_components.specs.declared.component.Term.TheVariants.{Element, Group}
use Rattle.gx_schema_components.specs.declared.component.TypeComponent.{TypeComponent}
use Rattle.gx_schema_components.specs.declared.component.TypeForm.{TypeForm}
use Rattle.gx_schema_components.specs.declared.component.TypeForm.TheVariants as forms
use Rattle.gx_schema_content.specs.declared.effective.Effective.{Effective}
use Rattle.gx_schema_content.specs.declared.source.ContentSource.{ContentSource}
use Rattle.gx_schema_content.specs.declared.source.ContentSource.TheVariants as sources
use Rattle.gx_schema_content.specs.ContentKnots.{content_of_group, content_of_type, fitting_group, fitting_type}
use Rattle.gx_schema_content.specs.GroupContents.{composed, content_that_fits, group_content, groups_in, particle_content, term_content}
use Rattle.gx_schema_content.specs.GroupPositions.{counted, group_positions, particle_positions, positions_together, positions_with_texts, term_positions}
use Rattle.gx_schema_content.specs.Knots.{all_end}
use Rattle.gx_schema_content.specs.Laws.{ContentsAreBounded}
use Rattle.gx_schema_content.specs.MixedContents.{maybe_text, model_of, with_texts}
use Rattle.gx_schema_content.specs.Occurrences.{bounded, copies, further_copies, least_copies, optional_copies, times_counted}
use Rattle.gx_schema_content.specs.PositionKnots.{counted_group, counted_type, group_fits, positions_of_group, positions_of_type, type_fits}
use Rattle.gx_schema_content.specs.Sources.{extended_types, source_of}
use Rattle.gx_schema_content.specs.TypeContents.{content_of_base, form_content, sourced_content, type_content_that_fits, unknown_content, written_content}
use Rattle.gx_schema_content.specs.TypePositions.{component_positions, form_positions, positions_of_base, sourced_positions, written_positions}

-- ---- occurrences

copied_positions : (count positions : ℕ) (t : SequenceType) → positions_of t ≤ positions → positions_of (copies count t) ≤ positions * count
copied_positions zero positions t few = omega arith
copied_positions (suc count) positions t few =
    let joined = joined_positions (copies count t) t in
    let others = copied_positions count positions t few in
    omega arith

optional_copies_positions : (count positions : ℕ) (t : SequenceType) → positions_of t ≤ positions → positions_of (optional_copies count t) ≤ positions * count
optional_copies_positions zero positions t few = omega arith
optional_copies_positions (suc count) positions t few =
    let made = optional_positions (joined_types t (optional_copies count t)) in
    let joined = joined_positions t (optional_copies count t) in
    let others = optional_copies_positions count positions t few in
    omega arith

further_positions : (least : ℕ) (greatest : Option ℕ) (positions : ℕ) (t : SequenceType) → positions_of t ≤ positions →
    positions_of (copies (least_copies least greatest) t) + positions_of (further_copies least greatest t) ≤ times_counted least greatest positions
further_positions least None positions t few =
    let starred = star_positions t in
    let copied = copied_positions least positions t few in
    let product : positions * (least + 1) ≡ positions * least + positions = omega arith in
    omega arith
further_positions least (Some greatest) positions t few =
    let copied = copied_positions (min least greatest) positions t few in
    let others = optional_copies_positions (greatest - least) positions t few in
    let parted : min least greatest + (greatest - least) ≡ greatest = omega arith in
    let product : positions * (min least greatest + (greatest - least)) ≡ positions * min least greatest + positions * (greatest - least) = omega arith in
    let whole : positions * (min least greatest + (greatest - least)) ≡ positions * greatest = ap (λ (n : ℕ). positions * n) parted in
    omega arith

bounded_positions : (bounds : Bounds) (positions : ℕ) (t : SequenceType) → positions_of t ≤ positions → positions_of (bounded bounds t) ≤ times_counted bounds.least bounds.greatest positions
bounded_positions bounds positions t few =
    let joined = joined_positions (copies (least_copies bounds.least bounds.greatest) t) (further_copies bounds.least bounds.greatest t) in
    let parts = further_positions bounds.least bounds.greatest positions t few in
    omega arith

-- ---- choices

positions_where : (test : Bool) (first second : SequenceType) (positions : ℕ) → positions_of first ≤ positions → positions_of second ≤ positions → positions_of (if test then first else second) ≤ positions
positions_where true first second positions few others = few
positions_where false first second positions few others = others

-- ---- model groups

-- positions are counted for each group, and there are no more
abbrev AreCounted : (contents : ℕ → SequenceType) (positions : ℕ → ℕ) → Type 0
AreCounted contents positions = (number : ℕ) → positions_of (contents number) ≤ positions number

particle_is_counted : (contents : ℕ → SequenceType) (positions : ℕ → ℕ) → AreCounted contents positions → (particle : Particle) → positions_of (particle_content contents particle) ≤ particle_positions positions particle
particle_is_counted contents positions few particle =
    bounded_positions particle.bounds (term_positions positions particle.term) (term_content contents particle.term)
    (elim particle.term as (λ (term : Term). positions_of (term_content contents term) ≤ term_positions positions term) [
      | Element name kind ↦ omega arith
      | Group number ↦ few number
    ])

sequence_is_counted : (contents : ℕ → SequenceType) (positions : ℕ → ℕ) → AreCounted contents positions → (particles : List Particle) (done : SequenceType) (total : ℕ) → positions_of done ≤ total →
    positions_of (fold (λ (t : SequenceType) particle. joined_types t (particle_content contents particle)) done particles) ≤ fold (λ (sum : ℕ) particle. sum + particle_positions positions particle) total particles
sequence_is_counted contents positions few [] done total front = front
sequence_is_counted contents positions few (particle ∷ others) done total front =
    let joined = joined_positions done (particle_content contents particle) in
    let own = particle_is_counted contents positions few particle in
    sequence_is_counted contents positions few others (joined_types done (particle_content contents particle)) (total + particle_positions positions particle) (omega arith)

choice_is_counted : (contents : ℕ → SequenceType) (positions : ℕ → ℕ) → AreCounted contents positions → (particles : List Particle) (choice : SequenceType) (total : ℕ) → positions_of choice ≤ total →
    positions_of (fold with_members choice (map (particle_content contents) particles)) ≤ fold (λ (sum : ℕ) particle. sum + particle_positions positions particle) total particles
choice_is_counted contents positions few [] choice total front = front
choice_is_counted contents positions few (particle ∷ others) choice total front =
    let joined = members_positions choice (particle_content contents particle) in
    let own = particle_is_counted contents positions few particle in
    choice_is_counted contents positions few others (with_members choice (particle_content contents particle)) (total + particle_positions positions particle) (omega arith)

composed_is_counted : (contents : ℕ → SequenceType) (positions : ℕ → ℕ) → AreCounted contents positions → (compositor : Compositor) (particles : List Particle) →
    positions_of (composed contents compositor particles) ≤ positions_together positions particles
composed_is_counted contents positions few Sequence particles = sequence_is_counted contents positions few particles nothing 0 (omega arith)
composed_is_counted contents positions few Choice particles =
    let members = map (particle_content contents) particles in
    let all = choice_is_counted contents positions few particles never 0 (omega arith) in
    let made = optional_positions (gathered members) in
    positions_where (list_any has_empty members) (optional_of (gathered members)) (gathered members) (positions_together positions particles) (omega arith) all

-- ---- more positions are counted over more

term_grows : (f g : ℕ → ℕ) → ((number : ℕ) → f number ≤ g number) → (term : Term) → term_positions f term ≤ term_positions g term
term_grows f g more (Element name kind) = omega arith
term_grows f g more (Group number) = more number

times_grow : (least : ℕ) (greatest : Option ℕ) (few many : ℕ) → few ≤ many → times_counted least greatest few ≤ times_counted least greatest many
times_grow least None few many more = mul-le few (least + 1) many (least + 1) more (omega arith)
times_grow least (Some greatest) few many more = mul-le few greatest many greatest more (omega arith)

sum_grows : (f g : ℕ → ℕ) → ((number : ℕ) → f number ≤ g number) → (particles : List Particle) (few many : ℕ) → few ≤ many →
    fold (λ (sum : ℕ) particle. sum + particle_positions f particle) few particles ≤ fold (λ (sum : ℕ) particle. sum + particle_positions g particle) many particles
sum_grows f g more [] few many front = front
sum_grows f g more (particle ∷ others) few many front =
    let own = times_grow particle.bounds.least particle.bounds.greatest (term_positions f particle.term) (term_positions g particle.term) (term_grows f g more particle.term) in
    sum_grows f g more others (few + particle_positions f particle) (many + particle_positions g particle) (omega arith)

-- ---- along references

grows_by : (m : ℕ → ℕ) → ((steps : ℕ) → m steps ≤ m (suc steps)) → (left steps limit : ℕ) → limit ≡ left + steps → m steps ≤ m limit
grows_by m grows zero steps limit e =
    let same : steps ≡ limit = omega arith in
    subst (λ (n : ℕ). m steps ≤ m n) same (omega arith)
grows_by m grows (suc left) steps limit e =
    let one = grows steps in
    let others = grows_by m grows left (suc steps) limit (omega arith) in
    omega arith

group_grows : (groups : List ModelGroup) (number steps : ℕ) → meaning_within counted_group 0 groups steps number ≤ meaning_within counted_group 0 groups (suc steps) number
group_grows groups number zero = omega arith
group_grows groups number (suc steps) =
    let fewer = meaning_within counted_group 0 groups steps in
    let more = meaning_within counted_group 0 groups (suc steps) in
    elim (slice_get groups number) as (λ (g : Option ModelGroup). meaning_in counted_group 0 g fewer ≤ meaning_in counted_group 0 g more) [
      | None ↦ omega arith
      | Some group ↦ let sums = sum_grows fewer more (λ n. group_grows groups n steps) group.particles 0 0 (omega arith) in omega arith
    ]

-- a content that fits has no more positions than are counted, nor than a content may have
abbrev IsWithin : SequenceType → (count : ℕ) → Type 0
IsWithin t count = (positions_of t ≤ count) × (positions_of t ≤ CONTENT_POSITIONS)

fitting : (positions count most : ℕ) → positions ≤ count → count ≤ most → nat_le (counted most) CONTENT_POSITIONS ≡ true → (positions ≤ counted count) × (positions ≤ CONTENT_POSITIONS)
fitting positions count most few more fits =
    let small = leb-true (counted most) CONTENT_POSITIONS fits in
    (omega arith, omega arith)

group_is_counted : (fits : Bool) (contents : ℕ → SequenceType) (counts positions : ℕ → ℕ) → AreCounted contents counts → ((number : ℕ) → counts number ≤ positions number) → (group : ModelGroup) →
    group_fits positions group ≡ fits → IsWithin (content_that_fits fits contents group) (counted_group counts group)
group_is_counted true contents counts positions few more group fits =
    fitting (positions_of (group_content contents group)) (group_positions counts group) (group_positions positions group) (composed_is_counted contents counts few group.compositor group.particles)
    (sum_grows counts positions more group.particles 0 0 (omega arith)) fits
group_is_counted false contents counts positions few more group fits = (omega arith, omega arith)

groups_within : (positions : ℕ → ℕ) (groups : List ModelGroup) (limit : ℕ) → ((steps number : ℕ) → steps ≤ limit → meaning_within counted_group 0 groups steps number ≤ positions number) → (steps number : ℕ) → steps ≤ limit →
    positions_of (meaning_within (fitting_group positions) never groups steps number) ≤ meaning_within counted_group 0 groups steps number
groups_within positions groups limit more zero number within = omega arith
groups_within positions groups limit more (suc steps) number within =
    let contents = meaning_within (fitting_group positions) never groups steps in
    let counts = meaning_within counted_group 0 groups steps in
    elim (slice_get groups number) as (λ (g : Option ModelGroup). positions_of (meaning_in (fitting_group positions) never g contents) ≤ meaning_in counted_group 0 g counts) [
      | None ↦ omega arith
      | Some group ↦
          (group_is_counted (group_fits positions group) contents counts positions (λ n. groups_within positions groups limit more steps n (omega arith)) (λ n. more steps n (omega arith)) group refl).0
    ]

seen_group : (test : Bool) (groups : List ModelGroup) (number : ℕ) →
    let positions = λ (n : ℕ). if test then meaning_within counted_group 0 groups (length groups) n else 0 in
    positions_of (if test then meaning_within (fitting_group positions) never groups (length groups) number else never) ≤ positions number
seen_group true groups number =
    groups_within (meaning_within counted_group 0 groups (length groups)) groups (length groups)
    (λ steps n within. grows_by (λ (s : ℕ). meaning_within counted_group 0 groups s n) (group_grows groups n) (length groups - steps) steps (length groups) (omega arith)) (length groups) number (omega arith)
seen_group false groups number = omega arith

group_has_few : (groups : List ModelGroup) (number : ℕ) → positions_of (content_of_group groups number) ≤ positions_of_group groups number
unfolding content_of_group positions_of_group
group_has_few groups number = seen_group (all_end groups_in groups) groups number

-- ---- types

written_is_counted : (contents : ℕ → SequenceType) (positions : ℕ → ℕ) → AreCounted contents positions → (content : Option Particle) → positions_of (written_content contents content) ≤ written_positions positions content
written_is_counted contents positions few None = omega arith
written_is_counted contents positions few (Some particle) = particle_is_counted contents positions few particle

base_is_counted : (known : ℕ → Effective) (counts : ℕ → ℕ) → ((number : ℕ) → positions_of (known number).content ≤ counts number) → (base : Base) → positions_of (content_of_base known base).content ≤ positions_of_base counts base
base_is_counted known counts few (Builtin builtin) = omega arith
base_is_counted known counts few (Declared number) = few number

sourced_is_counted : (known : ℕ → Effective) (counts : ℕ → ℕ) → ((number : ℕ) → positions_of (known number).content ≤ counts number) → (source : ContentSource) (mixed : Bool) (written : SequenceType) (count : ℕ) →
    positions_of written ≤ count → positions_of (sourced_content known source mixed written).content ≤ sourced_positions counts source count
sourced_is_counted known counts few sources.Simple mixed written count own = omega arith
sourced_is_counted known counts few sources.Written mixed written count own = own
sourced_is_counted known counts few (sources.Behind base) mixed written count own =
    let front = base_is_counted known counts few base in
    let joined = joined_positions (content_of_base known base).content written in
    omega arith

form_is_counted : (contents : ℕ → SequenceType) (positions : ℕ → ℕ) → AreCounted contents positions → (known : ℕ → Effective) (counts : ℕ → ℕ) → ((number : ℕ) → positions_of (known number).content ≤ counts number) →
    (form : TypeForm) → positions_of (form_content contents known form).content ≤ form_positions positions counts form
form_is_counted contents positions few known counts fewer (forms.Simple definition) = omega arith
form_is_counted contents positions few known counts fewer (forms.Complex definition) =
    sourced_is_counted known counts fewer (source_of definition.derivation) definition.mixed (written_content contents definition.content) (written_positions positions definition.content)
    (written_is_counted contents positions few definition.content)

base_grows : (f g : ℕ → ℕ) → ((number : ℕ) → f number ≤ g number) → (base : Base) → positions_of_base f base ≤ positions_of_base g base
base_grows f g more (Builtin builtin) = omega arith
base_grows f g more (Declared number) = more number

sourced_grows : (f g : ℕ → ℕ) → ((number : ℕ) → f number ≤ g number) → (source : ContentSource) (written : ℕ) → sourced_positions f source written ≤ sourced_positions g source written
sourced_grows f g more sources.Simple written = omega arith
sourced_grows f g more sources.Written written = omega arith
sourced_grows f g more (sources.Behind base) written = let front = base_grows f g more base in omega arith

form_grows : (positions f g : ℕ → ℕ) → ((number : ℕ) → f number ≤ g number) → (form : TypeForm) → form_positions positions f form ≤ form_positions positions g form
form_grows positions f g more (forms.Simple definition) = omega arith
form_grows positions f g more (forms.Complex definition) = sourced_grows f g more (source_of definition.derivation) (written_positions positions definition.content)

type_grows : (positions : ℕ → ℕ) (types : List TypeComponent) (number steps : ℕ) → meaning_within (counted_type positions) 0 types steps number ≤ meaning_within (counted_type positions) 0 types (suc steps) number
type_grows positions types number zero = omega arith
type_grows positions types number (suc steps) =
    let fewer = meaning_within (counted_type positions) 0 types steps in
    let more = meaning_within (counted_type positions) 0 types (suc steps) in
    elim (slice_get types number) as (λ (c : Option TypeComponent). meaning_in (counted_type positions) 0 c fewer ≤ meaning_in (counted_type positions) 0 c more) [
      | None ↦ omega arith
      | Some component ↦ let grows = form_grows positions fewer more (λ n. type_grows positions types n steps) component.form in omega arith
    ]

type_is_counted : (fits : Bool) (contents : ℕ → SequenceType) (positions : ℕ → ℕ) → AreCounted contents positions → (known : ℕ → Effective) (counts most : ℕ → ℕ) →
    ((number : ℕ) → positions_of (known number).content ≤ counts number) → ((number : ℕ) → counts number ≤ most number) → (component : TypeComponent) → type_fits positions most component ≡ fits →
    IsWithin (type_content_that_fits fits contents known component).content (counted_type positions counts component)
type_is_counted true contents positions few known counts most fewer more component fits =
    fitting (positions_of (form_content contents known component.form).content) (component_positions positions counts component) (component_positions positions most component)
    (form_is_counted contents positions few known counts fewer component.form) (form_grows positions counts most more component.form) fits
type_is_counted false contents positions few known counts most fewer more component fits = (omega arith, omega arith)

types_within : (contents : ℕ → SequenceType) (positions : ℕ → ℕ) → AreCounted contents positions → (most : ℕ → ℕ) (types : List TypeComponent) (limit : ℕ) →
    ((steps number : ℕ) → steps ≤ limit → meaning_within (counted_type positions) 0 types steps number ≤ most number) → (steps number : ℕ) → steps ≤ limit →
    IsWithin (meaning_within (fitting_type positions most contents) unknown_content types steps number).content (meaning_within (counted_type positions) 0 types steps number)
types_within contents positions few most types limit more zero number within = (omega arith, omega arith)
types_within contents positions few most types limit more (suc steps) number within =
    let known = meaning_within (fitting_type positions most contents) unknown_content types steps in
    let counts = meaning_within (counted_type positions) 0 types steps in
    elim (slice_get types number) as (λ (c : Option TypeComponent). IsWithin (meaning_in (fitting_type positions most contents) unknown_content c known).content (meaning_in (counted_type positions) 0 c counts)) [
      | None ↦ (omega arith, omega arith)
      | Some component ↦
          type_is_counted (type_fits positions most component) contents positions few known counts most (λ n. (types_within contents positions few most types limit more steps n (omega arith)).0)
          (λ n. more steps n (omega arith)) component refl
    ]

seen_type : (test : Bool) (contents : ℕ → SequenceType) (positions : ℕ → ℕ) → AreCounted contents positions → (types : List TypeComponent) (number : ℕ) →
    let most = λ (n : ℕ). if test then meaning_within (counted_type positions) 0 types (length types) n else 0 in
    positions_of (if test then meaning_within (fitting_type positions most contents) unknown_content types (length types) number else unknown_content).content ≤ CONTENT_POSITIONS
seen_type true contents positions few types number =
    (types_within contents positions few (meaning_within (counted_type positions) 0 types (length types)) types (length types)
    (λ steps n within. grows_by (λ (s : ℕ). meaning_within (counted_type positions) 0 types s n) (type_grows positions types n) (length types - steps) steps (length types) (omega arith)) (length types) number (omega arith)).1
seen_type false contents positions few types number = omega arith

type_has_few : (types : List TypeComponent) (groups : List ModelGroup) (number : ℕ) → positions_of (content_of_type types groups number).content ≤ CONTENT_POSITIONS
unfolding content_of_type positions_of_type
type_has_few types groups number = seen_type (all_end extended_types types) (content_of_group groups) (positions_of_group groups) (group_has_few groups) types number

-- ---- texts

texts_have_few : (t : SequenceType) → positions_of (with_texts t) ≤ 2 * positions_of t
texts_have_few never = omega arith
texts_have_few nothing = omega arith
texts_have_few (item kind) = omega arith
texts_have_few (both first second) = let one = texts_have_few first in let other = texts_have_few second in omega arith
texts_have_few (either first second) = let one = texts_have_few first in let other = texts_have_few second in omega arith
texts_have_few (optional part) = texts_have_few part
texts_have_few (star part) = texts_have_few part
texts_have_few (plus part) = texts_have_few part

model_has_few : (mixed : Bool) (t : SequenceType) (positions : ℕ) → positions_of t ≤ positions → positions_of (model_of mixed t) ≤ positions_with_texts positions
model_has_few true t positions few =
    let joined = joined_positions maybe_text (with_texts t) in
    let texts = texts_have_few t in
    omega arith
model_has_few false t positions few = omega arith

pub contents_are_bounded : ContentsAreBounded
contents_are_bounded types groups mixed number = model_has_few mixed (content_of_type types groups number).content CONTENT_POSITIONS (type_has_few types groups number)

-- The items of a content are its element particles.
use Rattle.std.proofs.Common.{◌≡◌, ℕ, zero, suc, ◌-◌, Bool, true, false, ◌&&◌, ◌||◌, nat_eq, inl, inr, List, [], ◌∷◌, ◌++◌, length, Option, None, Some, map, slice_get, if◌then◌else◌, refl, sym, ◌∙◌, ap, subst, arith}
use Rattle.std.specs.Prelude.{fold, min, ◌⊎◌}
use Rattle.std.specs.List.{list_any}
use Rattle.std.specs.Cmp.{unsigned_Decides}
use Rattle.std.specs.Cmp.Lexicographic.{pointwise_decides}
use Rattle.std.proofs.lemmas.Bool.{and_parts, cases_Bool, cases_lt, eqb-true, lt-ltb}
use Rattle.gx_base.specs.Name.{same_name}
use Rattle.gx_base.specs.Text.{same_text}
use Rattle.gx_base.specs.declared.name.Name.{Name}
use Rattle.gx_base.specs.declared.type_name.TypeName.{TypeName}
use Rattle.gx_base.specs.declared.type_name.TypeName.TheVariants as names
use Rattle.gx_types.specs.SameItemType.{same_type_name}
use Rattle.gx_types.specs.SequenceType.{SequenceType, never, nothing}
use Rattle.gx_types.specs.TypeRules.{joined_types}
use Rattle.gx_types.specs.SchemaInvariant.{HoldsOfEach}
use Rattle.gx_types.specs.declared.item_type.ItemType.{ItemType}
use Rattle.gx_types.specs.declared.item_type.ItemType.TheVariants as items
use Rattle.gx_types.proofs.EqualNames.{builtins_are_one}
use Rattle.gx_type_laws.specs.Kept.{HoldsOfItems}
use Rattle.gx_type_laws.proofs.Kept.{joined_keeps, choice_keeps}
use Rattle.gx_type_laws.proofs.Items.{items_are_kept, items_weaker}
use Rattle.gx_references.specs.References.{meaning_in, meaning_within}
use Rattle.gx_schema_syntax.specs.declared.role.Compositor.{Compositor}
use Rattle.gx_schema_syntax.specs.declared.role.Compositor.TheVariants.{Sequence, Choice}
use Rattle.gx_schema_components.specs.declared.component.Base.{Base}
use Rattle.gx_schema_components.specs.declared.component.Base.TheVariants.{Builtin, Declared}
use Rattle.gx_schema_components.specs.declared.component.Bounds.{Bounds}
use Rattle.gx_schema_components.specs.declared.component.ModelGroup.{ModelGroup}
use Rattle.gx_schema_components.specs.declared.component.Particle.{Particle}
use Rattle.gx_schema_components.specs.declared.component.Term.{Term}
use Rattle.gx_schema_components.specs.declared.component.Term.TheVariants.{Element, Group}
use Rattle.gx_schema_components.specs.declared.component.TypeComponent.{TypeComponent}
use Rattle.gx_schema_components.specs.declared.component.TypeForm.{TypeForm}
use Rattle.gx_schema_components.specs.declared.component.TypeForm.TheVariants as forms
use Rattle.gx_schema_content.specs.declared.effective.Effective.{Effective}
use Rattle.gx_schema_content.specs.declared.elements.ElementParticle.{ElementParticle}
use Rattle.gx_schema_content.specs.declared.source.ContentSource.{ContentSource}
use Rattle.gx_schema_content.specs.declared.source.ContentSource.TheVariants as sources
use Rattle.gx_schema_content.specs.ContentKnots.{content_of_group, content_of_type, fitting_group, fitting_type}
use Rattle.gx_schema_content.specs.ElementKnots.{elements_of_group, elements_of_type}
use Rattle.gx_schema_content.specs.Elements.{may_occur, same_written_name, same_written_type, same_particle, with_particle, with_particles, each_once, term_elements, particle_elements, particles_elements, group_elements, elements_of_base, written_elements, sourced_elements, form_elements, type_elements}
use Rattle.gx_schema_content.specs.GroupContents.{term_content, particle_content, composed, content_that_fits, groups_in}
use Rattle.gx_schema_content.specs.Knots.{all_end}
use Rattle.gx_schema_content.specs.Occurrences.{bounded, copies, further_copies, least_copies, optional_copies}
use Rattle.gx_schema_content.specs.PositionKnots.{group_fits, positions_of_group, positions_of_type, type_fits}
use Rattle.gx_schema_content.specs.Sources.{extended_types, source_of}
use Rattle.gx_schema_content.specs.TypeContents.{content_of_base, written_content, sourced_content, form_content, type_content_that_fits, unknown_content}
use Rattle.gx_schema_content.proofs.TypeItems.{items_bounded}

-- one of a list
abbrev pub IsAmong : {A : Type 0} → List A → A → Type 0
IsAmong [] y = ⊥
IsAmong (x ∷ xs) y = (x ≡ y) ⊎ IsAmong xs y

pub among_left : {A : Type 0} (xs ys : List A) (y : A) → IsAmong xs y → IsAmong (xs ++ ys) y
among_left [] ys y here = absurd here
among_left (x ∷ xs) ys y (inl same) = inl same
among_left (x ∷ xs) ys y (inr later) = inr (among_left xs ys y later)

pub among_right : {A : Type 0} (xs ys : List A) (y : A) → IsAmong ys y → IsAmong (xs ++ ys) y
among_right [] ys y here = here
among_right (x ∷ xs) ys y here = inr (among_right xs ys y here)

-- an item is an element of one of the particles
abbrev pub IsElementOf : List ElementParticle → ItemType → Type 0
IsElementOf elements kind = (element : ElementParticle) × IsAmong elements element × (kind ≡ items.Element (Some element.name) element.kind)

-- the items of a type are elements of the particles
abbrev pub HoldsElements : List ElementParticle → SequenceType → Type 0
HoldsElements elements t = HoldsOfItems (IsElementOf elements) t

elements_left : (elements others : List ElementParticle) (t : SequenceType) → HoldsElements elements t → HoldsElements (elements ++ others) t
elements_left elements others t h =
    items_weaker (IsElementOf elements) (IsElementOf (elements ++ others)) (λ kind it. (it.0, among_left elements others it.0 it.1, it.2)) t h

elements_right : (others elements : List ElementParticle) (t : SequenceType) → HoldsElements elements t → HoldsElements (others ++ elements) t
elements_right others elements t h =
    items_weaker (IsElementOf elements) (IsElementOf (others ++ elements)) (λ kind it. (it.0, among_right others elements it.0 it.1, it.2)) t h

-- ---- particles

term_items : (contents : ℕ → SequenceType) (elements : ℕ → List ElementParticle) → ((number : ℕ) → HoldsElements (elements number) (contents number)) → (place : ℕ) (term : Term) →
    HoldsElements (term_elements elements place term) (term_content contents term)
term_items contents elements holds place (Element name kind) =
    (record { place = place; name = name; kind = kind }, inl refl, refl)
term_items contents elements holds place (Group number) = holds number

occurs_or_not : (greatest : Option ℕ) → (may_occur greatest ≡ true) ⊎ (greatest ≡ Some 0)
occurs_or_not None = inl refl
occurs_or_not (Some greatest) = elim (cases_lt 0 greatest) [
  | inl some ↦ inl (lt-ltb 0 greatest some)
  | inr none ↦ let same : greatest ≡ 0 = omega arith in inr (ap (λ (n : ℕ). Some n) same)
]

no_copies : (least : ℕ) (t : SequenceType) → joined_types (copies (min least 0) t) (optional_copies (0 - least) t) ≡ nothing
no_copies least t =
    let few : min least 0 ≡ 0 = omega arith in
    let none : 0 - least ≡ 0 = omega arith in
    ap (λ (n : ℕ). joined_types (copies n t) (optional_copies (0 - least) t)) few ∙ ap (λ (n : ℕ). joined_types nothing (optional_copies n t)) none

bounded_by_none : (bounds : Bounds) (t : SequenceType) → bounds.greatest ≡ Some 0 → bounded bounds t ≡ nothing
bounded_by_none bounds t e =
    ap (λ (greatest : Option ℕ). joined_types (copies (least_copies bounds.least greatest) t) (further_copies bounds.least greatest t)) e ∙ no_copies bounds.least t

particle_items : (contents : ℕ → SequenceType) (elements : ℕ → List ElementParticle) → ((number : ℕ) → HoldsElements (elements number) (contents number)) → (particle : Particle) →
    HoldsElements (particle_elements elements particle) (particle_content contents particle)
particle_items contents elements holds particle =
    let inside = term_elements elements particle.place particle.term in
    elim (occurs_or_not particle.bounds.greatest) [
      | inl occurs ↦ subst (λ (test : Bool). HoldsElements (if test then inside else []) (particle_content contents particle)) (sym occurs)
          (items_bounded (IsElementOf inside) particle.bounds (term_content contents particle.term) (term_items contents elements holds particle.place particle.term))
      | inr none ↦ subst (λ (t : SequenceType). HoldsElements (particle_elements elements particle) t) (sym (bounded_by_none particle.bounds (term_content contents particle.term) none)) tt
    ]

types_weaker : (P Q : ItemType → Type 0) → ((kind : ItemType) → P kind → Q kind) → (types : List SequenceType) → HoldsOfEach (HoldsOfItems P) types → HoldsOfEach (HoldsOfItems Q) types
types_weaker P Q w [] h = tt
types_weaker P Q w (t ∷ types) h = (items_weaker P Q w t h.0, types_weaker P Q w types h.1)

particles_items : (contents : ℕ → SequenceType) (elements : ℕ → List ElementParticle) → ((number : ℕ) → HoldsElements (elements number) (contents number)) → (particles : List Particle) →
    HoldsOfEach (HoldsOfItems (IsElementOf (particles_elements elements particles))) (map (particle_content contents) particles)
particles_items contents elements holds [] = tt
particles_items contents elements holds (particle ∷ others) =
    let own = particle_elements elements particle in
    let more = particles_elements elements others in (
      elements_left own more (particle_content contents particle) (particle_items contents elements holds particle),
      types_weaker (IsElementOf more) (IsElementOf (own ++ more)) (λ kind it. (it.0, among_right own more it.0 it.1, it.2)) (map (particle_content contents) others) (particles_items contents elements holds others),
    )

sequence_items : (P : ItemType → Type 0) (contents : ℕ → SequenceType) (particles : List Particle) (done : SequenceType) → HoldsOfItems P done → HoldsOfEach (HoldsOfItems P) (map (particle_content contents) particles) →
    HoldsOfItems P (fold (λ (t : SequenceType) particle. joined_types t (particle_content contents particle)) done particles)
sequence_items P contents [] done h k = h
sequence_items P contents (particle ∷ others) done h k =
    sequence_items P contents others (joined_types done (particle_content contents particle)) (joined_keeps (items_are_kept P) done (particle_content contents particle) h k.0) k.1

composed_items : (P : ItemType → Type 0) (contents : ℕ → SequenceType) (compositor : Compositor) (particles : List Particle) → HoldsOfEach (HoldsOfItems P) (map (particle_content contents) particles) →
    HoldsOfItems P (composed contents compositor particles)
composed_items P contents Sequence particles h = sequence_items P contents particles nothing tt h
composed_items P contents Choice particles h = choice_keeps (items_are_kept P) (map (particle_content contents) particles) h

-- ---- each particle once

abbrev named : (uri prefix local : List ℕ) → Name
named uri prefix local = record { uri = uri; prefix = prefix; local = local }

abbrev particle_at : ℕ → Name → TypeName → ElementParticle
particle_at place name kind = record { place = place; name = name; kind = kind }

one_among : (element : ElementParticle) (elements : List ElementParticle) → list_any (same_particle element) elements ≡ true → (other : ElementParticle) × IsAmong elements other × (same_particle element other ≡ true)
one_among element [] e = absurd (cc)
one_among element (x ∷ xs) e = elim (cases_Bool (same_particle element x)) [
  | inl same ↦ (x, inl refl, same)
  | inr differs ↦
      let (other, here, same) = one_among element xs (sym (ap (λ (t : Bool). t || list_any (same_particle element) xs) differs) ∙ e) in
      (other, inr here, same)
]

equal_texts : (a b : List ℕ) → same_text a b ≡ true → a ≡ b
equal_texts a b e = (pointwise_decides unsigned_Decides a b).0 e

equal_names : (a b : Name) → same_written_name a b ≡ true → a ≡ b
equal_names a b e =
    let (names, prefixes) = and_parts (same_name a b) (same_text a.prefix b.prefix) e in
    let (uris, locals) = and_parts (same_text a.uri b.uri) (same_text a.local b.local) names in
    ap (λ (u : List ℕ). named u a.prefix a.local) (equal_texts a.uri b.uri uris)
    ∙ ap (λ (p : List ℕ). named b.uri p a.local) (equal_texts a.prefix b.prefix prefixes)
    ∙ ap (λ (l : List ℕ). named b.uri b.prefix l) (equal_texts a.local b.local locals)

equal_types : (a b : TypeName) → same_written_type a b ≡ true → a ≡ b
equal_types (names.Builtin a) (names.Builtin b) e = ap names.Builtin (builtins_are_one a b (and_parts (same_type_name (names.Builtin a) (names.Builtin b)) true e).0)
equal_types (names.Named a) (names.Named b) e = ap names.Named (equal_names a b e)
equal_types (names.Anonymous a) (names.Anonymous b) e = ap names.Anonymous (eqb-true a b (and_parts (nat_eq a b) true e).0)
equal_types _ _ e = absurd (cc)

-- particles that count as one are one
equal_particles : (a b : ElementParticle) → same_particle a b ≡ true → a ≡ b
equal_particles a b e =
    let (first, kinds) = and_parts (nat_eq a.place b.place && same_written_name a.name b.name) (same_written_type a.kind b.kind) e in
    let (places, names) = and_parts (nat_eq a.place b.place) (same_written_name a.name b.name) first in
    ap (λ (p : ℕ). particle_at p a.name a.kind) (eqb-true a.place b.place places)
    ∙ ap (λ (n : Name). particle_at b.place n a.kind) (equal_names a.name b.name names)
    ∙ ap (λ (k : TypeName). particle_at b.place b.name k) (equal_types a.kind b.kind kinds)

one_is_there : (elements : List ElementParticle) (element : ElementParticle) (test : Bool) → list_any (same_particle element) elements ≡ test → IsAmong (if test then elements else elements ++ element ∷ []) element
one_is_there elements element true e =
    let (other, here, same) = one_among element elements e in
    subst (IsAmong elements) (sym (equal_particles element other same)) here
one_is_there elements element false e = among_right elements (element ∷ []) element (inl refl)

added_stays : (elements : List ElementParticle) (element other : ElementParticle) (test : Bool) → IsAmong elements other → IsAmong (if test then elements else elements ++ element ∷ []) other
added_stays elements element other true here = here
added_stays elements element other false here = among_left elements (element ∷ []) other here

all_stay : (elements others : List ElementParticle) (element : ElementParticle) → IsAmong elements element → IsAmong (with_particles elements others) element
all_stay elements [] element here = here
all_stay elements (x ∷ xs) element here = all_stay (with_particle elements x) xs element (added_stays elements x element (list_any (same_particle x) elements) here)

all_added : (elements others : List ElementParticle) (element : ElementParticle) → IsAmong others element → IsAmong (with_particles elements others) element
all_added elements [] element here = absurd here
all_added elements (x ∷ xs) element here = elim here [
  | inl same ↦ subst (IsAmong (with_particles elements (x ∷ xs))) same (all_stay (with_particle elements x) xs x (one_is_there elements x (list_any (same_particle x) elements) refl))
  | inr behind ↦ all_added (with_particle elements x) xs element behind
]

once_holds : (elements : List ElementParticle) (t : SequenceType) → HoldsElements elements t → HoldsElements (each_once elements) t
once_holds elements t h = items_weaker (IsElementOf elements) (IsElementOf (each_once elements)) (λ kind it. (it.0, all_added [] elements it.0 it.1, it.2)) t h

-- ---- groups

group_items : (fits : Bool) (contents : ℕ → SequenceType) (elements : ℕ → List ElementParticle) → ((number : ℕ) → HoldsElements (elements number) (contents number)) → (group : ModelGroup) →
    HoldsElements (group_elements elements group) (content_that_fits fits contents group)
group_items true contents elements holds group =
    once_holds (particles_elements elements group.particles) (composed contents group.compositor group.particles)
    (composed_items (IsElementOf (particles_elements elements group.particles)) contents group.compositor group.particles (particles_items contents elements holds group.particles))
group_items false contents elements holds group = tt

groups_within : (positions : ℕ → ℕ) (groups : List ModelGroup) (steps number : ℕ) →
    HoldsElements (meaning_within group_elements [] groups steps number) (meaning_within (fitting_group positions) never groups steps number)
groups_within positions groups zero number = tt
groups_within positions groups (suc steps) number =
    let elements = meaning_within group_elements [] groups steps in
    let contents = meaning_within (fitting_group positions) never groups steps in
    elim (slice_get groups number) as (λ (g : Option ModelGroup). HoldsElements (meaning_in group_elements [] g elements) (meaning_in (fitting_group positions) never g contents)) [
      | None ↦ tt
      | Some group ↦ group_items (group_fits positions group) contents elements (groups_within positions groups steps) group
    ]

seen_items : (test : Bool) (elements : List ElementParticle) (t : SequenceType) → HoldsElements elements t → HoldsElements (if test then elements else []) (if test then t else never)
seen_items true elements t h = h
seen_items false elements t h = tt

group_holds : (groups : List ModelGroup) (number : ℕ) → HoldsElements (elements_of_group groups number) (content_of_group groups number)
unfolding elements_of_group content_of_group
group_holds groups number =
    let positions = positions_of_group groups in
    let steps = length groups in
    seen_items (all_end groups_in groups) (meaning_within group_elements [] groups steps number) (meaning_within (fitting_group positions) never groups steps number) (groups_within positions groups steps number)

-- ---- types

base_items : (contents : ℕ → Effective) (elements : ℕ → List ElementParticle) → ((number : ℕ) → HoldsElements (elements number) (contents number).content) → (base : Base) →
    HoldsElements (elements_of_base elements base) (content_of_base contents base).content
base_items contents elements holds (Builtin builtin) = tt
base_items contents elements holds (Declared number) = holds number

written_items : (contents : ℕ → SequenceType) (elements : ℕ → List ElementParticle) → ((number : ℕ) → HoldsElements (elements number) (contents number)) → (content : Option Particle) →
    HoldsElements (written_elements elements content) (written_content contents content)
written_items contents elements holds None = tt
written_items contents elements holds (Some particle) = particle_items contents elements holds particle

sourced_items : (contents : ℕ → Effective) (elements : ℕ → List ElementParticle) → ((number : ℕ) → HoldsElements (elements number) (contents number).content) → (source : ContentSource) (mixed : Bool)
    (written : SequenceType) (own : List ElementParticle) → HoldsElements own written → HoldsElements (sourced_elements elements source own) (sourced_content contents source mixed written).content
sourced_items contents elements holds sources.Simple mixed written own h = tt
sourced_items contents elements holds sources.Written mixed written own h = h
sourced_items contents elements holds (sources.Behind base) mixed written own h =
    let first = elements_of_base elements base in
    joined_keeps (items_are_kept (IsElementOf (first ++ own))) (content_of_base contents base).content written
    (elements_left first own (content_of_base contents base).content (base_items contents elements holds base)) (elements_right first own written h)

form_items : (groups : ℕ → SequenceType) (lists : ℕ → List ElementParticle) → ((number : ℕ) → HoldsElements (lists number) (groups number)) → (contents : ℕ → Effective) (elements : ℕ → List ElementParticle) →
    ((number : ℕ) → HoldsElements (elements number) (contents number).content) → (form : TypeForm) → HoldsElements (form_elements lists elements form) (form_content groups contents form).content
form_items groups lists known contents elements holds (forms.Simple definition) = tt
form_items groups lists known contents elements holds (forms.Complex definition) =
    sourced_items contents elements holds (source_of definition.derivation) definition.mixed (written_content groups definition.content) (written_elements lists definition.content) (written_items groups lists known definition.content)

type_items : (fits : Bool) (groups : ℕ → SequenceType) (lists : ℕ → List ElementParticle) → ((number : ℕ) → HoldsElements (lists number) (groups number)) → (contents : ℕ → Effective) (elements : ℕ → List ElementParticle) →
    ((number : ℕ) → HoldsElements (elements number) (contents number).content) → (component : TypeComponent) →
    HoldsElements (type_elements lists elements component) (type_content_that_fits fits groups contents component).content
type_items true groups lists known contents elements holds component =
    once_holds (form_elements lists elements component.form) (form_content groups contents component.form).content (form_items groups lists known contents elements holds component.form)
type_items false groups lists known contents elements holds component = tt

types_within : (of_groups of_types : ℕ → ℕ) (groups : ℕ → SequenceType) (lists : ℕ → List ElementParticle) → ((number : ℕ) → HoldsElements (lists number) (groups number)) → (types : List TypeComponent) (steps number : ℕ) →
    HoldsElements (meaning_within (type_elements lists) [] types steps number) (meaning_within (fitting_type of_groups of_types groups) unknown_content types steps number).content
types_within of_groups of_types groups lists known types zero number = tt
types_within of_groups of_types groups lists known types (suc steps) number =
    let elements = meaning_within (type_elements lists) [] types steps in
    let contents = meaning_within (fitting_type of_groups of_types groups) unknown_content types steps in
    elim (slice_get types number) as (λ (c : Option TypeComponent). HoldsElements (meaning_in (type_elements lists) [] c elements) (meaning_in (fitting_type of_groups of_types groups) unknown_content c contents).content) [
      | None ↦ tt
      | Some component ↦ type_items (type_fits of_groups of_types component) groups lists known contents elements (types_within of_groups of_types groups lists known types steps) component
    ]

seen_content_items : (test : Bool) (elements : List ElementParticle) (effective : Effective) → HoldsElements elements effective.content →
    HoldsElements (if test then elements else []) (if test then effective else unknown_content).content
seen_content_items true elements effective h = h
seen_content_items false elements effective h = tt

-- the items of the content of a type are its element particles
pub type_holds : (types : List TypeComponent) (groups : List ModelGroup) (number : ℕ) → HoldsElements (elements_of_type types groups number) (content_of_type types groups number).content
unfolding elements_of_type content_of_type
type_holds types groups number =
    let of_groups = positions_of_group groups in
    let of_types = positions_of_type types groups in
    let steps = length types in
    seen_content_items (all_end extended_types types) (meaning_within (type_elements (elements_of_group groups)) [] types steps number)
    (meaning_within (fitting_type of_groups of_types (content_of_group groups)) unknown_content types steps number)
    (types_within of_groups of_types (content_of_group groups) (elements_of_group groups) (group_holds groups) types steps number)

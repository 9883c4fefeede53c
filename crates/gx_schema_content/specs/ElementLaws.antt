-- Element particles are compared lawfully. Those of a group and of a type look at nothing but those of the groups that it holds, and of the type that it extends.
use Rattle.std.specs.Prelude.{◌≡◌, ℕ, List, [], ◌∷◌, ◌++◌, if◌then◌else◌, refl}
use Rattle.std.specs.List.{filter_map}
use Rattle.std.proofs.Common.{◌∙◌, ap}
use Rattle.std.specs.Cmp.{IsEquivalence, and_equiv, nat_eq_equiv, on_equiv}
use Rattle.std.specs.Cmp.Lexicographic.{on_texts_equal}
use Rattle.gx_types.proofs.EqualNames.{names_are_equivalent, type_names_are_equivalent}
use Rattle.gx_references.specs.Known.{SameMeaningsOn}
use Rattle.gx_schema_components.specs.declared.component.Base.{Base}
use Rattle.gx_schema_components.specs.declared.component.Base.TheVariants.{Builtin, Declared}
use Rattle.gx_schema_components.specs.declared.component.ModelGroup.{ModelGroup}
use Rattle.gx_schema_components.specs.declared.component.Particle.{Particle}
use Rattle.gx_schema_components.specs.declared.component.Term.{Term}
use Rattle.gx_schema_components.specs.declared.component.Term.TheVariants.{Element, Group}
use Rattle.gx_schema_components.specs.declared.component.TypeComponent.{TypeComponent}
use Rattle.gx_schema_components.specs.declared.component.TypeForm.{TypeForm}
use Rattle.gx_schema_components.specs.declared.component.TypeForm.TheVariants as forms
use Rattle.gx_schema_content.specs.declared.elements.ElementParticle.{ElementParticle}
use Rattle.gx_schema_content.specs.declared.source.ContentSource.{ContentSource}
use Rattle.gx_schema_content.specs.declared.source.ContentSource.TheVariants as sources
use Rattle.gx_schema_content.specs.Elements.{may_occur, prefix_of_type, same_particle, each_once, term_elements, particle_elements, particles_elements, group_elements, elements_of_base, written_elements, sourced_elements, form_elements, type_elements}
use Rattle.gx_schema_content.specs.GroupContents.{group_of_term, group_of_particle, groups_in}
use Rattle.gx_schema_content.specs.GroupLaws.{AgreeOnTerm, agree_on_first, agree_on_others}
use Rattle.gx_schema_content.specs.Sources.{declared_base, extended_by, extended_by_form, extended_types, source_of}
use Rattle.gx_schema_content.specs.TypeLaws.{only_member}

pub particles_are_equivalent : IsEquivalence same_particle
particles_are_equivalent =
    and_equiv
    (and_equiv (on_equiv (λ (element : ElementParticle). element.place) nat_eq_equiv)
    (and_equiv (on_equiv (λ (element : ElementParticle). element.name) names_are_equivalent) (on_texts_equal (λ (element : ElementParticle). element.name.prefix))))
    (and_equiv (on_equiv (λ (element : ElementParticle). element.kind) type_names_are_equivalent) (on_texts_equal (λ (element : ElementParticle). prefix_of_type element.kind)))

term_elements_agree : (f g : ℕ → List ElementParticle) (place : ℕ) (term : Term) → AgreeOnTerm f g (group_of_term term) → term_elements f place term ≡ term_elements g place term
term_elements_agree f g place (Element name kind) agree = refl
term_elements_agree f g place (Group number) agree = agree number refl

particle_elements_agree : (f g : ℕ → List ElementParticle) (particle : Particle) → AgreeOnTerm f g (group_of_particle particle) → particle_elements f particle ≡ particle_elements g particle
particle_elements_agree f g particle agree =
    ap (λ (elements : List ElementParticle). if may_occur particle.bounds.greatest then elements else []) (term_elements_agree f g particle.place particle.term agree)

particles_elements_agree : (f g : ℕ → List ElementParticle) (particles : List Particle) → SameMeaningsOn f g (filter_map group_of_particle particles) → particles_elements f particles ≡ particles_elements g particles
particles_elements_agree f g [] agree = refl
particles_elements_agree f g (particle ∷ others) agree =
    ap (λ (elements : List ElementParticle). elements ++ particles_elements f others) (particle_elements_agree f g particle (agree_on_first f g particle others agree))
    ∙ ap (λ (elements : List ElementParticle). particle_elements g particle ++ elements) (particles_elements_agree f g others (agree_on_others f g particle others agree))

pub group_elements_agree : (f g : ℕ → List ElementParticle) (group : ModelGroup) → SameMeaningsOn f g (groups_in group) → group_elements f group ≡ group_elements g group
group_elements_agree f g group agree = ap each_once (particles_elements_agree f g group.particles agree)

elements_of_base_agree : (f g : ℕ → List ElementParticle) (base : Base) → SameMeaningsOn f g (declared_base base) → elements_of_base f base ≡ elements_of_base g base
elements_of_base_agree f g (Builtin builtin) agree = refl
elements_of_base_agree f g (Declared number) agree = agree number (only_member number)

sourced_elements_agree : (f g : ℕ → List ElementParticle) (source : ContentSource) (written : List ElementParticle) → SameMeaningsOn f g (extended_by source) → sourced_elements f source written ≡ sourced_elements g source written
sourced_elements_agree f g sources.Simple written agree = refl
sourced_elements_agree f g sources.Written written agree = refl
sourced_elements_agree f g (sources.Behind base) written agree = ap (λ (elements : List ElementParticle). elements ++ written) (elements_of_base_agree f g base agree)

form_elements_agree : (groups f g : ℕ → List ElementParticle) (form : TypeForm) → SameMeaningsOn f g (extended_by_form form) → form_elements groups f form ≡ form_elements groups g form
form_elements_agree groups f g (forms.Simple definition) agree = refl
form_elements_agree groups f g (forms.Complex definition) agree = sourced_elements_agree f g (source_of definition.derivation) (written_elements groups definition.content) agree

pub type_elements_agree : (groups f g : ℕ → List ElementParticle) (component : TypeComponent) → SameMeaningsOn f g (extended_types component) → type_elements groups f component ≡ type_elements groups g component
type_elements_agree groups f g component agree = ap each_once (form_elements_agree groups f g component.form agree)

-- The outlines of a group and of a type look at nothing but those of the groups that it holds, and of the type that it extends.
use Rattle.std.specs.Prelude.{◌≡◌, ℕ, Bool, List, [], ◌∷◌, fold, refl}
use Rattle.std.specs.List.{filter_map}
use Rattle.std.proofs.Common.{◌∙◌, ap}
use Rattle.gx_references.specs.Known.{SameMeaningsOn}
use Rattle.gx_schema_syntax.specs.declared.role.Compositor.{Compositor}
use Rattle.gx_schema_syntax.specs.declared.role.Compositor.TheVariants.{Sequence, Choice}
use Rattle.gx_schema_components.specs.declared.component.Base.{Base}
use Rattle.gx_schema_components.specs.declared.component.Base.TheVariants.{Builtin, Declared}
use Rattle.gx_schema_components.specs.declared.component.ModelGroup.{ModelGroup}
use Rattle.gx_schema_components.specs.declared.component.Particle.{Particle}
use Rattle.gx_schema_components.specs.declared.component.Term.{Term}
use Rattle.gx_schema_components.specs.declared.component.Term.TheVariants.{Element, Group}
use Rattle.gx_schema_components.specs.declared.component.TypeComponent.{TypeComponent}
use Rattle.gx_schema_components.specs.declared.component.TypeForm.{TypeForm}
use Rattle.gx_schema_components.specs.declared.component.TypeForm.TheVariants as forms
use Rattle.gx_schema_content.specs.declared.outline.Outline.{Outline}
use Rattle.gx_schema_content.specs.declared.outline.Outline.TheVariants.{Never, Empty}
use Rattle.gx_schema_content.specs.declared.outline.TypeOutline.{TypeOutline}
use Rattle.gx_schema_content.specs.declared.source.ContentSource.{ContentSource}
use Rattle.gx_schema_content.specs.declared.source.ContentSource.TheVariants as sources
use Rattle.gx_schema_content.specs.GroupContents.{group_of_particle, group_of_term, groups_in}
use Rattle.gx_schema_content.specs.GroupLaws.{AgreeOnTerm, agree_on_first, agree_on_others}
use Rattle.gx_schema_content.specs.Outlines.{bounded_outline, chosen_outlines, composed_outline, form_outline, group_outline, joined_outlines, outline_of_base, particle_outline, sourced_outline, term_outline, type_outline, written_outline}
use Rattle.gx_schema_content.specs.Sources.{declared_base, extended_by, extended_by_form, extended_types, source_of}
use Rattle.gx_schema_content.specs.TypeLaws.{only_member}

term_outline_agrees : (f g : ℕ → Outline) (term : Term) → AgreeOnTerm f g (group_of_term term) → term_outline f term ≡ term_outline g term
term_outline_agrees f g (Element name kind) agree = refl
term_outline_agrees f g (Group number) agree = agree number refl

particle_outline_agrees : (f g : ℕ → Outline) (particle : Particle) → AgreeOnTerm f g (group_of_particle particle) → particle_outline f particle ≡ particle_outline g particle
particle_outline_agrees f g particle agree = ap (λ (outline : Outline). bounded_outline particle.bounds outline) (term_outline_agrees f g particle.term agree)

-- one particle after another, whatever is made of them
particles_agree : (behind : Outline → Outline → Outline) (f g : ℕ → Outline) (particles : List Particle) (done : Outline) → SameMeaningsOn f g (filter_map group_of_particle particles) →
    fold (λ outline particle. behind outline (particle_outline f particle)) done particles ≡ fold (λ outline particle. behind outline (particle_outline g particle)) done particles
particles_agree behind f g [] done agree = refl
particles_agree behind f g (particle ∷ others) done agree =
    ap (λ (o : Outline). fold (λ outline other. behind outline (particle_outline f other)) (behind done o) others) (particle_outline_agrees f g particle (agree_on_first f g particle others agree))
    ∙ particles_agree behind f g others (behind done (particle_outline g particle)) (agree_on_others f g particle others agree)

composed_outline_agrees : (f g : ℕ → Outline) (compositor : Compositor) (particles : List Particle) → SameMeaningsOn f g (filter_map group_of_particle particles) → composed_outline f compositor particles ≡ composed_outline g compositor particles
composed_outline_agrees f g Sequence particles agree = particles_agree joined_outlines f g particles Empty agree
composed_outline_agrees f g Choice particles agree = particles_agree chosen_outlines f g particles Never agree

pub group_outline_agrees : (f g : ℕ → Outline) (group : ModelGroup) → SameMeaningsOn f g (groups_in group) → group_outline f group ≡ group_outline g group
group_outline_agrees f g group agree = composed_outline_agrees f g group.compositor group.particles agree

-- ---- types

base_outline_agrees : (f g : ℕ → TypeOutline) (base : Base) → SameMeaningsOn f g (declared_base base) → outline_of_base f base ≡ outline_of_base g base
base_outline_agrees f g (Builtin builtin) agree = refl
base_outline_agrees f g (Declared number) agree = agree number (only_member number)

sourced_outline_agrees : (f g : ℕ → TypeOutline) (source : ContentSource) (mixed : Bool) (written : Outline) → SameMeaningsOn f g (extended_by source) →
    sourced_outline f source mixed written ≡ sourced_outline g source mixed written
sourced_outline_agrees f g sources.Simple mixed written agree = refl
sourced_outline_agrees f g sources.Written mixed written agree = refl
sourced_outline_agrees f g (sources.Behind base) mixed written agree =
    ap (λ (known : TypeOutline). sourced_outline (λ _. known) (sources.Behind (Declared 0)) mixed written) (base_outline_agrees f g base agree)

form_outline_agrees : (groups : ℕ → Outline) (f g : ℕ → TypeOutline) (form : TypeForm) → SameMeaningsOn f g (extended_by_form form) → form_outline groups f form ≡ form_outline groups g form
form_outline_agrees groups f g (forms.Simple definition) agree = refl
form_outline_agrees groups f g (forms.Complex definition) agree = sourced_outline_agrees f g (source_of definition.derivation) definition.mixed (written_outline groups definition.content) agree

pub type_outline_agrees : (groups : ℕ → Outline) (f g : ℕ → TypeOutline) (component : TypeComponent) → SameMeaningsOn f g (extended_types component) → type_outline groups f component ≡ type_outline groups g component
type_outline_agrees groups f g component agree = form_outline_agrees groups f g component.form agree

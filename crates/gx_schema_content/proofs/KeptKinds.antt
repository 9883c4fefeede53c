-- What holds of the types of all elements that are written holds of those in each content.
use Rattle.std.proofs.Common.{◌≡◌, ℕ, zero, suc, Bool, true, false, inl, inr, List, [], ◌∷◌, ◌++◌, length, Option, None, Some, slice_get, if◌then◌else◌, refl, sym, ◌∙◌, ap, subst}
use Rattle.std.specs.List.{flat_map, list_all, list_any}
use Rattle.std.proofs.lemmas.Bool.{and_parts}
use Rattle.std.proofs.lemmas.List.Folds.{list_all-append}
use Rattle.gx_base.specs.declared.type_name.TypeName.{TypeName}
use Rattle.gx_types.specs.Prime.{items_of}
use Rattle.gx_types.specs.SchemaInvariant.{HoldsOfEach}
use Rattle.gx_types.specs.SequenceType.{SequenceType}
use Rattle.gx_types.specs.declared.item_type.ItemType.{ItemType}
use Rattle.gx_type_laws.proofs.Items.{each_item, items_weaker}
use Rattle.gx_references.specs.References.{meaning_in, meaning_within}
use Rattle.gx_schema_components.specs.declared.component.Base.{Base}
use Rattle.gx_schema_components.specs.declared.component.Base.TheVariants.{Builtin, Declared}
use Rattle.gx_schema_components.specs.declared.component.ModelGroup.{ModelGroup}
use Rattle.gx_schema_components.specs.declared.component.Particle.{Particle}
use Rattle.gx_schema_components.specs.declared.component.Term.{Term}
use Rattle.gx_schema_components.specs.declared.component.Term.TheVariants.{Element, Group}
use Rattle.gx_schema_components.specs.declared.component.TypeComponent.{TypeComponent}
use Rattle.gx_schema_components.specs.declared.component.TypeForm.{TypeForm}
use Rattle.gx_schema_components.specs.declared.component.TypeForm.TheVariants as forms
use Rattle.gx_schema_content.specs.declared.elements.ElementParticle.{ElementParticle}
use Rattle.gx_schema_content.specs.declared.source.ContentSource.{ContentSource}
use Rattle.gx_schema_content.specs.declared.source.ContentSource.TheVariants as sources
use Rattle.gx_schema_content.specs.ContentKnots.{content_of_type}
use Rattle.gx_schema_content.specs.ElementKinds.{element_kinds_pass, kinds_of_content, kinds_of_form, kinds_of_group, kinds_of_particle, kinds_of_type}
use Rattle.gx_schema_content.specs.ElementKnots.{elements_of_group, elements_of_type}
use Rattle.gx_schema_content.specs.Elements.{may_occur, same_particle, with_particle, with_particles, each_once, term_elements, particle_elements, particles_elements, group_elements, elements_of_base, written_elements, sourced_elements, form_elements, type_elements}
use Rattle.gx_schema_content.specs.GroupContents.{groups_in}
use Rattle.gx_schema_content.specs.Knots.{all_end}
use Rattle.gx_schema_content.specs.Laws.{ElementsKeep, IsPassingItem}
use Rattle.gx_schema_content.specs.MixedContents.{model_of}
use Rattle.gx_schema_content.specs.Sources.{extended_types, source_of}
use Rattle.gx_schema_content.proofs.ContentItems.{HoldsElements, IsAmong, IsElementOf, type_holds}
use Rattle.gx_schema_content.proofs.TypeItems.{items_mixed}

-- the types of element particles pass a test
abbrev pub Pass : (TypeName → Bool) → List ElementParticle → Type 0
Pass passes elements = HoldsOfEach (λ (element : ElementParticle). passes element.kind ≡ true) elements

pass_together : (passes : TypeName → Bool) (xs ys : List ElementParticle) → Pass passes xs → Pass passes ys → Pass passes (xs ++ ys)
pass_together passes [] ys h k = k
pass_together passes (x ∷ xs) ys h k = (h.0, pass_together passes xs ys h.1 k)

one_passes : (passes : TypeName → Bool) (elements : List ElementParticle) (element : ElementParticle) → Pass passes elements → IsAmong elements element → passes element.kind ≡ true
one_passes passes [] element h here = absurd here
one_passes passes (x ∷ xs) element h (inl same) = sym (ap (λ (y : ElementParticle). passes y.kind) same) ∙ h.0
one_passes passes (x ∷ xs) element h (inr behind) = one_passes passes xs element h.1 behind

all_both : {A : Type 0} (test : A → Bool) (xs ys : List A) → list_all test (xs ++ ys) ≡ true → (list_all test xs ≡ true) × (list_all test ys ≡ true)
all_both test xs ys e = and_parts (list_all test xs) (list_all test ys) (sym (list_all-append test xs ys) ∙ e)

all_at : {A B : Type 0} (test : B → Bool) (parts : A → List B) (xs : List A) (number : ℕ) (x : A) → list_all test (flat_map parts xs) ≡ true → slice_get xs number ≡ Some x → list_all test (parts x) ≡ true
all_at test parts [] number x e here = absurd (cc)
all_at {A} test parts (y ∷ ys) zero x e here = let same : y ≡ x = cc in ap (λ (z : A). list_all test (parts z)) (sym same) ∙ (all_both test (parts y) (flat_map parts ys) e).0
all_at test parts (y ∷ ys) (suc number) x e here = all_at test parts ys number x (all_both test (parts y) (flat_map parts ys) e).1 here

-- ---- particles

term_passes : (passes : TypeName → Bool) (groups : ℕ → List ElementParticle) → ((number : ℕ) → Pass passes (groups number)) → (place : ℕ) (particle : Particle) → list_all passes (kinds_of_particle particle) ≡ true →
    Pass passes (term_elements groups place particle.term)
term_passes passes groups known place particle e =
    elim particle.term as (λ (term : Term). list_all passes (kinds_of_particle (record particle { term = term })) ≡ true → Pass passes (term_elements groups place term)) [
      | Element name kind ↦ λ h. ((and_parts (passes kind) true h).0, tt)
      | Group number ↦ λ h. known number
    ] e

passes_where : (passes : TypeName → Bool) (test : Bool) (elements : List ElementParticle) → Pass passes elements → Pass passes (if test then elements else [])
passes_where passes true elements h = h
passes_where passes false elements h = tt

particle_passes : (passes : TypeName → Bool) (groups : ℕ → List ElementParticle) → ((number : ℕ) → Pass passes (groups number)) → (particle : Particle) → list_all passes (kinds_of_particle particle) ≡ true →
    Pass passes (particle_elements groups particle)
particle_passes passes groups known particle e =
    passes_where passes (may_occur particle.bounds.greatest) (term_elements groups particle.place particle.term) (term_passes passes groups known particle.place particle e)

particles_pass : (passes : TypeName → Bool) (groups : ℕ → List ElementParticle) → ((number : ℕ) → Pass passes (groups number)) → (particles : List Particle) → list_all passes (flat_map kinds_of_particle particles) ≡ true →
    Pass passes (particles_elements groups particles)
particles_pass passes groups known [] e = tt
particles_pass passes groups known (particle ∷ others) e =
    let parts = all_both passes (kinds_of_particle particle) (flat_map kinds_of_particle others) e in
    pass_together passes (particle_elements groups particle) (particles_elements groups others) (particle_passes passes groups known particle parts.0) (particles_pass passes groups known others parts.1)

-- ---- each particle once

added_passes : (passes : TypeName → Bool) (test : Bool) (elements : List ElementParticle) (element : ElementParticle) → Pass passes elements → passes element.kind ≡ true → Pass passes (if test then elements else elements ++ element ∷ [])
added_passes passes true elements element h k = h
added_passes passes false elements element h k = pass_together passes elements (element ∷ []) h (k, tt)

all_pass : (passes : TypeName → Bool) (elements others : List ElementParticle) → Pass passes elements → Pass passes others → Pass passes (with_particles elements others)
all_pass passes elements [] h k = h
all_pass passes elements (x ∷ xs) h k = all_pass passes (with_particle elements x) xs (added_passes passes (list_any (same_particle x) elements) elements x h k.0) k.1

once_pass : (passes : TypeName → Bool) (elements : List ElementParticle) → Pass passes elements → Pass passes (each_once elements)
once_pass passes elements h = all_pass passes [] elements tt h

-- ---- groups

groups_pass : (passes : TypeName → Bool) (groups : List ModelGroup) → list_all passes (flat_map kinds_of_group groups) ≡ true → (steps number : ℕ) →
    Pass passes (meaning_within group_elements [] groups steps number)
groups_pass passes groups e zero number = tt
groups_pass passes groups e (suc steps) number =
    let elements = meaning_within group_elements [] groups steps in
    let at = all_at passes kinds_of_group groups number in
    elim (slice_get groups number) as (λ (g : Option ModelGroup). ((group : ModelGroup) → g ≡ Some group → list_all passes (kinds_of_group group) ≡ true) → Pass passes (meaning_in group_elements [] g elements)) [
      | None ↦ λ h. tt
      | Some group ↦ λ h. once_pass passes (particles_elements elements group.particles) (particles_pass passes elements (groups_pass passes groups e steps) group.particles (h group refl))
    ] (λ group here. at group e here)

group_passes : (passes : TypeName → Bool) (groups : List ModelGroup) → list_all passes (flat_map kinds_of_group groups) ≡ true → (number : ℕ) → Pass passes (elements_of_group groups number)
unfolding elements_of_group
group_passes passes groups e number =
    passes_where passes (all_end groups_in groups) (meaning_within group_elements [] groups (length groups) number) (groups_pass passes groups e (length groups) number)

-- ---- types

base_passes : (passes : TypeName → Bool) (types : ℕ → List ElementParticle) → ((number : ℕ) → Pass passes (types number)) → (base : Base) → Pass passes (elements_of_base types base)
base_passes passes types known (Builtin builtin) = tt
base_passes passes types known (Declared number) = known number

written_pass : (passes : TypeName → Bool) (groups : ℕ → List ElementParticle) → ((number : ℕ) → Pass passes (groups number)) → (content : Option Particle) → list_all passes (kinds_of_content content) ≡ true →
    Pass passes (written_elements groups content)
written_pass passes groups known None e = tt
written_pass passes groups known (Some particle) e = particle_passes passes groups known particle e

sourced_pass : (passes : TypeName → Bool) (types : ℕ → List ElementParticle) → ((number : ℕ) → Pass passes (types number)) → (source : ContentSource) (written : List ElementParticle) → Pass passes written →
    Pass passes (sourced_elements types source written)
sourced_pass passes types known sources.Simple written h = tt
sourced_pass passes types known sources.Written written h = h
sourced_pass passes types known (sources.Behind base) written h = pass_together passes (elements_of_base types base) written (base_passes passes types known base) h

form_passes : (passes : TypeName → Bool) (groups types : ℕ → List ElementParticle) → ((number : ℕ) → Pass passes (groups number)) → ((number : ℕ) → Pass passes (types number)) → (form : TypeForm) →
    list_all passes (kinds_of_form form) ≡ true → Pass passes (form_elements groups types form)
form_passes passes groups types of_groups of_types (forms.Simple definition) e = tt
form_passes passes groups types of_groups of_types (forms.Complex definition) e =
    sourced_pass passes types of_types (source_of definition.derivation) (written_elements groups definition.content) (written_pass passes groups of_groups definition.content e)

types_pass : (passes : TypeName → Bool) (elements : ℕ → List ElementParticle) → ((number : ℕ) → Pass passes (elements number)) → (components : List TypeComponent) →
    list_all passes (flat_map kinds_of_type components) ≡ true → (steps number : ℕ) → Pass passes (meaning_within (type_elements elements) [] components steps number)
types_pass passes elements of_groups components e zero number = tt
types_pass passes elements of_groups components e (suc steps) number =
    let known = meaning_within (type_elements elements) [] components steps in
    let at = all_at passes kinds_of_type components number in
    elim (slice_get components number) as (λ (c : Option TypeComponent). ((component : TypeComponent) → c ≡ Some component → list_all passes (kinds_of_type component) ≡ true) → Pass passes (meaning_in (type_elements elements) [] c known)) [
      | None ↦ λ h. tt
      | Some component ↦ λ h.
          once_pass passes (form_elements elements known component.form)
          (form_passes passes elements known of_groups (types_pass passes elements of_groups components e steps) component.form (h component refl))
    ] (λ component here. at component e here)

pub type_passes : (passes : TypeName → Bool) (types : List TypeComponent) (groups : List ModelGroup) → element_kinds_pass passes types groups ≡ true → (number : ℕ) → Pass passes (elements_of_type types groups number)
unfolding elements_of_type
type_passes passes types groups e number =
    let parts = all_both passes (flat_map kinds_of_type types) (flat_map kinds_of_group groups) e in
    passes_where passes (all_end extended_types types) (meaning_within (type_elements (elements_of_group groups)) [] types (length types) number)
    (types_pass passes (elements_of_group groups) (group_passes passes groups parts.1) types parts.0 (length types) number)

-- ---- contents

element_passes : (passes : TypeName → Bool) (mixed : Bool) (elements : List ElementParticle) → Pass passes elements → (kind : ItemType) → IsElementOf elements kind → IsPassingItem passes mixed kind
element_passes passes mixed elements h kind it =
    subst (IsPassingItem passes mixed) (sym it.2) (one_passes passes elements it.0 h it.1)

passing_items : (passes : TypeName → Bool) (mixed : Bool) (elements : List ElementParticle) → Pass passes elements → (t : SequenceType) → HoldsElements elements t → HoldsOfEach (IsPassingItem passes mixed) (items_of (model_of mixed t))
passing_items passes true elements h t k =
    each_item (IsPassingItem passes true) (model_of true t)
    (items_mixed (IsPassingItem passes true) refl t (items_weaker (IsElementOf elements) (IsPassingItem passes true) (element_passes passes true elements h) t k))
passing_items passes false elements h t k =
    each_item (IsPassingItem passes false) t (items_weaker (IsElementOf elements) (IsPassingItem passes false) (element_passes passes false elements h) t k)

pub elements_keep : ElementsKeep
elements_keep passes types groups e mixed number =
    passing_items passes mixed (elements_of_type types groups number) (type_passes passes types groups e number) (content_of_type types groups number).content (type_holds types groups number)

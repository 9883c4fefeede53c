-- Bodies list the element particles of groups and types.
use mathlib.Core.Path.{fun_ext}
use Rattle.std.proofs.Common.{◌≡◌, ℕ, List, [], length, map, sym, ◌∙◌, ap}
use Rattle.gx_references.specs.Known.{known}
use Rattle.gx_schema_components.specs.declared.component.ModelGroup.{ModelGroup}
use Rattle.gx_schema_components.specs.declared.component.TypeComponent.{TypeComponent}
use Rattle.gx_schema_content.specs.declared.element_lists.GroupElements.{GroupElements}
use Rattle.gx_schema_content.specs.declared.element_lists.TypeElements.{TypeElements}
use Rattle.gx_schema_content.specs.declared.elements.ElementParticle.{ElementParticle}
use Rattle.gx_schema_content.specs.Disagreement.{first_disagreement, first_disagreement_below}
use Rattle.gx_schema_content.specs.ElementKnots.{elements_of_group, elements_of_type}
use Rattle.gx_schema_content.specs.ElementViews.{ListedType, group_listed, listed_over, type_listed}
use Rattle.gx_schema_content.specs.Elements.{group_elements, type_elements}
use Rattle.gx_schema_content.specs.GroupContents.{groups_in}
use Rattle.gx_schema_content.specs.Knots.{meaning_at_ends}
use Rattle.gx_schema_content.specs.Sources.{extended_types}
use Rattle.gx_schema_content.proofs.KnotLemmas.{meant_by_view}

pub groups_listed : (bodies : List GroupElements) (groups : List ModelGroup) → map group_listed bodies ≡ groups → (number : ℕ) →
    meaning_at_ends (λ (body : GroupElements). groups_in body.group.now) (λ (f : ℕ → List ElementParticle) (body : GroupElements). group_elements f body.group.now) [] bodies number ≡ elements_of_group groups number
unfolding elements_of_group
groups_listed bodies groups e number =
    meant_by_view group_listed groups_in group_elements [] bodies number ∙ ap (λ (gs : List ModelGroup). meaning_at_ends groups_in group_elements [] gs number) e

abbrev type_meaning : (ℕ → List ElementParticle) → ListedType → List ElementParticle
type_meaning f type = type_elements type.groups f type.component

abbrev type_names : ListedType → List ℕ
type_names type = extended_types type.component

pub types_listed : (bodies : List TypeElements) (groups : ℕ → List ElementParticle) (types : List TypeComponent) → map type_listed bodies ≡ map (listed_over groups) types → (number : ℕ) →
    meaning_at_ends (λ (body : TypeElements). extended_types body.component.now) (λ (f : ℕ → List ElementParticle) (body : TypeElements). type_elements (known [] body.groups.now) f body.component.now) [] bodies number
    ≡ meaning_at_ends extended_types (type_elements groups) [] types number
types_listed bodies groups types e number =
    meant_by_view type_listed type_names type_meaning [] bodies number
    ∙ ap (λ (ts : List ListedType). meaning_at_ends type_names type_meaning [] ts number) e
    ∙ sym (meant_by_view (listed_over groups) type_names type_meaning [] types number)

pub lists_are_of_types : (elements : ℕ → List ElementParticle) (types : List TypeComponent) (groups : List ModelGroup) → ((number : ℕ) → elements number ≡ elements_of_group groups number) → (number : ℕ) →
    meaning_at_ends extended_types (type_elements elements) [] types number ≡ elements_of_type types groups number
unfolding elements_of_type
lists_are_of_types elements types groups same number = ap (λ (f : ℕ → List ElementParticle). meaning_at_ends extended_types (type_elements f) [] types number) (fun_ext same)

pub disagreement_is : (table : ℕ → List ElementParticle) (types : List TypeComponent) (groups : List ModelGroup) → ((number : ℕ) → table number ≡ elements_of_type types groups number) →
    first_disagreement_below table (length types) ≡ first_disagreement types groups
unfolding first_disagreement
disagreement_is table types groups same = ap (λ (f : ℕ → List ElementParticle). first_disagreement_below f (length types)) (fun_ext same)

-- Extensions differ from their bases exactly where their outlines do.
use mathlib.Core.Path.{fun_ext}
use Rattle.std.proofs.Common.{◌≡◌, ℕ, Bool, ◌||◌, ◌&&◌, List, refl, ◌∙◌, ap}
use Rattle.std.specs.Prelude.{not}
use Rattle.gx_types.specs.SequenceType.{SequenceType}
use Rattle.gx_schema_components.specs.declared.component.ComplexType.{ComplexType}
use Rattle.gx_schema_components.specs.declared.component.ModelGroup.{ModelGroup}
use Rattle.gx_schema_components.specs.declared.component.TypeComponent.{TypeComponent}
use Rattle.gx_schema_content.specs.declared.effective.Effective.{Effective}
use Rattle.gx_schema_content.specs.declared.outline.Outline.{Outline}
use Rattle.gx_schema_content.specs.declared.outline.TypeOutline.{TypeOutline}
use Rattle.gx_schema_content.specs.declared.source.ContentSource.{ContentSource}
use Rattle.gx_schema_content.specs.declared.source.ContentSource.TheVariants as sources
use Rattle.gx_schema_content.specs.Extensions.{KnownContents, definition_differs, differ, first_differing_extension, first_differing_from, known_contents, mixed_differs, source_differs}
use Rattle.gx_schema_content.specs.OutlineKnots.{outline_of_group, outline_of_type}
use Rattle.gx_schema_content.specs.OutlinedExtensions.{KnownOutlines, outline_differs, outlined_definition_differs, outlined_source_differs}
use Rattle.gx_schema_content.specs.Outlines.{is_empty_outline, outline_of_base, written_outline}
use Rattle.gx_schema_content.specs.Sources.{source_of}
use Rattle.gx_schema_content.specs.TypeContents.{content_of_base, is_nothing, written_content}
use Rattle.gx_schema_content.proofs.ContentOutlines.{AreOutlines, AreTypeOutlines, IsOutline, IsTypeOutline, base_is, emptiness, groups_have_outlines, types_have_outlines, written_is}

differs_alike : (mixed : Bool) (o : Outline) (t : SequenceType) (outline : TypeOutline) (base : Effective) → IsOutline o t → IsTypeOutline outline base → outline_differs mixed o outline ≡ mixed_differs mixed t base
differs_alike mixed o t outline base added is =
    ap (λ (below : Bool). differ mixed below && (not (is_empty_outline outline.content && not below) && (not (is_empty_outline o) || mixed))) is.mixed
    ∙ ap (λ (empty : Bool). differ mixed base.mixed && (not (empty && not base.mixed) && (not (is_empty_outline o) || mixed))) (emptiness outline.content base.content is.content)
    ∙ ap (λ (empty : Bool). differ mixed base.mixed && (not (is_nothing base.content && not base.mixed) && (not empty || mixed))) (emptiness o t added)

source_differs_alike : (seen : KnownOutlines) (known : KnownContents) → AreTypeOutlines seen.types known.types → (source : ContentSource) (mixed : Bool) (o : Outline) (t : SequenceType) → IsOutline o t →
    outlined_source_differs seen source mixed o ≡ source_differs known source mixed t
source_differs_alike seen known are sources.Simple mixed o t added = refl
source_differs_alike seen known are sources.Written mixed o t added = refl
source_differs_alike seen known are (sources.Behind base) mixed o t added =
    differs_alike mixed o t (outline_of_base seen.types base) (content_of_base known.types base) added (base_is seen.types known.types are base)

definition_differs_alike : (seen : KnownOutlines) (known : KnownContents) → AreOutlines seen.groups known.groups → AreTypeOutlines seen.types known.types → (definition : ComplexType) →
    outlined_definition_differs seen definition ≡ definition_differs known definition
definition_differs_alike seen known groups types definition =
    source_differs_alike seen known types (source_of definition.derivation) definition.mixed (written_outline seen.groups definition.content) (written_content known.groups definition.content)
    (written_is seen.groups known.groups groups definition.content)

known_with : (ℕ → Outline) → (ℕ → TypeOutline) → KnownOutlines
known_with groups types = record { groups = groups; types = types }

known_is : (seen : KnownOutlines) (types : List TypeComponent) (groups : List ModelGroup) → ((number : ℕ) → seen.groups number ≡ outline_of_group groups number) →
    ((number : ℕ) → seen.types number ≡ outline_of_type types groups number) → seen ≡ known_with (outline_of_group groups) (outline_of_type types groups)
unfolding known_with
known_is seen types groups g t =
    ap (λ (f : ℕ → Outline). known_with f seen.types) (fun_ext g)
    ∙ ap (λ (f : ℕ → TypeOutline). known_with (outline_of_group groups) f) (fun_ext t)

-- the first by outlines is the first by contents
pub first_by_outlines : (seen : KnownOutlines) (types : List TypeComponent) (groups : List ModelGroup) → ((number : ℕ) → seen.groups number ≡ outline_of_group groups number) →
    ((number : ℕ) → seen.types number ≡ outline_of_type types groups number) →
    first_differing_from (outlined_definition_differs seen) 0 types ≡ first_differing_extension types groups
unfolding first_differing_extension known_with
first_by_outlines seen types groups g t =
    ap (λ (k : KnownOutlines). first_differing_from (outlined_definition_differs k) 0 types) (known_is seen types groups g t)
    ∙ ap (λ (differs : ComplexType → Bool). first_differing_from differs 0 types)
    (fun_ext (definition_differs_alike (known_with (outline_of_group groups) (outline_of_type types groups)) (known_contents types groups) (groups_have_outlines groups) (types_have_outlines types groups)))

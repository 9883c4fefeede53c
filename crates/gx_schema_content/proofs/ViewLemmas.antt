-- Bodies mean what groups and types mean.
use mathlib.Core.Path.{fun_ext}
use Rattle.std.proofs.Common.{◌≡◌, ℕ, List, map, sym, ◌∙◌, ap}
use Rattle.gx_types.specs.SequenceType.{SequenceType, never}
use Rattle.gx_references.specs.Known.{known}
use Rattle.gx_schema_components.specs.declared.component.ModelGroup.{ModelGroup}
use Rattle.gx_schema_components.specs.declared.component.TypeComponent.{TypeComponent}
use Rattle.gx_schema_content.specs.declared.effective.Effective.{Effective}
use Rattle.gx_schema_content.specs.declared.group_content.GroupContent.{GroupContent}
use Rattle.gx_schema_content.specs.declared.group_positions.GroupPositions.{GroupPositions}
use Rattle.gx_schema_content.specs.declared.type_content.TypeContent.{TypeContent}
use Rattle.gx_schema_content.specs.declared.type_positions.TypePositions.{TypePositions}
use Rattle.gx_schema_content.specs.ContentKnots.{content_of_group, content_of_type, fitting_group, fitting_type}
use Rattle.gx_schema_content.specs.GroupContents.{content_that_fits, groups_in}
use Rattle.gx_schema_content.specs.GroupPositions.{counted, group_positions}
use Rattle.gx_schema_content.specs.Knots.{meaning_at_ends}
use Rattle.gx_schema_content.specs.PositionKnots.{counted_group, counted_type, positions_of_group, positions_of_type}
use Rattle.gx_schema_content.specs.Sources.{extended_types}
use Rattle.gx_schema_content.specs.TypeContents.{type_content_that_fits, unknown_content}
use Rattle.gx_schema_content.specs.TypePositions.{component_positions}
use Rattle.gx_schema_content.specs.Views.{CountedType, FittingGroup, FittingType, counted_over, fitting_by, fitting_over, group_counted, group_filled, type_counted, type_filled}
use Rattle.gx_schema_content.proofs.KnotLemmas.{meant_by_view}

pub groups_counted : (bodies : List GroupPositions) (groups : List ModelGroup) → map group_counted bodies ≡ groups → (number : ℕ) →
    meaning_at_ends (λ (body : GroupPositions). groups_in body.group.now) (λ (f : ℕ → ℕ) (body : GroupPositions). counted (group_positions f body.group.now)) 0 bodies number ≡ positions_of_group groups number
unfolding positions_of_group
groups_counted bodies groups e number = meant_by_view group_counted groups_in counted_group 0 bodies number ∙ ap (λ (gs : List ModelGroup). meaning_at_ends groups_in counted_group 0 gs number) e

abbrev counted_meaning : (ℕ → ℕ) → CountedType → ℕ
counted_meaning f type = counted (component_positions type.groups f type.component)

abbrev counted_names : CountedType → List ℕ
counted_names type = extended_types type.component

pub types_counted : (bodies : List TypePositions) (groups : ℕ → ℕ) (types : List TypeComponent) → map type_counted bodies ≡ map (counted_over groups) types → (number : ℕ) →
    meaning_at_ends (λ (body : TypePositions). extended_types body.component.now) (λ (f : ℕ → ℕ) (body : TypePositions). counted (component_positions (known 0 body.groups.now) f body.component.now)) 0 bodies number
    ≡ meaning_at_ends extended_types (counted_type groups) 0 types number
types_counted bodies groups types e number =
    meant_by_view type_counted counted_names counted_meaning 0 bodies number
    ∙ ap (λ (ts : List CountedType). meaning_at_ends counted_names counted_meaning 0 ts number) e
    ∙ sym (meant_by_view (counted_over groups) counted_names counted_meaning 0 types number)

pub positions_of_types : (table : ℕ → ℕ) (types : List TypeComponent) (groups : List ModelGroup) → ((number : ℕ) → table number ≡ positions_of_group groups number) → (number : ℕ) →
    meaning_at_ends extended_types (counted_type table) 0 types number ≡ positions_of_type types groups number
unfolding positions_of_type
positions_of_types table types groups same number = ap (λ (f : ℕ → ℕ). meaning_at_ends extended_types (counted_type f) 0 types number) (fun_ext same)

abbrev fitting_meaning : (ℕ → SequenceType) → FittingGroup → SequenceType
fitting_meaning f group = content_that_fits group.fits f group.group

abbrev fitting_names : FittingGroup → List ℕ
fitting_names group = groups_in group.group

pub groups_filled : (bodies : List GroupContent) (positions : ℕ → ℕ) (groups : List ModelGroup) → map group_filled bodies ≡ map (fitting_by positions) groups → (number : ℕ) →
    meaning_at_ends (λ (body : GroupContent). groups_in body.group.now) (λ (f : ℕ → SequenceType) (body : GroupContent). content_that_fits body.fits f body.group.now) never bodies number
    ≡ meaning_at_ends groups_in (fitting_group positions) never groups number
groups_filled bodies positions groups e number =
    meant_by_view group_filled fitting_names fitting_meaning never bodies number
    ∙ ap (λ (gs : List FittingGroup). meaning_at_ends fitting_names fitting_meaning never gs number) e
    ∙ sym (meant_by_view (fitting_by positions) fitting_names fitting_meaning never groups number)

abbrev filled_meaning : (ℕ → Effective) → FittingType SequenceType → Effective
filled_meaning f type = type_content_that_fits type.fits type.groups f type.component

abbrev filled_names : FittingType SequenceType → List ℕ
filled_names type = extended_types type.component

pub types_filled : (bodies : List TypeContent) (groups types : ℕ → ℕ) (contents : ℕ → SequenceType) (components : List TypeComponent) → map type_filled bodies ≡ map (fitting_over groups types contents) components → (number : ℕ) →
    meaning_at_ends (λ (body : TypeContent). extended_types body.component.now) (λ (f : ℕ → Effective) (body : TypeContent). type_content_that_fits body.fits (known never body.groups.now) f body.component.now) unknown_content bodies number
    ≡ meaning_at_ends extended_types (fitting_type groups types contents) unknown_content components number
types_filled bodies groups types contents components e number =
    meant_by_view type_filled filled_names filled_meaning unknown_content bodies number
    ∙ ap (λ (ts : List (FittingType SequenceType)). meaning_at_ends filled_names filled_meaning unknown_content ts number) e
    ∙ sym (meant_by_view (fitting_over groups types contents) filled_names filled_meaning unknown_content components number)

pub contents_of_groups : (table : ℕ → ℕ) (groups : List ModelGroup) → ((number : ℕ) → table number ≡ positions_of_group groups number) → (number : ℕ) →
    meaning_at_ends groups_in (fitting_group table) never groups number ≡ content_of_group groups number
unfolding content_of_group
contents_of_groups table groups same number = ap (λ (f : ℕ → ℕ). meaning_at_ends groups_in (fitting_group f) never groups number) (fun_ext same)

pub contents_of_types : (of_groups of_types : ℕ → ℕ) (contents : ℕ → SequenceType) (types : List TypeComponent) (groups : List ModelGroup) →
    ((number : ℕ) → of_groups number ≡ positions_of_group groups number) → ((number : ℕ) → of_types number ≡ positions_of_type types groups number) →
    ((number : ℕ) → contents number ≡ content_of_group groups number) → (number : ℕ) →
    meaning_at_ends extended_types (fitting_type of_groups of_types contents) unknown_content types number ≡ content_of_type types groups number
unfolding content_of_type
contents_of_types of_groups of_types contents types groups same_groups same_types same_contents number =
    ap (λ (f : ℕ → ℕ). meaning_at_ends extended_types (fitting_type f of_types contents) unknown_content types number) (fun_ext same_groups)
    ∙ ap (λ (f : ℕ → ℕ). meaning_at_ends extended_types (fitting_type (positions_of_group groups) f contents) unknown_content types number) (fun_ext same_types)
    ∙ ap (λ (f : ℕ → SequenceType). meaning_at_ends extended_types (fitting_type (positions_of_group groups) (positions_of_type types groups) f) unknown_content types number) (fun_ext same_contents)

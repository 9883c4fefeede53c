-- Bodies have the outlines of groups and types.
use mathlib.Core.Path.{fun_ext}
use Rattle.std.proofs.Common.{◌≡◌, ℕ, List, map, sym, ◌∙◌, ap}
use Rattle.gx_references.specs.Known.{known}
use Rattle.gx_schema_components.specs.declared.component.ModelGroup.{ModelGroup}
use Rattle.gx_schema_components.specs.declared.component.TypeComponent.{TypeComponent}
use Rattle.gx_schema_content.specs.declared.group_outlines.OutlinedGroup.{OutlinedGroup}
use Rattle.gx_schema_content.specs.declared.outline.Outline.{Outline}
use Rattle.gx_schema_content.specs.declared.outline.Outline.TheVariants.{Never}
use Rattle.gx_schema_content.specs.declared.outline.TypeOutline.{TypeOutline}
use Rattle.gx_schema_content.specs.declared.type_outlines.OutlinedType.{OutlinedType}
use Rattle.gx_schema_content.specs.GroupContents.{groups_in}
use Rattle.gx_schema_content.specs.Knots.{meaning_at_ends}
use Rattle.gx_schema_content.specs.OutlineKnots.{outline_of_group, outline_of_type}
use Rattle.gx_schema_content.specs.OutlineViews.{TypeOverOutlines, group_outlined, outlined_over, type_outlined}
use Rattle.gx_schema_content.specs.Outlines.{group_outline, type_outline, unknown_outline}
use Rattle.gx_schema_content.specs.Sources.{extended_types}
use Rattle.gx_schema_content.proofs.KnotLemmas.{meant_by_view}

pub groups_outlined : (bodies : List OutlinedGroup) (groups : List ModelGroup) → map group_outlined bodies ≡ groups → (number : ℕ) →
    meaning_at_ends (λ (body : OutlinedGroup). groups_in body.group.now) (λ (f : ℕ → Outline) (body : OutlinedGroup). group_outline f body.group.now) Never bodies number ≡ outline_of_group groups number
unfolding outline_of_group
groups_outlined bodies groups e number =
    meant_by_view group_outlined groups_in group_outline Never bodies number ∙ ap (λ (gs : List ModelGroup). meaning_at_ends groups_in group_outline Never gs number) e

abbrev outlined_meaning : (ℕ → TypeOutline) → TypeOverOutlines → TypeOutline
outlined_meaning f type = type_outline type.groups f type.component

abbrev outlined_names : TypeOverOutlines → List ℕ
outlined_names type = extended_types type.component

pub types_outlined : (bodies : List OutlinedType) (groups : ℕ → Outline) (types : List TypeComponent) → map type_outlined bodies ≡ map (outlined_over groups) types → (number : ℕ) →
    meaning_at_ends (λ (body : OutlinedType). extended_types body.component.now) (λ (f : ℕ → TypeOutline) (body : OutlinedType). type_outline (known Never body.groups.now) f body.component.now) unknown_outline bodies number
    ≡ meaning_at_ends extended_types (type_outline groups) unknown_outline types number
types_outlined bodies groups types e number =
    meant_by_view type_outlined outlined_names outlined_meaning unknown_outline bodies number
    ∙ ap (λ (ts : List TypeOverOutlines). meaning_at_ends outlined_names outlined_meaning unknown_outline ts number) e
    ∙ sym (meant_by_view (outlined_over groups) outlined_names outlined_meaning unknown_outline types number)

pub outlines_are_of_types : (outlines : ℕ → Outline) (types : List TypeComponent) (groups : List ModelGroup) → ((number : ℕ) → outlines number ≡ outline_of_group groups number) → (number : ℕ) →
    meaning_at_ends extended_types (type_outline outlines) unknown_outline types number ≡ outline_of_type types groups number
unfolding outline_of_type
outlines_are_of_types outlines types groups same number = ap (λ (f : ℕ → Outline). meaning_at_ends extended_types (type_outline f) unknown_outline types number) (fun_ext same)

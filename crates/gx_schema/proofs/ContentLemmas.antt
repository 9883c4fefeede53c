-- Tables of contents and of positions, at every number.
use mathlib.Core.Path.{fun_ext}
use Rattle.std.proofs.Common.{◌≡◌, ◌∙◌, ℕ, zero, suc, ◌<◌, ◌≤◌, ◌⊎◌, inl, inr, Bool, true, false, List, length, slice_get, slice_index_or, Option, None, refl, sym, ap, arith, if◌then◌else◌}
use Rattle.std.proofs.lemmas.Bool.Decides.{leb_tells}
use Rattle.std.proofs.lemmas.List.{get_or_past}
use Rattle.std.proofs.lemmas.Option.{get_or_from_slice_get, slice_get_past}
use Rattle.gx_schema_components.specs.declared.component.ModelGroup.{ModelGroup}
use Rattle.gx_schema_components.specs.declared.component.TypeComponent.{TypeComponent}
use Rattle.gx_references.specs.References.{meaning_in, meaning_within}
use Rattle.gx_schema_content.specs.declared.effective.Effective.{Effective}
use Rattle.gx_schema_content.specs.ContentKnots.{content_of_group, content_of_type, fitting_type}
use Rattle.gx_schema_content.specs.Knots.{IsListBelow, all_end}
use Rattle.gx_schema_content.specs.PositionKnots.{counted_type, positions_of_group, positions_of_type}
use Rattle.gx_schema_content.specs.Sources.{extended_types}
use Rattle.gx_schema_content.specs.TypeContents.{unknown_content}
use Rattle.gx_schema.specs.MeaningsView.{effective_at, is_past_limit}
use Rattle.gx_schema.specs.SeenComponents.{SeenComponents}
use Rattle.gx_schema.specs.TooLarge.{has_too_many, is_too_large}

-- ---- outside of a list

nothing_outside : {B M : Type 0} (meant : (ℕ → M) → B → M) (nothing : M) (bodies : List B) (steps number : ℕ) → slice_get bodies number ≡ None → meaning_within meant nothing bodies steps number ≡ nothing
nothing_outside meant nothing bodies zero number e = refl
nothing_outside {B} meant nothing bodies (suc steps) number e = ap (λ (found : Option B). meaning_in meant nothing found (meaning_within meant nothing bodies steps)) e

nothing_by : {M : Type 0} (ends : Bool) (meaning nothing : M) → meaning ≡ nothing → (if ends then meaning else nothing) ≡ nothing
nothing_by true meaning nothing e = e
nothing_by false meaning nothing e = refl

content_outside : (types : List TypeComponent) (groups : List ModelGroup) (number : ℕ) → length types ≤ number → content_of_type types groups number ≡ unknown_content
unfolding content_of_type
content_outside types groups number past =
    nothing_by (all_end extended_types types)
    (meaning_within (fitting_type (positions_of_group groups) (positions_of_type types groups) (content_of_group groups)) unknown_content types (length types) number) unknown_content
    (nothing_outside (fitting_type (positions_of_group groups) (positions_of_type types groups) (content_of_group groups)) unknown_content types (length types) number (slice_get_past types number past))

-- ---- at a number

below_or_not : (number count : ℕ) → (count ≤ number) ⊎ (number < count)
below_or_not number count = elim (leb_tells count number) [ inl (_, past) ↦ inl past | inr (_, less) ↦ inr less ]

sized_past : (count size number : ℕ) → size ≡ count → count ≤ number → size ≤ number
sized_past count size number e past = omega (arith, e, past)

pub content_in_table : (types : List TypeComponent) (groups : List ModelGroup) (contents : List Effective) → IsListBelow (length types) (content_of_type types groups) contents → (number : ℕ) →
    effective_at contents number ≡ content_of_type types groups number
content_in_table types groups contents told number = elim (below_or_not number (length types)) [
  | inl past ↦ get_or_past contents number unknown_content (sized_past (length types) (length contents) number told.sized past) ∙ sym (content_outside types groups number past)
  | inr within ↦ get_or_from_slice_get contents number (content_of_type types groups number) unknown_content (told.entries number within)
]

positions_outside : (types : List TypeComponent) (groups : List ModelGroup) (number : ℕ) → length types ≤ number → positions_of_type types groups number ≡ 0
unfolding positions_of_type
positions_outside types groups number past =
    nothing_by (all_end extended_types types) (meaning_within (counted_type (positions_of_group groups)) 0 types (length types) number) 0
    (nothing_outside (counted_type (positions_of_group groups)) 0 types (length types) number (slice_get_past types number past))

pub positions_in_table : (types : List TypeComponent) (groups : List ModelGroup) (positions : List ℕ) → IsListBelow (length types) (positions_of_type types groups) positions → (number : ℕ) →
    slice_index_or positions number 0 ≡ positions_of_type types groups number
positions_in_table types groups positions told number = elim (below_or_not number (length types)) [
  | inl past ↦ get_or_past positions number 0 (sized_past (length types) (length positions) number told.sized past) ∙ sym (positions_outside types groups number past)
  | inr within ↦ get_or_from_slice_get positions number (positions_of_type types groups number) 0 (told.entries number within)
]

pub past_limit_is_too_large : (seen : SeenComponents) (contents : List Effective) (positions : List ℕ) → ((number : ℕ) → effective_at contents number ≡ content_of_type seen.types seen.groups number) →
    ((number : ℕ) → slice_index_or positions number 0 ≡ positions_of_type seen.types seen.groups number) → is_past_limit contents positions ≡ is_too_large seen
past_limit_is_too_large seen contents positions told counted = fun_ext (λ number.
    ap (λ (effective : Effective). has_too_many effective.mixed (slice_index_or positions number 0)) (told number)
    ∙ ap (has_too_many (content_of_type seen.types seen.groups number).mixed) (counted number))

use Rattle.std.proofs.Common.{◌≡◌, ℕ, List, Option, ◌∙◌, ap}
use Rattle.gx_references.specs.Known.{known}
use Rattle.gx_schema_content.specs.declared.extensions.OutlineTables.{OutlineTables}
use Rattle.gx_schema_content.specs.declared.outline.Outline.{Outline}
use Rattle.gx_schema_content.specs.declared.outline.Outline.TheVariants.{Never}
use Rattle.gx_schema_content.specs.declared.outline.TypeOutline.{TypeOutline}
use Rattle.gx_schema_content.specs.KnownView.{known_by}
use Rattle.gx_schema_content.specs.OutlineKnots.{outline_of_group}
use Rattle.gx_schema_content.specs.Outlines.{unknown_outline}
use Rattle.gx_schema_content.proofs.ExtensionLemmas.{first_by_outlines}
use Rattle.gx_schema_content.proofs.OutlineViewLemmas.{outlines_are_of_types}
use Rattle.gx_schema_content.proofs.extensions.first_differing_extension.Goals as goal

pub returns : goal.returns
returns c =
    let types = c.args.types.now in
    let groups = c.args.groups.now in
    let tables : OutlineTables = record { groups = c.as_slice-2.result; types = c.as_slice-3.result } in
    let of_groups : (number : ℕ) → known Never c.as_slice.result.now number ≡ outline_of_group groups number =
    λ n. ap (λ (table : List (Option Outline)). known Never table n) c.as_slice.ensures.value ∙ c.in_ok-groups.ensures n in
    c.first_differing.ensures
    ∙ first_by_outlines (known_by tables) types groups
    (λ n. ap (λ (table : List (Option Outline)). known Never table n) c.as_slice-2.ensures.value ∙ c.in_ok-groups.ensures n)
    (λ n. ap (λ (table : List (Option TypeOutline)). known unknown_outline table n) c.as_slice-3.ensures.value
    ∙ c.in_ok-outlines.ensures n
    ∙ outlines_are_of_types (known Never c.as_slice.result.now) types groups of_groups n)

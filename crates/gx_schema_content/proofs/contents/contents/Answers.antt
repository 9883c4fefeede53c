use Rattle.std.proofs.Common.{◌≡◌, ℕ, List, Option, length, ◌∙◌, ap}
use Rattle.gx_types.specs.SequenceType.{SequenceType, never}
use Rattle.gx_references.specs.Known.{known}
use Rattle.gx_schema_content.specs.declared.effective.Effective.{Effective}
use Rattle.gx_schema_content.specs.ContentKnots.{content_of_group, content_of_type}
use Rattle.gx_schema_content.specs.TypeContents.{unknown_content}
use Rattle.gx_schema_content.proofs.KnotLemmas.{list_means}
use Rattle.gx_schema_content.proofs.ViewLemmas.{contents_of_groups, contents_of_types}
use Rattle.gx_schema_content.proofs.contents.contents.Goals as goal

pub returns : goal.returns
returns c =
    let types = c.args.types.now in
    let groups = c.args.groups.now in
    let positions = c.in_ok-tables.tables.groups.items in
    let filled : (number : ℕ) → known never c.as_slice-2.result.now number ≡ content_of_group groups number =
    λ n. ap (λ (table : List (Option SequenceType)). known never table n) c.as_slice-2.ensures.value
    ∙ c.in_ok-groups.ensures n
    ∙ contents_of_groups (known 0 c.as_slice.result.now) groups (λ m. ap (λ (table : List (Option ℕ)). known 0 table m) c.as_slice.ensures.value ∙ c.in_ok-tables.ensures.groups m) n in
    list_means c.contents_of.result (λ contents. contents.items) (length types) (known unknown_content c.as_slice-3.result.now) (content_of_type types groups)
    (λ n. ap (λ (table : List (Option Effective)). known unknown_content table n) c.as_slice-3.ensures.value
    ∙ c.in_ok-table.ensures n
    ∙ contents_of_types (known 0 positions) (known 0 c.in_ok-tables.tables.types.items) (known never c.as_slice-2.result.now) types groups c.in_ok-tables.ensures.groups c.in_ok-tables.ensures.types filled n)
    c.contents_of.ensures

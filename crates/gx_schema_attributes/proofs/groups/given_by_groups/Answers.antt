use Rattle.std.proofs.Common.{◌≡◌, ℕ, List, ◌∙◌, ap}
use mathlib.Core.Path.{fun_ext}
use Rattle.gx_schema_components.specs.declared.component.AttributePart.{AttributePart}
use Rattle.gx_references.specs.Known.{known}
use Rattle.gx_schema_attributes.specs.AllEnd.{meaning_if_all_end}
use Rattle.gx_schema_attributes.specs.GivenUses.{nothing_given}
use Rattle.gx_schema_attributes.specs.GroupUses.{group_given, group_parts, groups_named}
use Rattle.gx_schema_attributes.proofs.SeenMeanings.{table_means, endless_means}
use Rattle.gx_schema_attributes.proofs.groups.given_by_groups.Goals as goal

pub returns-in-Some : goal.returns-in-Some
returns-in-Some c =
    let are = rw c.in-Some.is at c.in_ok-table.ensures in
    let bodies : c.as_slice.result.now ≡ group_parts c.args.groups.now = c.as_slice.ensures.value ∙ c.in_ok-parts.ensures in
    fun_ext (λ (number : ℕ). table_means groups_named group_given nothing_given c.as_slice.result.now c.in-Some.table.items are number
    ∙ ap (λ (parts : List (List AttributePart)). meaning_if_all_end groups_named group_given nothing_given parts number) bodies)

pub returns : goal.returns
returns c =
    let endless = rw c.in-None.is at c.in_ok-table.ensures in
    let bodies : c.as_slice.result.now ≡ group_parts c.args.groups.now = c.as_slice.ensures.value ∙ c.in_ok-parts.ensures in
    fun_ext (λ (number : ℕ). ap (λ (table : List _). known nothing_given table number) c.new.ensures.items
    ∙ endless_means groups_named group_given nothing_given c.as_slice.result.now endless number
    ∙ ap (λ (parts : List (List AttributePart)). meaning_if_all_end groups_named group_given nothing_given parts number) bodies)

use Rattle.std.proofs.Common.{◌≡◌, ℕ, [], List, map, ◌∙◌, ap}
use Rattle.gx_schema_attributes.specs.declared.given.GivenUses.{GivenUses}
use Rattle.gx_schema_attributes.specs.declared.own.OwnUses.{OwnUses}
use Rattle.gx_references.specs.Known.{known}
use Rattle.gx_schema_attributes.specs.AllEnd.{meaning_if_all_end}
use Rattle.gx_schema_attributes.specs.GivenUses.{nothing_given}
use Rattle.gx_schema_attributes.specs.GroupUses.{given_by_group}
use Rattle.gx_schema_attributes.specs.OwnUses.{base_named, own_of_type}
use Rattle.gx_schema_attributes.specs.TypeUses.{own_of_types, uses_of_type, uses_over}
use Rattle.gx_schema_attributes.proofs.FoundUses.{found_in_all, none_in_all}
use Rattle.gx_schema_attributes.proofs.SeenMeanings.{table_means, endless_means}
use Rattle.gx_schema_attributes.proofs.uses.attribute_uses.Goals as goal

pub returns-in-Some-clause-uses : goal.returns-in-Some-clause-uses
returns-in-Some-clause-uses c =
    let types = c.args.types.now in
    let groups = c.args.groups.now in
    let are = rw c.in-Some.is at c.in_ok-table.ensures in
    let given : known nothing_given c.as_slice.result.now ≡ given_by_group groups = ap (λ (table : List _). known nothing_given table) c.as_slice.ensures.value ∙ c.in_ok-given.ensures in
    let own : c.as_slice-2.result.now ≡ own_of_types types groups =
    c.as_slice-2.ensures.value ∙ c.in_ok-own.ensures ∙ ap (λ (f : ℕ → GivenUses). map (own_of_type f) types) given in
    found_in_all c.all_uses.result c.in-Some.table.items (uses_of_type types groups)
    (λ number. table_means base_named uses_over [] c.as_slice-2.result.now c.in-Some.table.items are number ∙ ap (λ (os : List OwnUses). meaning_if_all_end base_named uses_over [] os number) own)
    c.all_uses.ensures

pub returns-clause-uses : goal.returns-clause-uses
returns-clause-uses c =
    let types = c.args.types.now in
    let groups = c.args.groups.now in
    let endless = rw c.in-None.is at c.in_ok-table.ensures in
    let given : known nothing_given c.as_slice.result.now ≡ given_by_group groups = ap (λ (table : List _). known nothing_given table) c.as_slice.ensures.value ∙ c.in_ok-given.ensures in
    let own : c.as_slice-2.result.now ≡ own_of_types types groups =
    c.as_slice-2.ensures.value ∙ c.in_ok-own.ensures ∙ ap (λ (f : ℕ → GivenUses). map (own_of_type f) types) given in
    none_in_all c.no_uses.result (uses_of_type types groups)
    (λ number. endless_means base_named uses_over [] c.as_slice-2.result.now endless number ∙ ap (λ (os : List OwnUses). meaning_if_all_end base_named uses_over [] os number) own)
    c.no_uses.ensures.empty

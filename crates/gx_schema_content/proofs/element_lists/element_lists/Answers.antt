use Rattle.std.proofs.Common.{◌≡◌, ℕ, List, [], Option, ◌∙◌, ap}
use Rattle.gx_references.specs.Known.{known}
use Rattle.gx_schema_content.specs.declared.elements.ElementParticle.{ElementParticle}
use Rattle.gx_schema_content.specs.ElementKnots.{elements_of_group}
use Rattle.gx_schema_content.proofs.ElementViewLemmas.{lists_are_of_types}
use Rattle.gx_schema_content.proofs.KnotLemmas.{table_means}
use Rattle.gx_schema_content.proofs.element_lists.element_lists.Goals as goal

pub returns : goal.returns
returns c =
    let listed : (number : ℕ) → known [] c.as_slice.result.now number ≡ elements_of_group c.args.groups.now number =
    λ n. ap (λ (table : List (Option (List ElementParticle))). known [] table n) c.as_slice.ensures.value ∙ c.in_ok-groups.ensures n in
    table_means c.lists_of_types.result (λ table. known [] table.items) _ _
    (lists_are_of_types (known [] c.as_slice.result.now) c.args.types.now c.args.groups.now listed) c.lists_of_types.ensures

use Rattle.std.proofs.Common.{[], map, ◌∙◌, ap}
use Rattle.gx_references.specs.Known.{known}
use Rattle.gx_schema_content.specs.ElementViews.{type_listed}
use Rattle.gx_schema_content.proofs.ElementViewLemmas.{types_listed}
use Rattle.gx_schema_content.proofs.KnotLemmas.{table_means}
use Rattle.gx_schema_content.proofs.element_lists.lists_of_types.Goals as goal

pub returns : goal.returns
returns c =
    table_means c.known_meanings.result (λ table. known [] table.items) _ _
    (types_listed c.as_slice.result.now (known [] c.args.groups.now) c.args.types.now (ap (map type_listed) c.as_slice.ensures.value ∙ c.in_ok-bodies.ensures)) c.known_meanings.ensures

use Rattle.std.proofs.Common.{map, ◌∙◌, ap}
use Rattle.gx_references.specs.Known.{known}
use Rattle.gx_schema_content.specs.Views.{type_counted}
use Rattle.gx_schema_content.proofs.KnotLemmas.{table_means}
use Rattle.gx_schema_content.proofs.ViewLemmas.{types_counted}
use Rattle.gx_schema_content.proofs.positions.positions_over.Goals as goal

pub returns : goal.returns
returns c =
    table_means c.known_meanings.result (λ table. known 0 table.items) _ _
    (types_counted c.as_slice.result.now (known 0 c.args.groups.now) c.args.types.now (ap (map type_counted) c.as_slice.ensures.value ∙ c.in_ok-bodies.ensures)) c.known_meanings.ensures

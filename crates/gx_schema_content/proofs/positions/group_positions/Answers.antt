use Rattle.std.proofs.Common.{map, ◌∙◌, ap}
use Rattle.gx_references.specs.Known.{known}
use Rattle.gx_schema_content.specs.Views.{group_counted}
use Rattle.gx_schema_content.proofs.KnotLemmas.{table_means}
use Rattle.gx_schema_content.proofs.ViewLemmas.{groups_counted}
use Rattle.gx_schema_content.proofs.positions.group_positions.Goals as goal

pub returns : goal.returns
returns c =
    table_means c.known_meanings.result (λ table. known 0 table.items) _ _
    (groups_counted c.as_slice.result.now c.args.groups.now (ap (map group_counted) c.as_slice.ensures.value ∙ c.in_ok-bodies.ensures)) c.known_meanings.ensures

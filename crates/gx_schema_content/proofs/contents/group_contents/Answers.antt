use Rattle.std.proofs.Common.{map, ◌∙◌, ap}
use Rattle.gx_types.specs.SequenceType.{never}
use Rattle.gx_references.specs.Known.{known}
use Rattle.gx_schema_content.specs.Views.{group_filled}
use Rattle.gx_schema_content.proofs.KnotLemmas.{table_means}
use Rattle.gx_schema_content.proofs.ViewLemmas.{groups_filled}
use Rattle.gx_schema_content.proofs.contents.group_contents.Goals as goal

pub returns : goal.returns
returns c =
    table_means c.known_meanings.result (λ table. known never table.items) _ _
    (groups_filled c.as_slice.result.now (known 0 c.args.positions.now) c.args.groups.now (ap (map group_filled) c.as_slice.ensures.value ∙ c.in_ok-bodies.ensures)) c.known_meanings.ensures

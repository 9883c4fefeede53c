use Rattle.std.proofs.Common.{map, ◌∙◌, ap}
use Rattle.gx_types.specs.SequenceType.{never}
use Rattle.gx_references.specs.Known.{known}
use Rattle.gx_schema_content.specs.TypeContents.{unknown_content}
use Rattle.gx_schema_content.specs.Views.{type_filled}
use Rattle.gx_schema_content.proofs.KnotLemmas.{table_means}
use Rattle.gx_schema_content.proofs.ViewLemmas.{types_filled}
use Rattle.gx_schema_content.proofs.contents.type_contents.Goals as goal

pub returns : goal.returns
returns c =
    table_means c.known_meanings.result (λ table. known unknown_content table.items) _ _
    (types_filled c.as_slice.result.now (known 0 c.args.tables.now.groups.items) (known 0 c.args.tables.now.types.items) (known never c.args.groups.now) c.args.types.now
    (ap (map type_filled) c.as_slice.ensures.value ∙ c.in_ok-bodies.ensures)) c.known_meanings.ensures

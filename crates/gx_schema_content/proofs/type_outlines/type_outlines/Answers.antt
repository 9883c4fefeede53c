use Rattle.std.proofs.Common.{map, ◌∙◌, ap}
use Rattle.gx_references.specs.Known.{known}
use Rattle.gx_schema_content.specs.declared.outline.Outline.TheVariants.{Never}
use Rattle.gx_schema_content.specs.OutlineViews.{type_outlined}
use Rattle.gx_schema_content.specs.Outlines.{unknown_outline}
use Rattle.gx_schema_content.proofs.KnotLemmas.{table_means}
use Rattle.gx_schema_content.proofs.OutlineViewLemmas.{types_outlined}
use Rattle.gx_schema_content.proofs.type_outlines.type_outlines.Goals as goal

pub returns : goal.returns
returns c =
    table_means c.known_meanings.result (λ table. known unknown_outline table.items) _ _
    (types_outlined c.as_slice.result.now (known Never c.args.groups.now) c.args.types.now (ap (map type_outlined) c.as_slice.ensures.value ∙ c.in_ok-bodies.ensures)) c.known_meanings.ensures

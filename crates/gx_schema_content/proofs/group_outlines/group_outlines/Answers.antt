use Rattle.std.proofs.Common.{map, ◌∙◌, ap}
use Rattle.gx_references.specs.Known.{known}
use Rattle.gx_schema_content.specs.declared.outline.Outline.TheVariants.{Never}
use Rattle.gx_schema_content.specs.OutlineViews.{group_outlined}
use Rattle.gx_schema_content.proofs.KnotLemmas.{table_means}
use Rattle.gx_schema_content.proofs.OutlineViewLemmas.{groups_outlined}
use Rattle.gx_schema_content.proofs.group_outlines.group_outlines.Goals as goal

pub returns : goal.returns
returns c =
    table_means c.known_meanings.result (λ table. known Never table.items) _ _
    (groups_outlined c.as_slice.result.now c.args.groups.now (ap (map group_outlined) c.as_slice.ensures.value ∙ c.in_ok-bodies.ensures)) c.known_meanings.ensures

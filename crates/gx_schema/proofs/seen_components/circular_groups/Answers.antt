use Rattle.std.proofs.Common.{◌∙◌, map, ap}
use Rattle.gx_references.specs.PlainReferences.{numbers_in}
use Rattle.gx_schema_content.specs.GroupContents.{groups_in}
use Rattle.gx_schema.proofs.Lists.{if_ok_along}
use Rattle.gx_schema.proofs.SameCircles.{circular_same}
use Rattle.gx_schema.proofs.seen_components.circular_groups.Goals as goal

pub returns : goal.returns
returns c =
    let same = ap (map numbers_in) c.as_slice.ensures.value ∙ c.in_ok-references.ensures in
    if_ok_along c.circular_among.result
    (λ marks told number. told number ∙ circular_same numbers_in groups_in c.as_slice.result.now c.args.groups.now same number)
    c.circular_among.ensures.exact

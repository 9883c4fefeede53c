use Rattle.std.proofs.Common.{map, ◌∙◌, ap}
use Rattle.gx_references.specs.Known.{known}
use Rattle.gx_schema_content.specs.Views.{fitting_by, group_filled}
use Rattle.gx_schema_content.proofs.Bodies.{fitting_same, more_bodies}
use Rattle.gx_schema_content.proofs.contents.fitting_groups.Goals as goal

pub loop-group-preserved : goal.loop-group-preserved
loop-group-preserved c =
    ap (map group_filled) c.in_ok-push.ensures.items
    ∙ more_bodies group_filled (fitting_by (known 0 c.args.positions.now)) c.loop-group.bodies.items c.args.groups.now c.loop-group.group-index c.group-item.result _ c.loop-group-test.true c.group-item.is
    (fitting_same c.group_fits-fits.result (known 0 c.args.positions.now) c.group-item.result c.group_fits-fits.ensures) c.loop-group.invariant

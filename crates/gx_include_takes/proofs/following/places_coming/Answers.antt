use Rattle.std.proofs.Common.{length, arith}
use Rattle.gx_include_takes.proofs.PlaceSets.{led_more, all_led}
use Rattle.gx_include_takes.proofs.following.places_coming.Goals as goal

pub loop-block-preserved : goal.loop-block-preserved
loop-block-preserved c =
    led_more c.args.rows.now c.args.places.now c.loop-block.after.items c.add_next.new.after.items (length c.args.mask.now) c.loop-block.block
    c.add_next.ensures.room c.add_next.ensures.bits c.loop-block.invariant

pub returns : goal.returns
returns c =
    all_led c.args.rows.now c.args.places.now c.args.mask.now c.loop-block.after.items c.intersect.new.set.items c.loop-block.block (omega (arith, c.loop-block-test.false))
    c.intersect.ensures c.loop-block.invariant

use Rattle.std.proofs.Common.{refl, ◌+◌}
use Rattle.gx_demo.specs.Workload.{item_element}
use Rattle.gx_demo.proofs.Ranges.{behind_with_one_more}
use Rattle.gx_demo.proofs.auction.put_items.Goals as goal

pub loop-before-preserved : goal.loop-before-preserved
loop-before-preserved c =
    behind_with_one_more item_element 1 c.loop-before.before c.args.text.now.bytes.items c.loop-before.text.bytes.items c.put_item.new.text.bytes.items (item_element (1 + c.loop-before.before))
    c.loop-before.invariant c.in_ok-put_item.ensures refl

use Rattle.std.proofs.Common.{arith}
use Rattle.gx_xml.proofs.UntypedLemmas.{item_le-contents_size}
use Rattle.gx_xml.proofs.untyped.+untyped.Goals as goal

pub untyped_contents-untyped_child-requires : goal.untyped_contents-untyped_child-requires
untyped_contents-untyped_child-requires t c =
    let smaller = item_le-contents_size c.args.children.now.items c.loop-child.child-index c.child-item.result
    (rw c.deref-child-items.ensures.value at c.loop-child-test.true) (rw c.deref-child-items.ensures.value at c.child-item.is) in
    (omega (arith, smaller), tt)

use Rattle.std.proofs.Common.{arith}
use Rattle.gx_tree.proofs.TreesLemmas.{item_le-trees_size}
use Rattle.gx_tree.proofs.erase.+erase.Goals as goal

pub erase_all-erase-requires : goal.erase_all-erase-requires
erase_all-erase-requires t c =
    let smaller = item_le-trees_size c.args.trees.now.items c.loop-tree.tree-index c.tree-item.result
    (rw c.deref-tree-items.ensures.value at c.loop-tree-test.true) (rw c.deref-tree-items.ensures.value at c.tree-item.is) in
    (omega (arith, smaller), tt)

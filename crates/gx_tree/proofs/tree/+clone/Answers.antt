use Rattle.std.proofs.Common.{arith}
use Rattle.gx_tree.proofs.TreesLemmas.{item_le-trees_size}
use Rattle.gx_tree.proofs.tree.+clone.Goals as goal

pub clone_all-clone-requires : goal.clone_all-clone-requires
clone_all-clone-requires t c =
    let smaller = item_le-trees_size c.args.trees.now.items c.loop-tree.tree-index c.tree-item.result
    (rw c.deref-tree-items.ensures.value at c.loop-tree-test.true) (rw c.deref-tree-items.ensures.value at c.tree-item.is) in
    (omega (arith, smaller), tt)

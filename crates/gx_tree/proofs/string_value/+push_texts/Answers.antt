use Rattle.std.proofs.Common.{arith}
use Rattle.gx_tree.proofs.TreesLemmas.{item_le-trees_size}
use Rattle.gx_tree.proofs.string_value.+push_texts.Goals as goal

pub push_all-push_texts-requires : goal.push_all-push_texts-requires
push_all-push_texts-requires t c =
    let smaller = item_le-trees_size c.args.trees.now.items c.loop-tree.tree-index c.tree-item.result
    (rw c.deref-tree-items.ensures.value at c.loop-tree-test.true) (rw c.deref-tree-items.ensures.value at c.tree-item.is) in
    (omega (arith, smaller), tt)

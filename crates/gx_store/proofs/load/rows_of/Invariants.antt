use Rattle.gx_nodes.specs.Rows.{tree_rows}
use Rattle.gx_store.specs.Grown.{Grows}
use Rattle.gx_store.specs.Opened.{WillBe, size_left}
use Rattle.gx_store.proofs.load.rows_of.Given as goal

abbrev pub invariant-loop-node : goal.invariant-loop-node
invariant-loop-node l = record {
  grows : Grows l.fn.labels.labels.keys l.labels.labels.keys;
  comes : WillBe l.labels.labels.keys l.rows.items l.opened (tree_rows 0 l.tree);
}

abbrev pub decreases-loop-node : goal.decreases-loop-node
decreases-loop-node l = size_left l.opened

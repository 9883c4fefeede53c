use Rattle.std.proofs.Common.{take}
use Rattle.gx_store.specs.Grown.{Grows}
use Rattle.gx_store.specs.RowView.{Adds, attribute_rows}
use Rattle.gx_store.proofs.load.push_attributes.Given as goal

abbrev pub invariant-loop-position : goal.invariant-loop-position
invariant-loop-position l = record {
  grows : Grows l.fn.labels.labels.keys l.labels.labels.keys;
  added : Adds l.labels.labels.keys l.fn.rows.items l.rows.items (attribute_rows 0 (take l.position l.list.items));
}

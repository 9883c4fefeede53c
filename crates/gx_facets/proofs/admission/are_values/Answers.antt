use Rattle.std.proofs.Common.{sym}
use Rattle.gx_facets.proofs.SameValues.{item_counts_differ}
use Rattle.gx_facets.proofs.admission.are_values.Goals as goal

pub returns-then-entry-items : goal.returns-then-entry-items
returns-then-entry-items c = sym (item_counts_differ c.args.entry.now c.args.items.now c.if-entry-items.true)

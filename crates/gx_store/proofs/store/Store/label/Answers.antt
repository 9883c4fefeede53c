use Rattle.std.proofs.Common.{arith, ◌∙◌}
use Rattle.gx_store.proofs.StoreLemmas.{label_at}
use Rattle.gx_store.proofs.store.Store.label.Goals as goal

pub returns-then-node-len : goal.returns-then-node-len
returns-then-node-len c =
    c.label_in_form.ensures ∙ label_at c.self.inside.labels.labels.keys c.self.inside.rows.items c.args.self.now c.self.invariant c.self.view_is c.args.node.number c.index.result.now (omega (arith, c.if-node-len.true, c.len.ensures)) c.index.ensures

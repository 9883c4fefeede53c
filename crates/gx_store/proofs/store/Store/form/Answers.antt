use Rattle.gx_store.proofs.StoreLemmas.{row_of_node}
use Rattle.gx_store.proofs.store.Store.form.Goals as goal

pub returns : goal.returns
returns c =
    (row_of_node c.self.inside.labels.labels.keys c.self.inside.rows.items c.args.self.now c.self.invariant c.self.view_is c.args.number c.index.result.now c.requires c.index.ensures).form

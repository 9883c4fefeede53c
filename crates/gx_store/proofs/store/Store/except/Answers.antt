use Rattle.std.proofs.Common.{◌≡◌, false, List, map, subst}
use Rattle.std.specs.Prelude.{IfOk}
use Rattle.gx_model.specs.DocumentOrder.{in_document_order}
use Rattle.gx_model.specs.Forest.{PlainNode}
use Rattle.gx_store.proofs.OrderedLemmas.{placed}
use Rattle.gx_store.proofs.CombinedLemmas.{placed_selection}
use Rattle.gx_store.proofs.store.Store.except.Goals as goal

pub returns : goal.returns
returns c later x =
    subst (λ (ns : List PlainNode). IfOk c.compared.result (λ found. map (placed later) found.items ≡ in_document_order c.args.self.now ns)) (placed_selection later false c.args.first.items c.args.second.items) (c.compared.ensures later x)

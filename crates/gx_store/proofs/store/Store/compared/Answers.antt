use Rattle.std.proofs.Common.{map, ap, ◌∙◌}
use Rattle.gx_store.proofs.OrderedLemmas.{placed}
use Rattle.gx_store.proofs.CombinedLemmas.{selection_ordered}
use Rattle.gx_store.proofs.store.Store.compared.Goals as goal

pub returns : goal.returns
returns c later x =
    ap (map (placed later)) c.keep_own.ensures
    ∙ selection_ordered c.args.self.now later c.args.wanted c.args.first.items c.args.second.items c.sorted-left.result.items c.sorted-right.result.items c.as_slice.result.now c.as_slice-2.result.now c.in_ok-found.found.items x
    c.as_slice.ensures.value c.as_slice-2.ensures.value c.sorted-left.ensures.ascending c.sorted-left.ensures.same c.sorted-right.ensures.same c.in_ok-found.ensures

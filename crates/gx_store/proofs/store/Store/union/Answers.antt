use Rattle.std.proofs.Common.{◌++◌, map, ap, ◌∙◌}
use Rattle.gx_model.specs.DocumentOrder.{in_document_order}
use Rattle.gx_model.proofs.ListLemmas.{map_appended}
use Rattle.gx_store.proofs.OrderedLemmas.{placed, ordered_numbers}
use Rattle.gx_store.proofs.CombinedLemmas.{joined_same}
use Rattle.gx_store.proofs.store.Store.union.Goals as goal

pub returns : goal.returns
returns c later x =
    ap (map (placed later)) c.keep_own.ensures
    ∙ ordered_numbers c.args.self.now later (c.args.first.items ++ c.args.second.items) c.in_ok-found.found.items x c.in_ok-found.ensures.ascending
    (λ p. c.in_ok-found.ensures.same p ∙ joined_same c.args.first.items c.args.second.items c.sorted-left.result.items c.sorted-right.result.items c.as_slice.result.now c.as_slice-2.result.now c.as_slice.ensures.value c.as_slice-2.ensures.value
    c.sorted-left.ensures.same c.sorted-right.ensures.same p)
    ∙ ap (in_document_order c.args.self.now) (map_appended (placed later) c.args.first.items c.args.second.items)

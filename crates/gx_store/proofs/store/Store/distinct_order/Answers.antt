use Rattle.std.proofs.Common.{map, ap, ◌∙◌}
use Rattle.gx_store.proofs.OrderedLemmas.{placed, ordered_numbers}
use Rattle.gx_store.proofs.store.Store.distinct_order.Goals as goal

pub returns : goal.returns
returns c later x =
    ap (map (placed later)) c.keep_own.ensures
    ∙ ordered_numbers c.args.self.now later c.args.nodes.items c.sorted-ordered.result.items x c.sorted-ordered.ensures.ascending c.sorted-ordered.ensures.same

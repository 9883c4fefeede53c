use Rattle.std.proofs.Common.{sym, ap, ◌∙◌}
use Rattle.std.specs.List.{list_any}
use Rattle.std.proofs.lemmas.List.Filters.{dedup_is}
use Rattle.std.proofs.lemmas.List.Sorted.{list_any-IsPermutation}
use Rattle.gx_model.specs.DocumentOrder.{same_node, ascends}
use Rattle.gx_model.specs.NodeOrder.{node_eq}
use Rattle.gx_model.proofs.Ordering.{ascends_whole, sorted_without_doubles, in_deduped}
use Rattle.gx_model.proofs.order.sorted.Goals as goal

pub returns-then-ascends-clause-ascending : goal.returns-then-ascends-clause-ascending
returns-then-ascends-clause-ascending c =
    ascends_whole c.args.nodes.items (ap ascends (sym c.as_slice.ensures.value) ∙ sym c.ascends.ensures ∙ c.if-ascends.true)

pub returns-clause-ascending : goal.returns-clause-ascending
returns-clause-ascending c =
    sorted_without_doubles c.sort_unstable.new.self.items c.dedup.new.self.items c.sort_unstable.ensures.sorted
    (dedup_is node_eq c.sort_unstable.new.self.items c.dedup.new.self.items c.dedup.ensures.filtered)

pub returns-clause-same : goal.returns-clause-same
returns-clause-same c = λ n.
    ap (list_any (same_node n)) (dedup_is node_eq c.sort_unstable.new.self.items c.dedup.new.self.items c.dedup.ensures.filtered)
    ∙ in_deduped n c.sort_unstable.new.self.items
    ∙ sym (list_any-IsPermutation (same_node n) c.args.nodes.items c.sort_unstable.new.self.items c.sort_unstable.ensures.permutation)

use Rattle.std.proofs.Common.{sym, ap, ◌∙◌}
use Rattle.std.specs.List.{list_any}
use Rattle.std.proofs.lemmas.List.Filters.{dedup_is}
use Rattle.std.proofs.lemmas.List.Sorted.{list_any-IsPermutation}
use Rattle.gx_store.specs.NumberOrder.{number_eq, numbers_ascend}
use Rattle.gx_store.proofs.OrderedLemmas.{ascends_whole, sorted_without_doubles, in_deduped}
use Rattle.gx_store.proofs.order.sorted.Goals as goal

pub returns-then-ascends-clause-ascending : goal.returns-then-ascends-clause-ascending
returns-then-ascends-clause-ascending c =
    ascends_whole c.args.nodes.items (ap numbers_ascend (sym c.as_slice.ensures.value) ∙ sym c.ascends.ensures ∙ c.if-ascends.true)

pub returns-clause-ascending : goal.returns-clause-ascending
returns-clause-ascending c =
    sorted_without_doubles c.sort_unstable.new.self.items c.dedup.new.self.items c.sort_unstable.ensures.sorted
    (dedup_is number_eq c.sort_unstable.new.self.items c.dedup.new.self.items c.dedup.ensures.filtered)

pub returns-clause-same : goal.returns-clause-same
returns-clause-same c = λ p.
    ap (list_any p) (dedup_is number_eq c.sort_unstable.new.self.items c.dedup.new.self.items c.dedup.ensures.filtered)
    ∙ in_deduped p c.sort_unstable.new.self.items
    ∙ sym (list_any-IsPermutation p c.args.nodes.items c.sort_unstable.new.self.items c.sort_unstable.ensures.permutation)

use Rattle.std.proofs.Common.{ℕ, filter, eqb, sym, ap, ◌∙◌, rules}
use Rattle.std.specs.Prelude.{nat_eq, nat_lt}
use Rattle.std.proofs.lemmas.Fn.{filter_same}
use Rattle.std.proofs.lemmas.List.Filters.{dedup_is}
use Rattle.std.proofs.lemmas.List.Sorted.{list_any-IsPermutation}
use Rattle.gx_include_followers.proofs.NumberSetLemmas.{ordered_ascend, ordered_same}
use Rattle.gx_include_followers.proofs.number_set.ordered.Goals as goal

pub returns-clause-ascending : goal.returns-clause-ascending
returns-clause-ascending c =
    ordered_ascend c.args.count c.sort_unstable.new.self.items c.dedup.new.self.items c.retain.new.self.items c.sort_unstable.ensures.sorted
    (dedup_is eqb c.sort_unstable.new.self.items c.dedup.new.self.items c.dedup.ensures.filtered)
    (filter_same _ (λ (m : ℕ). nat_lt m c.args.count) _ (λ y b f k. search rules) _ _ c.retain.ensures.filtered)

pub returns-clause-same : goal.returns-clause-same
returns-clause-same c n h =
    ordered_same c.args.count n c.sort_unstable.new.self.items c.dedup.new.self.items c.retain.new.self.items
    (dedup_is eqb c.sort_unstable.new.self.items c.dedup.new.self.items c.dedup.ensures.filtered)
    (filter_same _ (λ (m : ℕ). nat_lt m c.args.count) _ (λ y b f k. search rules) _ _ c.retain.ensures.filtered) h
    ∙ sym (list_any-IsPermutation (λ m. nat_eq m n) c.args.numbers.items c.sort_unstable.new.self.items c.sort_unstable.ensures.permutation)

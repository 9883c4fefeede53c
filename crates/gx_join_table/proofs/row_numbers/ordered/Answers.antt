use Rattle.std.proofs.Common.{eqb, sym, ap, ◌∙◌}
use Rattle.std.specs.Prelude.{nat_eq}
use Rattle.std.specs.List.{list_any}
use Rattle.std.proofs.lemmas.List.Filters.{dedup_is}
use Rattle.std.proofs.lemmas.List.Sorted.{list_any-IsPermutation}
use Rattle.gx_join_table.proofs.AscendingLemmas.{ordered_ascends, in_deduped}
use Rattle.gx_join_table.proofs.row_numbers.ordered.Goals as goal

pub returns-clause-ascending : goal.returns-clause-ascending
returns-clause-ascending c =
    ordered_ascends c.sort_unstable.new.self.items c.dedup.new.self.items c.sort_unstable.ensures.sorted
    (dedup_is eqb c.sort_unstable.new.self.items c.dedup.new.self.items c.dedup.ensures.filtered)

pub returns-clause-same : goal.returns-clause-same
returns-clause-same c = λ n.
    ap (list_any (nat_eq n)) (dedup_is eqb c.sort_unstable.new.self.items c.dedup.new.self.items c.dedup.ensures.filtered)
    ∙ in_deduped (nat_eq n) c.sort_unstable.new.self.items
    ∙ sym (list_any-IsPermutation (nat_eq n) c.args.numbers.items c.sort_unstable.new.self.items c.sort_unstable.ensures.permutation)

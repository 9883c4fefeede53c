use Rattle.std.proofs.Common.{rules, ap, ◌∙◌}
use Rattle.gx_sorting.specs.Sorting.{sorted}
use Rattle.gx_sorting.specs.Tuples.{tuple_precedes}
use Rattle.gx_sorting.proofs.Numbers.{sorted_by_keys}
use Rattle.gx_sorting.proofs.tuples.sorted_numbers.Goals as goal

pub returns : goal.returns
returns c =
    sorted_by_keys c.args.orders.now c.args.keys.now _ _ c.in_ok-sort_by.ensures.sorted c.in_ok-sort_by.ensures.stable (λ a r q k. search rules)
    ∙ ap (sorted (tuple_precedes c.args.orders.now c.args.keys.now)) c.in_ok-numbers.ensures

use Rattle.std.proofs.Common.{Some, sym, ap, ◌∙◌}
use Rattle.std.specs.Option.{option_map}
use Rattle.gx_tree.specs.Erasure.{erased}
use Rattle.gx_nodes.specs.Entries.{count_in}
use Rattle.gx_store.proofs.StoreLemmas.{not_there, found_later, not_found_later}
use Rattle.gx_store.proofs.store.Store.to_erased_tree.Goals as goal

pub returns-in_ok-copy : goal.returns-in_ok-copy
returns-in_ok-copy c later x =
    ap (λ t. Some t) c.in_ok-copy.ensures ∙ ap (option_map erased) (sym (found_later c.args.self.now later c.args.node.number (c.has.ensures.0 c.if-has.true) x))

pub returns-else-has : goal.returns-else-has
returns-else-has c later x =
    ap (option_map erased) (sym (not_found_later c.args.self.now later c.args.node.number (not_there c.has.result c.args.node.number (count_in c.args.self.now) c.has.ensures c.if-has.false) x))

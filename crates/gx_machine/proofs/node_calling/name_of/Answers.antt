use Rattle.std.proofs.Common.{◌≡◌}
use Rattle.gx_nodes.specs.Entries.{place_of_number, entry_in}
use Rattle.gx_store.proofs.StoreLemmas.{found_later, not_found_later, not_there}
use Rattle.gx_machine.proofs.ItemAnswers.{name_is, no_name_is}
use Rattle.gx_machine.proofs.node_calling.name_of.Goals as goal

pub returns-then-has-clause-value : goal.returns-then-has-clause-value
returns-then-has-clause-value c = λ later made x.
    let forest = c.args.store.now in
    let n = c.args.node.number in
    name_is made (place_of_number later n) forest (entry_in forest n).tree _ (found_later forest later n (c.has.ensures.0 c.if-has.true) x) (c.name.ensures later x)

pub returns-else-has-clause-failed : goal.returns-else-has-clause-failed
returns-else-has-clause-failed c = λ later made next x.
    let forest = c.args.store.now in
    let n = c.args.node.number in
    no_name_is made (place_of_number later n) forest next (not_found_later forest later n (not_there c.has.result n _ c.has.ensures c.if-has.false) x)

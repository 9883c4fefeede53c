use Rattle.std.proofs.Common.{◌≡◌, ℕ, List, Option, Some, None, ap, sym, subst, arith}
use Rattle.std.specs.Prelude.{IfOk, IfErr, option_copied}
use Rattle.gx_nodes.specs.Entries.{place_of_number}
use Rattle.gx_core.specs.Outcome.{given}
use Rattle.gx_store.specs.Items.{items_in}
use Rattle.gx_machine.specs.Failing.{FailsSo}
use Rattle.gx_machine.specs.ItemAnswers.{text_found}
use Rattle.gx_machine.proofs.ItemAnswers.{name_of_one, no_name_of_others}
use Rattle.gx_machine.proofs.node_calling.name_among.Goals as goal

pub returns-in-Some-clause-value : goal.returns-in-Some-clause-value
returns-in-Some-clause-value c = λ later made x.
    let is = name_of_one made c.args.store.now (items_in later c.args.items.now) (place_of_number later c.in-Some.node.number) (sym (c.in-Some.ensures later)) in
    subst (λ (o : Option (List ℕ)). IfOk c.name_of.result (λ found. o ≡ Some (text_found made (option_copied found)))) (sym is) (c.name_of.ensures.value later made x)

pub returns-in-Some-clause-failed : goal.returns-in-Some-clause-failed
returns-in-Some-clause-failed c = λ later made next x.
    let is = name_of_one made c.args.store.now (items_in later c.args.items.now) (place_of_number later c.in-Some.node.number) (sym (c.in-Some.ensures later)) in
    subst (λ (o : Option (List ℕ)). IfErr c.name_of.result (λ e. FailsSo e (given o next))) (sym is) (c.name_of.ensures.failed later made next x)

pub returns-in-None-clause-failed : goal.returns-in-None-clause-failed
returns-in-None-clause-failed c = λ later made next x.
    ap (λ (o : Option (List ℕ)). given o next) (no_name_of_others made c.args.store.now later c.args.items.now (omega arith) (sym (c.in-None.ensures later)))

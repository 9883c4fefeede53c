use Rattle.std.proofs.Common.{◌≡◌, sym, subst, arith}
use Rattle.std.specs.Prelude.{IfOk, IfErr}
use Rattle.gx_model.specs.Item.{Items}
use Rattle.gx_nodes.specs.Entries.{place_of_number}
use Rattle.gx_core.specs.Outcome.{Outcome, gives}
use Rattle.gx_store.specs.Items.{items_in}
use Rattle.gx_machine.specs.Answering.{answer_items}
use Rattle.gx_machine.specs.Failing.{FailsSo}
use Rattle.gx_machine.proofs.ItemAnswers.{root_of_one, no_root_of_others}
use Rattle.gx_machine.proofs.node_calling.root.Goals as goal

pub returns-in-Some-clause-value : goal.returns-in-Some-clause-value
returns-in-Some-clause-value c = λ later x.
    let is = root_of_one c.args.store.now (items_in later c.args.items.now) (place_of_number later c.in-Some.node.number) (sym (c.in-Some.ensures later)) in
    subst (λ (o : Outcome Items). IfOk c.root_of.result (λ r. o ≡ gives (answer_items later r) c.args.store.now)) (sym is) (c.root_of.ensures.value later x)

pub returns-in-Some-clause-failed : goal.returns-in-Some-clause-failed
returns-in-Some-clause-failed c = λ later x.
    let is = root_of_one c.args.store.now (items_in later c.args.items.now) (place_of_number later c.in-Some.node.number) (sym (c.in-Some.ensures later)) in
    subst (λ (o : Outcome Items). IfErr c.root_of.result (λ e. FailsSo e o)) (sym is) (c.root_of.ensures.failed later x)

pub returns-in-None-clause-failed : goal.returns-in-None-clause-failed
returns-in-None-clause-failed c = λ later x. no_root_of_others c.args.store.now later c.args.items.now (omega arith) (sym (c.in-None.ensures later))

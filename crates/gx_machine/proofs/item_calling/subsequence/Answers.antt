use Rattle.std.proofs.Common.{◌≡◌, Option, Some, None, ap, sym, subst, ◌∙◌}
use Rattle.std.specs.Prelude.{IfOk, IfErr}
use Rattle.gx_num.specs.declared.Number.{Number}
use Rattle.gx_funcs.specs.Positions.{so_many_from}
use Rattle.gx_core.specs.ItemCalling.{number_of_items}
use Rattle.gx_core.specs.Outcome.{gives, given}
use Rattle.gx_store.specs.Items.{items_in}
use Rattle.gx_machine.specs.Answering.{answer_items}
use Rattle.gx_machine.specs.Failing.{FailsSo}
use Rattle.gx_machine.proofs.item_calling.subsequence.Goals as goal

pub returns-in-Some-clause-value : goal.returns-in-Some-clause-value
returns-in-Some-clause-value c = λ forest later.
    let is : number_of_items (items_in later c.args.start.now) ≡ Some c.in-Some.start = sym (c.number_of_items.ensures later) ∙ c.in-Some.is in
    subst (λ (o : Option Number). IfOk c.so_many.result (λ r.
    given o (λ n. given (number_of_items (items_in later c.args.count.now)) (λ m. gives (so_many_from n m (items_in later c.args.items.now)) forest)) ≡ gives (answer_items later r) forest))
    (sym is) (c.so_many.ensures.value forest later)

pub returns-in-Some-clause-failed : goal.returns-in-Some-clause-failed
returns-in-Some-clause-failed c = λ forest later.
    let is : number_of_items (items_in later c.args.start.now) ≡ Some c.in-Some.start = sym (c.number_of_items.ensures later) ∙ c.in-Some.is in
    subst (λ (o : Option Number). IfErr c.so_many.result (λ e.
    FailsSo e (given o (λ n. given (number_of_items (items_in later c.args.count.now)) (λ m. gives (so_many_from n m (items_in later c.args.items.now)) forest)))))
    (sym is) (c.so_many.ensures.failed forest later)

pub returns-in-None-clause-failed : goal.returns-in-None-clause-failed
returns-in-None-clause-failed c = λ forest later.
    ap (λ (o : Option Number). given o (λ n. given (number_of_items (items_in later c.args.count.now)) (λ m. gives (so_many_from n m (items_in later c.args.items.now)) forest))) (sym (c.number_of_items.ensures later) ∙ c.in-None.is)

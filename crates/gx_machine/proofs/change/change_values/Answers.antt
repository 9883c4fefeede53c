use Rattle.std.proofs.Common.{◌++◌, ℤ, take, drop, rules, ap, sym, ◌∙◌}
use Rattle.std.specs.Prelude.{FitsSigned}
use Rattle.std.specs.Int.{w128}
use Rattle.std.proofs.lemmas.Int.{to_z-of_z}
use Rattle.gx_model.specs.Item.{Items}
use Rattle.gx_core.specs.Filtering.{nth_of}
use Rattle.gx_core.specs.Outcome.{gives}
use Rattle.gx_store.specs.Items.{items_in}
use Rattle.gx_machine.specs.Resume.{context_with}
use Rattle.gx_machine.proofs.change.change_values.Goals as goal

pub returns-in-Data-clause-value : goal.returns-in-Data-clause-value
returns-in-Data-clause-value c = rw c.in-Data.is c.atomize.ensures.value

pub returns-in-Data-clause-failed : goal.returns-in-Data-clause-failed
returns-in-Data-clause-failed c = rw c.in-Data.is c.atomize.ensures.failed

pub returns-in-OnlyNodes-clause-value : goal.returns-in-OnlyNodes-clause-value
returns-in-OnlyNodes-clause-value c = λ calls later x. rw c.in-OnlyNodes.is (c.check_nodes.ensures.value (context_with c.args.schemas.now calls) c.args.store.now later)

pub returns-in-OnlyNodes-clause-failed : goal.returns-in-OnlyNodes-clause-failed
returns-in-OnlyNodes-clause-failed c = λ calls later x. rw c.in-OnlyNodes.is (c.check_nodes.ensures.failed (context_with c.args.schemas.now calls) c.args.store.now later)

pub returns-in-Order-clause-value : goal.returns-in-Order-clause-value
returns-in-Order-clause-value c = λ calls. rw c.in-Order.is (c.order.ensures.value (context_with c.args.schemas.now calls))

pub returns-in-Order-clause-failed : goal.returns-in-Order-clause-failed
returns-in-Order-clause-failed c = λ calls. rw c.in-Order.is (c.order.ensures.failed (context_with c.args.schemas.now calls))

pub returns-in_ok-keep_nth-in-Nth-clause-value : goal.returns-in_ok-keep_nth-in-Nth-clause-value
returns-in_ok-keep_nth-in-Nth-clause-value c = λ calls later x.
    let values : Items = items_in later c.args.values.now.items in
    let fits : FitsSigned w128 c.in-Nth.number = search rules in
    rw c.in-Nth.is
    (sym (ap (λ (v : Items). gives v c.args.store.now)
    (c.in_ok-keep_nth-in-Nth.ensures later
    ∙ ap (λ (number : ℤ). take c.args.first values ++ nth_of number c.in-Nth.reverse (drop c.args.first values)) (to_z-of_z w128 c.in-Nth.number fits))))

pub returns-in_ok-keep_last-in-Final-clause-value : goal.returns-in_ok-keep_last-in-Final-clause-value
returns-in_ok-keep_last-in-Final-clause-value c = λ calls later x. rw c.in-Final.is (ap (λ (v : Items). gives v c.args.store.now) (sym (c.in_ok-keep_last-in-Final.ensures later)))

pub returns-in-Treat-clause-value : goal.returns-in-Treat-clause-value
returns-in-Treat-clause-value c = rw c.in-Treat.is c.treat.ensures.value

pub returns-in-Treat-clause-failed : goal.returns-in-Treat-clause-failed
returns-in-Treat-clause-failed c = rw c.in-Treat.is c.treat.ensures.failed

use Rattle.std.proofs.lemmas.Result.{err_from_is_err_and}
use Rattle.gx_machine.proofs.answer.of_two.Goals as goal

pub returns-in-Arithmetic-clause-value : goal.returns-in-Arithmetic-clause-value
returns-in-Arithmetic-clause-value c = λ later x. rw c.in-Arithmetic.is (c.on_two.ensures.value c.args.store.now later)

pub returns-in-Arithmetic-clause-failed : goal.returns-in-Arithmetic-clause-failed
returns-in-Arithmetic-clause-failed c = λ later x. rw c.in-Arithmetic.is (c.on_two.ensures.failed c.args.store.now later)

pub returns-in-Value-clause-value : goal.returns-in-Value-clause-value
returns-in-Value-clause-value c = λ later x. rw c.in-Value.is (c.on_two-in-Value.ensures.value c.args.store.now later)

pub returns-in-Value-clause-failed : goal.returns-in-Value-clause-failed
returns-in-Value-clause-failed c = λ later x. rw c.in-Value.is (c.on_two-in-Value.ensures.failed c.args.store.now later)

pub returns-in-Range-clause-value : goal.returns-in-Range-clause-value
returns-in-Range-clause-value c = λ later x. rw c.in-Range.is (c.on_two-in-Range.ensures.value c.args.store.now later)

pub returns-in-Range-clause-failed : goal.returns-in-Range-clause-failed
returns-in-Range-clause-failed c = λ later x. rw c.in-Range.is (c.on_two-in-Range.ensures.failed c.args.store.now later)

pub returns-in_ok-generally_compared-in-General-clause-value : goal.returns-in_ok-generally_compared-in-General-clause-value
returns-in_ok-generally_compared-in-General-clause-value c = λ later x. rw c.in-General.is (c.in_ok-generally_compared-in-General.ensures.value c.args.store.now later)

pub returns-in_err-generally_compared-in-General-clause-failed : goal.returns-in_err-generally_compared-in-General-clause-failed
returns-in_err-generally_compared-in-General-clause-failed c = λ later x.
    let p = err_from_is_err_and c.from_residual.result c.from_residual.ensures.1 in
    rw (p.1, p.2, c.in-General.is) (c.in_err-generally_compared-in-General.ensures.failed c.args.store.now later)

pub returns-in-Nodes-clause-value : goal.returns-in-Nodes-clause-value
returns-in-Nodes-clause-value c = λ later x. rw c.in-Nodes.is (c.on_two-in-Nodes.ensures.value c.args.store.now later)

pub returns-in-Nodes-clause-failed : goal.returns-in-Nodes-clause-failed
returns-in-Nodes-clause-failed c = λ later x. rw c.in-Nodes.is (c.on_two-in-Nodes.ensures.failed c.args.store.now later)

pub returns-in-Combination-clause-value : goal.returns-in-Combination-clause-value
returns-in-Combination-clause-value c = λ later x. rw c.in-Combination.is (c.combined.ensures.value later x)

pub returns-in-Combination-clause-failed : goal.returns-in-Combination-clause-failed
returns-in-Combination-clause-failed c = λ later x. rw c.in-Combination.is (c.combined.ensures.failed later x)

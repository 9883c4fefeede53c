use Rattle.gx_machine.proofs.single.of_one.Goals as goal

pub returns-in-Neg-clause-value : goal.returns-in-Neg-clause-value
returns-in-Neg-clause-value c = λ calls later x. rw c.in-Neg.is (c.negation.ensures.value c.args.store.now later)

pub returns-in-Neg-clause-failed : goal.returns-in-Neg-clause-failed
returns-in-Neg-clause-failed c = λ calls later x. rw c.in-Neg.is (c.negation.ensures.failed c.args.store.now later)

pub returns-in-Cast-clause-value : goal.returns-in-Cast-clause-value
returns-in-Cast-clause-value c = λ calls later x. rw c.in-Cast.is (c.cast.ensures.value c.args.store.now later)

pub returns-in-Cast-clause-failed : goal.returns-in-Cast-clause-failed
returns-in-Cast-clause-failed c = λ calls later x. rw c.in-Cast.is (c.cast.ensures.failed c.args.store.now later)

pub returns-in-Castable-clause-value : goal.returns-in-Castable-clause-value
returns-in-Castable-clause-value c = λ calls later x. rw c.in-Castable.is (c.castable.ensures.value c.args.store.now later)

pub returns-in-Castable-clause-failed : goal.returns-in-Castable-clause-failed
returns-in-Castable-clause-failed c = λ calls later x. rw c.in-Castable.is (c.castable.ensures.failed c.args.store.now later)

pub returns-in-Call-clause-value : goal.returns-in-Call-clause-value
returns-in-Call-clause-value c = λ calls later x. rw c.in-Call.is (c.called_with_one.ensures.value later x)

pub returns-in-Call-clause-failed : goal.returns-in-Call-clause-failed
returns-in-Call-clause-failed c = λ calls later x. rw c.in-Call.is (c.called_with_one.ensures.failed later x)

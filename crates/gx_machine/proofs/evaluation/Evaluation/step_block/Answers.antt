use Rattle.gx_machine.proofs.evaluation.Evaluation.step_block.Goals as goal

pub returns-in_ok-walk-in-Walk-clause-value : goal.returns-in_ok-walk-in-Walk-clause-value
returns-in_ok-walk-in-Walk-clause-value c = λ k forest later. rw c.in-Walk.is (c.in_ok-walk-in-Walk.ensures k forest later)

pub returns-in_ok-gather_tuples-in-Gather-clause-value : goal.returns-in_ok-gather_tuples-in-Gather-clause-value
returns-in_ok-gather_tuples-in-Gather-clause-value c = λ k forest later. rw c.in-Gather.is (c.in_ok-gather_tuples-in-Gather.ensures k forest later)

pub returns-in_ok-next_tuples-in-Each-clause-value : goal.returns-in_ok-next_tuples-in-Each-clause-value
returns-in_ok-next_tuples-in-Each-clause-value c = λ k forest later. rw c.in-Each.is (c.in_ok-next_tuples-in-Each.ensures k forest later)

pub returns-in_ok-assign-in-Assign-clause-value : goal.returns-in_ok-assign-in-Assign-clause-value
returns-in_ok-assign-in-Assign-clause-value c = λ k forest later. rw c.in-Assign.is (c.in_ok-assign-in-Assign.ensures k forest later)

pub returns-in-Test-clause-value : goal.returns-in-Test-clause-value
returns-in-Test-clause-value c = λ k forest later. rw c.in-Test.is (c.test.ensures.value k forest later)

pub returns-in-Test-clause-failed : goal.returns-in-Test-clause-failed
returns-in-Test-clause-failed c = λ k forest later. rw c.in-Test.is (c.test.ensures.failed k forest later)

pub returns-in_ok-open_keys-in-Keys-clause-value : goal.returns-in_ok-open_keys-in-Keys-clause-value
returns-in_ok-open_keys-in-Keys-clause-value c = λ k forest later. rw c.in-Keys.is (c.in_ok-open_keys-in-Keys.ensures k forest later)

pub returns-in-TakeKey-clause-value : goal.returns-in-TakeKey-clause-value
returns-in-TakeKey-clause-value c = λ k forest later. rw c.in-TakeKey.is (c.take_key.ensures.value k forest later c.args.rest)

pub returns-in-TakeKey-clause-failed : goal.returns-in-TakeKey-clause-failed
returns-in-TakeKey-clause-failed c = λ k forest later. rw c.in-TakeKey.is (c.take_key.ensures.failed k forest later c.args.rest)

pub returns-in_ok-sort-in-Sort-clause-value : goal.returns-in_ok-sort-in-Sort-clause-value
returns-in_ok-sort-in-Sort-clause-value c = λ k forest later. rw c.in-Sort.is (c.in_ok-sort-in-Sort.ensures k forest later)

pub returns-in-Return-clause-value : goal.returns-in-Return-clause-value
returns-in-Return-clause-value c = λ k forest later. rw c.in-Return.is (c.return_next.ensures.value k forest later)

pub returns-in-Return-clause-failed : goal.returns-in-Return-clause-failed
returns-in-Return-clause-failed c = λ k forest later. rw c.in-Return.is (c.return_next.ensures.failed k forest later)

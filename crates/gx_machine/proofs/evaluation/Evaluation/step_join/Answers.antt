use Rattle.gx_machine.proofs.evaluation.Evaluation.step_join.Goals as goal

pub returns-in_ok-put_left-in-Left-clause-value : goal.returns-in_ok-put_left-in-Left-clause-value
returns-in_ok-put_left-in-Left-clause-value g c = λ k forest later. rw c.in-Left.is (c.in_ok-put_left-in-Left.ensures k forest later)

pub returns-in_ok-put_right-in-Right-clause-value : goal.returns-in_ok-put_right-in-Right-clause-value
returns-in_ok-put_right-in-Right-clause-value g c = λ k forest later. rw c.in-Right.is (c.in_ok-put_right-in-Right.ensures k forest later)

pub returns-in_ok-build-in-Build-clause-value : goal.returns-in_ok-build-in-Build-clause-value
returns-in_ok-build-in-Build-clause-value g c = λ k forest later. rw c.in-Build.is (c.in_ok-build-in-Build.ensures k forest later)

pub returns-in-Keep-clause-value : goal.returns-in-Keep-clause-value
returns-in-Keep-clause-value g c = λ k forest later. rw c.in-Keep.is (c.keep.ensures.value k forest later)

pub returns-in-Keep-clause-failed : goal.returns-in-Keep-clause-failed
returns-in-Keep-clause-failed g c = λ k forest later. rw c.in-Keep.is (c.keep.ensures.failed k forest later)

pub returns-in_ok-probe-in-Probe-clause-value : goal.returns-in_ok-probe-in-Probe-clause-value
returns-in_ok-probe-in-Probe-clause-value g c = λ k forest later. rw c.in-Probe.is (c.in_ok-probe-in-Probe.ensures k forest later)

pub returns-in-Find-clause-value : goal.returns-in-Find-clause-value
returns-in-Find-clause-value g c = λ k forest later. rw c.in-Find.is (c.find.ensures.value k forest later)

pub returns-in-Find-clause-failed : goal.returns-in-Find-clause-failed
returns-in-Find-clause-failed g c = λ k forest later. rw c.in-Find.is (c.find.ensures.failed k forest later)

pub returns-in-Pairs-clause-value : goal.returns-in-Pairs-clause-value
returns-in-Pairs-clause-value g c = λ k forest later. rw c.in-Pairs.is (c.pair.ensures.value k forest later)

pub returns-in-Pairs-clause-failed : goal.returns-in-Pairs-clause-failed
returns-in-Pairs-clause-failed g c = λ k forest later. rw c.in-Pairs.is (c.pair.ensures.failed k forest later)

use Rattle.gx_machine.proofs.evaluation.Evaluation.repeat.Goals as goal

pub returns-in-For : goal.returns-in-For
returns-in-For c = λ k forest later. rw (c.in-For.is) (c.turn.ensures k forest later)

pub returns-in-Search : goal.returns-in-Search
returns-in-Search c = λ k forest later. rw (c.in-Search.is) (c.search.ensures k forest later)

use Rattle.gx_processor.proofs.run.run.Goals as goal

pub returns-in-Ok-clause-runs : goal.returns-in-Ok-clause-runs
returns-in-Ok-clause-runs g c = c.in-Ok.ensures.runs c.value_text.result c.value_text.ensures.answers c.value_text.ensures.own

pub returns-clause-runs : goal.returns-clause-runs
returns-clause-runs g c = c.in-Err.ensures.runs

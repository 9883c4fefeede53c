use Rattle.gx_processor.proofs.processor.workload_reply.Goals as goal

pub returns-in-Ok-Ok : goal.returns-in-Ok-Ok
returns-in-Ok-Ok c = c.workload_run.ensures c.args.items c.in-Ok-Ok.ensures c.in-Ok-Ok.ensures'.ok

use Rattle.gx_io.specs.LibraryUse.{library_use}
use Rattle.gx_processor.specs.CommandView.{plain_command}
use Rattle.gx_processor.proofs.Replying.{refusal_formed}
use Rattle.gx_processor.proofs.StepLoads.{refusal_loads}
use Rattle.gx_processor.proofs.processor.query_reply.Goals as goal

pub returns-in-Err-clause-loads : goal.returns-in-Err-clause-loads
returns-in-Err-clause-loads g c =
    refusal_loads c.imports_are_one.ensures (library_use g.L.Library.files g.L.Library.faults g.L.Library.was_loaded c.args.library.now c.output.new.library) (plain_command c.args.command) c.in-Err.refusal c.refused.result
    (rw c.file.ensures at c.refused.ensures) c.in-Err.ensures.loads

pub returns-in-Err-clause-cause : goal.returns-in-Err-clause-cause
returns-in-Err-clause-cause g c = refusal_formed (plain_command c.args.command) c.in-Err.refusal c.refused.result (rw c.file.ensures at c.refused.ensures) c.in-Err.ensures.cause

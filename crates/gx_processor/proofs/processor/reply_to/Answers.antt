use Rattle.std.proofs.Common.{map, string_bytes, refl, sym}
use Rattle.gx_io.specs.LibraryUse.{library_use}
use Rattle.gx_processor.specs.Command.{command_of}
use Rattle.gx_processor.proofs.StepLoads.{comparison_loads, workload_loads}
use Rattle.gx_processor.proofs.Replying.{no_command, texts_misused, workload_names_no_query, workload_misused}
use Rattle.gx_processor.proofs.processor.reply_to.Goals as goal

pub returns-in-Some-clause-usage : goal.returns-in-Some-clause-usage
returns-in-Some-clause-usage g c = λ line misuse. texts_misused (map string_bytes c.args.words.now) _ _ line c.comparison.result (sym c.in-Some.ensures.texts) c.comparison.ensures misuse

pub returns-in-Some-clause-loads : goal.returns-in-Some-clause-loads
returns-in-Some-clause-loads g c =
    comparison_loads (library_use g.L.Library.files g.L.Library.faults g.L.Library.was_loaded c.args.library.now c.args.library.now) (command_of (map string_bytes c.args.words.now)) _ _ c.comparison.result refl
    (no_command (map string_bytes c.args.words.now) _ (sym c.in-Some.ensures.texts)) c.comparison.ensures

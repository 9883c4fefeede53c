use Rattle.gx_core.specs.QueryMeaning.{plain_query}
use Rattle.gx_io.specs.LibraryUse.{library_use}
use Rattle.gx_processor.specs.CommandView.{plain_command}
use Rattle.gx_processor.proofs.CommandLoads.{query_refusal_loads, query_cause}
use Rattle.gx_processor.proofs.QueryLemmas.{typed_output, typed_refused, query_refused}
use Rattle.gx_processor.proofs.TypedOutput.{typed_loads, typed_answers_so, typed_cause}
use Rattle.gx_processor.proofs.output.output.Goals as goal

pub returns-in-Ok-clause-loads : goal.returns-in-Ok-clause-loads
returns-in-Ok-clause-loads g c =
    let library = library_use g.L.Library.files g.L.Library.faults g.L.Library.was_loaded c.args.library.now c.typed_output.new.library in
    let command = plain_command c.args.command in
    typed_loads c.imports_are_one.ensures library c.typed_query.new.library command c.in-Ok.query c.typed_output.result c.typed_query.ensures.told c.typed_query.ensures.counted (rw c.file.ensures at c.in-Ok.ensures.query) c.in-Ok.ensures.typed
    c.typed_output.ensures.typed

pub returns-in-Ok-clause-output : goal.returns-in-Ok-clause-output
returns-in-Ok-clause-output g c =
    let library = library_use g.L.Library.files g.L.Library.faults g.L.Library.was_loaded c.args.library.now c.typed_output.new.library in
    let command = plain_command c.args.command in
    typed_output (g.L.Library.files c.args.library.now) command c.in-Ok.query.schemas (plain_query c.in-Ok.query.core) c.in-Ok.query.core c.typed_output.result (rw c.file.ensures at c.in-Ok.ensures.query).held c.in-Ok.ensures.typed
    (typed_answers_so library c.typed_query.new.library command c.in-Ok.query.schemas c.in-Ok.query.core c.typed_output.result c.typed_query.ensures.told c.typed_output.ensures.typed)

pub returns-in-Ok-clause-refused : goal.returns-in-Ok-clause-refused
returns-in-Ok-clause-refused g c =
    let library = library_use g.L.Library.files g.L.Library.faults g.L.Library.was_loaded c.args.library.now c.typed_output.new.library in
    let command = plain_command c.args.command in
    typed_refused (g.L.Library.files c.args.library.now) command c.in-Ok.query.schemas (plain_query c.in-Ok.query.core) c.in-Ok.query.core c.typed_output.result (rw c.file.ensures at c.in-Ok.ensures.query).held c.in-Ok.ensures.typed
    (typed_answers_so library c.typed_query.new.library command c.in-Ok.query.schemas c.in-Ok.query.core c.typed_output.result c.typed_query.ensures.told c.typed_output.ensures.typed)

pub returns-in-Ok-clause-cause : goal.returns-in-Ok-clause-cause
returns-in-Ok-clause-cause g c =
    let library = library_use g.L.Library.files g.L.Library.faults g.L.Library.was_loaded c.args.library.now c.typed_output.new.library in
    typed_cause library c.typed_query.new.library (plain_command c.args.command) c.in-Ok.query.schemas c.in-Ok.query.core c.typed_output.result c.typed_output.ensures.typed

pub returns-in-Err-clause-loads : goal.returns-in-Err-clause-loads
returns-in-Err-clause-loads g c =
    let library = library_use g.L.Library.files g.L.Library.faults g.L.Library.was_loaded c.args.library.now c.typed_query.new.library in
    query_refusal_loads c.imports_are_one.ensures library (plain_command c.args.command) c.in-Err.refusal (rw c.file.ensures at c.in-Err.ensures.query)

pub returns-in-Err-clause-refused : goal.returns-in-Err-clause-refused
returns-in-Err-clause-refused g c = query_refused (g.L.Library.files c.args.library.now) (plain_command c.args.command) c.in-Err.refusal (rw c.file.ensures at c.in-Err.ensures.query).refused

pub returns-in-Err-clause-cause : goal.returns-in-Err-clause-cause
returns-in-Err-clause-cause g c = query_cause _ c.in-Err.refusal (rw c.file.ensures at c.in-Err.ensures.query).own

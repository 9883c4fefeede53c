use Rattle.gx_io.specs.LibraryUse.{library_use}
use Rattle.gx_processor.proofs.QuerySteps.{query_of_tree, query_unread}
use Rattle.gx_processor.proofs.query.typed_query.Goals as goal

pub returns-in-Ok-clause-query : goal.returns-in-Ok-clause-query
returns-in-Ok-clause-query g c =
    let library = library_use g.L.Library.files g.L.Library.faults g.L.Library.was_loaded c.args.library.now c.query_of.new.library in
    query_of_tree library c.tree_in.new.library c.args.file.now c.in-Ok.tree c.tree_in.ensures.loads c.tree_in.ensures.told c.tree_in.ensures.counted c.in-Ok.ensures.tree c.query_of.result c.query_of.ensures.query

pub returns-in-Err-clause-query : goal.returns-in-Err-clause-query
returns-in-Err-clause-query g c =
    let library = library_use g.L.Library.files g.L.Library.faults g.L.Library.was_loaded c.args.library.now c.tree_in.new.library in
    query_unread library c.args.file.now c.in-Err.refusal c.tree_in.ensures.loads c.in-Err.ensures.refused c.in-Err.ensures.none c.in-Err.ensures.cause

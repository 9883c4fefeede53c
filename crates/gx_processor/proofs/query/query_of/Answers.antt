use Rattle.gx_io.specs.LibraryUse.{library_use}
use Rattle.gx_processor.proofs.QuerySteps.{tree_under, tree_unimported}
use Rattle.gx_processor.proofs.query.query_of.Goals as goal

pub returns-in-Ok-clause-query : goal.returns-in-Ok-clause-query
returns-in-Ok-clause-query g c =
    let library = library_use g.L.Library.files g.L.Library.faults g.L.Library.was_loaded c.args.library.now c.imported_schemas.new.library in
    tree_under library c.args.tree c.in-Ok.schemas c.query_under.result c.in-Ok.ensures.imports c.query_under.ensures.schemas c.query_under.ensures.named c.query_under.ensures.refused c.query_under.ensures.cause

pub returns-in-Err-clause-query : goal.returns-in-Err-clause-query
returns-in-Err-clause-query g c =
    let library = library_use g.L.Library.files g.L.Library.faults g.L.Library.was_loaded c.args.library.now c.imported_schemas.new.library in
    tree_unimported library c.args.tree c.in-Err.refusal c.in-Err.ensures.imports

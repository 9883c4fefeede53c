use Rattle.std.proofs.Common.{Ok, Err, List, [], subst}
use Rattle.std.specs.Prelude.{MatchResult}
use Rattle.gx_tree.specs.PlainTree.{PlainTree}
use Rattle.gx_io.specs.LibraryUse.{library_use}
use Rattle.gx_documents.specs.Documents.{IsGlobal, Request, tree_request, tree_requests}
use Rattle.gx_documents.specs.Reading.{ReadsFrom}
use Rattle.gx_documents.specs.Requests.{asked_by, all_asked}
use Rattle.gx_documents.proofs.ReadLemmas.{each_of_made, files_read, map_twice, of_either}
use Rattle.gx_documents.proofs.documents.read_documents.Goals as goal

pub returns-clause-reads : goal.returns-clause-reads
returns-clause-reads g c =
    files_read (library_use g.L.Library.files g.L.Library.faults g.L.Library.was_loaded c.args.library.now c.read_all.new.library) (tree_requests c.args.schemas.now (all_asked c.args.requests.now)) c.read_all.result
    (of_either c.read_all.result (λ result. ReadsFrom (g.L.Library.files c.args.library.now) g.L.Library.was_loaded g.L.Library.faults (tree_requests c.args.schemas.now (all_asked c.args.requests.now)) [] result c.args.library.now c.read_all.new.library)
    (subst (λ (requests : List (Request PlainTree)). MatchResult c.read_all.result
    (λ forest. ReadsFrom (g.L.Library.files c.args.library.now) g.L.Library.was_loaded g.L.Library.faults requests [] (Ok forest) c.args.library.now c.read_all.new.library)
    (λ error. ReadsFrom (g.L.Library.files c.args.library.now) g.L.Library.was_loaded g.L.Library.faults requests [] (Err error) c.args.library.now c.read_all.new.library))
    (map_twice (tree_request c.args.schemas.now) asked_by c.args.requests.now) c.read_all.ensures.reads))

-- each name is that of a global element
pub read_all-requires : goal.read_all-requires
read_all-requires g c = each_of_made (IsGlobal c.args.schemas.now) asked_by c.args.requests.now c.requires

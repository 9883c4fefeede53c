use Rattle.std.proofs.Common.{Ok, Err, List, [], map, string_bytes, subst}
use Rattle.gx_io.specs.LibraryUse.{library_use}
use Rattle.gx_documents.specs.BindingView.{word_bytes}
use Rattle.gx_documents.specs.Documents.{Request, source_request}
use Rattle.gx_documents.specs.Reading.{ReadsFrom}
use Rattle.gx_documents.proofs.ReadLemmas.{each_always, files_read, either_outcome, map_twice}
use Rattle.gx_documents.proofs.documents.read_sources.Goals as goal

pub returns-clause-reads : goal.returns-clause-reads
returns-clause-reads g c =
    either_outcome c.read_all.result _ _ _ _
    (λ all h. files_read (library_use g.L.Library.files g.L.Library.faults g.L.Library.was_loaded c.args.library.now c.read_all.new.library) (map source_request (word_bytes c.args.files.now)) (Ok all.items)
    (subst (λ (requests : List (Request _)). ReadsFrom (g.L.Library.files c.args.library.now) g.L.Library.was_loaded g.L.Library.faults requests [] (Ok all.items) c.args.library.now c.read_all.new.library)
    (map_twice source_request string_bytes c.args.files.now) h))
    (λ error h. files_read (library_use g.L.Library.files g.L.Library.faults g.L.Library.was_loaded c.args.library.now c.read_all.new.library) (map source_request (word_bytes c.args.files.now)) (Err error)
    (subst (λ (requests : List (Request _)). ReadsFrom (g.L.Library.files c.args.library.now) g.L.Library.was_loaded g.L.Library.faults requests [] (Err error) c.args.library.now c.read_all.new.library)
    (map_twice source_request string_bytes c.args.files.now) h))
    c.read_all.ensures.reads

-- each file can be asked for
pub read_all-requires : goal.read_all-requires
read_all-requires g c = each_always _ c.args.files.now (λ file. tt)

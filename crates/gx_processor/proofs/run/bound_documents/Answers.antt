use Rattle.std.proofs.Common.{refl, ap, length, ◌∙◌}
use Rattle.gx_core.specs.QueryMeaning.{plain_query}
use Rattle.gx_documents.specs.BindingView.{word_bytes}
use Rattle.gx_io.specs.LibraryUse.{library_use}
use Rattle.gx_processor.specs.Command.{bytes_of}
use Rattle.gx_processor.specs.Externals.{external_words}
use Rattle.gx_processor.proofs.AskedDocuments.{length_bound}
use Rattle.gx_processor.proofs.RunLemmas.{misbound_so}
use Rattle.gx_processor.proofs.run.bound_documents.Goals as goal

pub documents_in-requires-clause-each : goal.documents_in-requires-clause-each
documents_in-requires-clause-each g c = ap length (ap word_bytes c.as_slice.ensures.value ∙ c.in-Ok.ensures.1) ∙ length_bound (external_words (plain_query c.args.core.now).declarations) (bytes_of c.args.words.now)

pub returns-in-Ok-clause-runs : goal.returns-in-Ok-clause-runs
returns-in-Ok-clause-runs g c =
    c.documents_in.ensures.runs (bytes_of c.args.words.now) (record { bound = c.in-Ok.ensures.0; named = ap word_bytes c.as_slice.ensures.value ∙ c.in-Ok.ensures.1 })

pub returns-in-Err-clause-runs : goal.returns-in-Err-clause-runs
returns-in-Err-clause-runs g c =
    misbound_so (library_use g.L.Library.files g.L.Library.faults g.L.Library.was_loaded c.args.library.now c.args.library.now) (bytes_of c.args.words.now) c.args.schemas.now c.args.core.now c.in-Err.refusal refl c.requires.writable c.in-Err.ensures

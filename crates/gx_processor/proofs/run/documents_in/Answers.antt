use Rattle.std.proofs.Common.{refl, ap, map, ◌∙◌}
use Rattle.std.specs.Global.{Global}
use Rattle.gx_core.specs.QueryMeaning.{plain_declaration}
use Rattle.gx_documents.specs.BindingView.{word_bytes}
use Rattle.gx_documents.specs.Requests.{all_asked}
use Rattle.gx_io.specs.LibraryUse.{library_use}
use Rattle.gx_processor.specs.Externals.{documents_asked}
use Rattle.gx_processor.proofs.RunLemmas.{run_over_documents, run_starved}
use Rattle.gx_processor.proofs.run.documents_in.Goals as goal

pub documents_asked-requires-clause-each : goal.documents_asked-requires-clause-each
documents_asked-requires-clause-each g c = record {
  names = word_bytes c.args.files.now;
  each = c.requires.each;
  same = ap all_asked c.as_slice.ensures.value ∙ c.in-Ok.ensures ∙ ap (λ ds. documents_asked (map plain_declaration ds) (word_bytes c.args.files.now)) c.as_slice-declarations.ensures;
}

pub returns-in-Ok-clause-runs : goal.returns-in-Ok-clause-runs
returns-in-Ok-clause-runs g c = λ bindings b.
    run_over_documents (library_use g.L.Library.files g.L.Library.faults g.L.Library.was_loaded c.args.library.now c.documents_asked.new.library) bindings c.args.schemas.now c.args.core.now Global
    (all_asked c.as_slice.result.now) (word_bytes c.args.files.now) c.documents_asked.result c.requires.writable b
    (ap all_asked c.as_slice.ensures.value ∙ c.in-Ok.ensures ∙ ap (λ ds. documents_asked (map plain_declaration ds) (word_bytes c.args.files.now)) c.as_slice-declarations.ensures) c.documents_asked.ensures.read

pub returns-in-Err-clause-runs : goal.returns-in-Err-clause-runs
returns-in-Err-clause-runs g c = λ bindings b.
    run_starved (library_use g.L.Library.files g.L.Library.faults g.L.Library.was_loaded c.args.library.now c.args.library.now) bindings c.args.schemas.now c.args.core.now refl

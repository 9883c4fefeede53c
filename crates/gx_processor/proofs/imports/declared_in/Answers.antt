use Rattle.std.proofs.Common.{List, length, string_bytes, ap, ◌∙◌}
use Rattle.std.proofs.lemmas.List.{length-map}
use Rattle.gx_xml.specs.declared.source.Source.{Source}
use Rattle.gx_io.specs.LibraryUse.{library_use}
use Rattle.gx_documents.specs.BindingView.{word_bytes}
use Rattle.gx_processor.proofs.ImportLemmas.{declared_so, sources_count}
use Rattle.gx_processor.proofs.imports.declared_in.Goals as goal

pub returns-in-Ok-clause-imports : goal.returns-in-Ok-clause-imports
returns-in-Ok-clause-imports g c =
    declared_so (library_use g.L.Library.files g.L.Library.faults g.L.Library.was_loaded c.args.library.now c.read_sources.new.library) (word_bytes c.args.files.now)
    c.in-Ok.sources.items c.as_slice.result.now c.declared.result c.as_slice.ensures.value c.in-Ok.ensures.reads c.declared.ensures.declared

pub declared-requires : goal.declared-requires
declared-requires g c =
    ap (λ (sources : List Source). length sources) c.as_slice.ensures.value
    ∙ sources_count (library_use g.L.Library.files g.L.Library.faults g.L.Library.was_loaded c.args.library.now c.read_sources.new.library) (word_bytes c.args.files.now) c.in-Ok.sources.items c.in-Ok.ensures.reads
    ∙ length-map c.args.files.now string_bytes

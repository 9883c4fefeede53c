use Rattle.std.proofs.Common.{refl, ap, ◌∙◌}
use Rattle.gx_io.specs.LibraryUse.{library_use}
use Rattle.gx_documents.specs.BindingView.{word_bytes}
use Rattle.gx_processor.proofs.ImportLemmas.{imports_so, starved_imports}
use Rattle.gx_processor.proofs.imports.imported_schemas.Goals as goal

pub returns-in-Ok-clause-imports : goal.returns-in-Ok-clause-imports
returns-in-Ok-clause-imports g c =
    imports_so c.args.tree.now (library_use g.L.Library.files g.L.Library.faults g.L.Library.was_loaded c.args.library.now c.declared_in.new.library) (word_bytes c.as_slice.result.now) c.declared_in.result
    (ap word_bytes c.as_slice.ensures.value ∙ c.in-Ok.ensures) c.declared_in.ensures.imports

pub returns-in-Err-clause-imports : goal.returns-in-Err-clause-imports
returns-in-Err-clause-imports g c = starved_imports c.args.tree.now (library_use g.L.Library.files g.L.Library.faults g.L.Library.was_loaded c.args.library.now c.args.library.now) refl

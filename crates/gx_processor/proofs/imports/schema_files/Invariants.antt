use Rattle.std.proofs.Common.{◌≡◌, ◌++◌, length}
use Rattle.gx_documents.specs.BindingView.{word_bytes}
use Rattle.gx_processor.specs.SchemaFiles.{files_of_settings, schema_files}
use Rattle.gx_processor.proofs.imports.schema_files.Given as goal

-- the names so far, and those of the imports that are left
abbrev pub invariant-loop-setting : goal.invariant-loop-setting
invariant-loop-setting l = word_bytes l.files.items ++ files_of_settings l.left ≡ schema_files l.fn.tree

abbrev pub decreases-loop-setting : goal.decreases-loop-setting
decreases-loop-setting l = length l.left

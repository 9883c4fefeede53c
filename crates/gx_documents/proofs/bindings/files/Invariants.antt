use Rattle.std.proofs.Common.{◌≡◌, take}
use Rattle.gx_documents.specs.BindingView.{word_bytes}
use Rattle.gx_documents.specs.Bindings.{files_bound}
use Rattle.gx_documents.proofs.bindings.files.Given as goal

-- the files of the variables so far
abbrev pub invariant-loop-name : goal.invariant-loop-name
invariant-loop-name l = word_bytes l.files.items ≡ files_bound (word_bytes (take l.name-index l.variables)) (word_bytes l.words)

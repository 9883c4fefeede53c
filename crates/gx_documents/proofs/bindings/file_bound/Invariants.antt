use Rattle.std.proofs.Common.{◌≡◌, length}
use Rattle.gx_documents.specs.BindingView.{word_bytes}
use Rattle.gx_documents.specs.Bindings.{file_bound}
use Rattle.gx_documents.proofs.bindings.file_bound.Given as goal

-- what is left decides
abbrev pub invariant-loop-word : goal.invariant-loop-word
invariant-loop-word l = file_bound (word_bytes l.left) l.name ≡ file_bound (word_bytes l.fn.words) l.name

abbrev pub decreases-loop-word : goal.decreases-loop-word
decreases-loop-word l = length l.left

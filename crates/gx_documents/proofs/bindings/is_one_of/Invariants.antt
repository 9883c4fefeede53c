use Rattle.std.proofs.Common.{◌≡◌, length}
use Rattle.gx_documents.specs.BindingView.{word_bytes}
use Rattle.gx_documents.specs.Bindings.{is_one_of}
use Rattle.gx_documents.proofs.bindings.is_one_of.Given as goal

-- what is left decides
abbrev pub invariant-loop-other : goal.invariant-loop-other
invariant-loop-other l = is_one_of (word_bytes l.left) l.name ≡ is_one_of (word_bytes l.fn.names) l.name

abbrev pub decreases-loop-other : goal.decreases-loop-other
decreases-loop-other l = length l.left

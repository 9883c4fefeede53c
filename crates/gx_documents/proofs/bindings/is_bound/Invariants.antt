use Rattle.std.proofs.Common.{◌≡◌, length, map}
use Rattle.gx_documents.specs.BindingView.{word_bytes}
use Rattle.gx_documents.specs.Bindings.{bound_name, is_one_of}
use Rattle.gx_documents.proofs.bindings.is_bound.Given as goal

-- what is left decides
abbrev pub invariant-loop-word : goal.invariant-loop-word
invariant-loop-word l = is_one_of (map bound_name (word_bytes l.left)) l.name ≡ is_one_of (map bound_name (word_bytes l.fn.words)) l.name

abbrev pub decreases-loop-word : goal.decreases-loop-word
decreases-loop-word l = length l.left

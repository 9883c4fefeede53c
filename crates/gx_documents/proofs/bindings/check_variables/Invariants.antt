use Rattle.std.proofs.Common.{◌≡◌, length, map}
use Rattle.gx_documents.specs.BindingView.{word_bytes}
use Rattle.gx_documents.specs.Bindings.{bound_name, first_missing}
use Rattle.gx_documents.proofs.bindings.check_variables.Given as goal

-- what is left comes to the same
abbrev pub invariant-loop-name : goal.invariant-loop-name
invariant-loop-name l =
    first_missing (word_bytes l.left) (map bound_name (word_bytes l.words)) ≡ first_missing (word_bytes l.fn.variables) (map bound_name (word_bytes l.words))

abbrev pub decreases-loop-name : goal.decreases-loop-name
decreases-loop-name l = length l.left

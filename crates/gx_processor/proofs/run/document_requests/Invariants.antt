use Rattle.std.proofs.Common.{◌≡◌, ◌++◌, length, map}
use Rattle.gx_core.specs.QueryMeaning.{plain_declaration}
use Rattle.gx_documents.specs.BindingView.{word_bytes}
use Rattle.gx_documents.specs.Requests.{all_asked}
use Rattle.gx_processor.specs.Externals.{documents_asked}
use Rattle.gx_processor.proofs.run.document_requests.Given as goal

-- what is asked so far, and what is asked of the files that are left
abbrev pub invariant-loop-declaration : goal.invariant-loop-declaration
invariant-loop-declaration l =
    all_asked l.requests.items ++ documents_asked (map plain_declaration l.left) (word_bytes l.files)
    ≡ documents_asked (map plain_declaration l.fn.declarations) (word_bytes l.fn.files)

abbrev pub decreases-loop-declaration : goal.decreases-loop-declaration
decreases-loop-declaration l = length l.left

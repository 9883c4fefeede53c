use Rattle.std.proofs.Common.{◌≡◌, ◌++◌, length}
use Rattle.gx_schema_syntax.specs.Documents.{documents_written}
use Rattle.gx_schema_syntax.specs.Numbers.{first_numbers}
use Rattle.gx_schema_syntax.proofs.profile.documents_written.Given as goal

-- the documents so far and those that are left
abbrev pub invariant-loop-file : goal.invariant-loop-file
invariant-loop-file l = l.documents.items ++ documents_written l.at l.left ≡ documents_written first_numbers l.fn.files

abbrev pub decreases-loop-file : goal.decreases-loop-file
decreases-loop-file l = length l.left

use Rattle.std.proofs.Common.{◌≡◌, ◌++◌, length, map}
use Rattle.gx_core.specs.QueryMeaning.{plain_declaration}
use Rattle.gx_documents.specs.BindingView.{word_bytes}
use Rattle.gx_processor.specs.Externals.{external_words}
use Rattle.gx_processor.proofs.run.external_words.Given as goal

-- the words so far and those of the declarations that are left
abbrev pub invariant-loop-declaration : goal.invariant-loop-declaration
invariant-loop-declaration l = word_bytes l.words.items ++ external_words (map plain_declaration l.left) ≡ external_words (map plain_declaration l.fn.declarations)

abbrev pub decreases-loop-declaration : goal.decreases-loop-declaration
decreases-loop-declaration l = length l.left

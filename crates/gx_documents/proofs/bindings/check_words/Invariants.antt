use Rattle.std.proofs.Common.{◌≡◌, ◌++◌, [], length, take, map}
use Rattle.gx_documents.specs.BindingView.{word_bytes}
use Rattle.gx_documents.specs.Bindings.{bound_name, first_wrong}
use Rattle.gx_documents.proofs.bindings.check_words.Given as goal

-- behind the words so far, what is left comes to the same
abbrev pub invariant-loop-word : goal.invariant-loop-word
invariant-loop-word l = record {
  whole : take l.count l.words ++ l.left ≡ l.words;
  comes : first_wrong (word_bytes l.variables) (map bound_name (word_bytes (take l.count l.words))) (word_bytes l.left) ≡ first_wrong (word_bytes l.variables) [] (word_bytes l.words);
}

abbrev pub decreases-loop-word : goal.decreases-loop-word
decreases-loop-word l = length l.left

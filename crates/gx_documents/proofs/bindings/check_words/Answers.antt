use Rattle.std.proofs.Common.{◌≡◌, ◌∷◌, true, false, map, take, string_bytes}
use Rattle.gx_documents.specs.BindingView.{word_bytes}
use Rattle.gx_documents.specs.Bindings.{bound_name, is_one_of}
use Rattle.gx_documents.proofs.Words.{words_go_on}
use Rattle.gx_documents.proofs.bindings.check_words.Goals as goal

pub loop-word-preserved : goal.loop-word-preserved
loop-word-preserved c =
    let first : c.loop-word.left.now ≡ c.in-Some.word.now ∷ c.in-Some.others.now = c.in-Some.ensures.cases.0 in
    let known : is_one_of (word_bytes c.args.variables.now) (bound_name (string_bytes c.in-Some.word.now)) ≡ true = cc in
    let new : is_one_of (map bound_name (word_bytes (take c.loop-word.count c.args.words.now))) (bound_name (string_bytes c.in-Some.word.now)) ≡ false = cc in
    let on = words_go_on (word_bytes c.args.variables.now) c.loop-word.count c.args.words.now c.loop-word.left.now c.in-Some.others.now c.in-Some.word.now c.loop-word.invariant.whole c.loop-word.invariant.comes first known new in
    record { whole = on.0; comes = on.1 }

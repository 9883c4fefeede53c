use Rattle.std.proofs.Common.{◌≡◌, length}
use Rattle.gx_funcs.specs.Texts.{texts_of, concatenated}
use Rattle.gx_funcs.proofs.ListedTexts.{concatenated_behind}
use Rattle.gx_funcs.proofs.texts.concatenated.Given as goal

abbrev pub invariant-loop-argument : goal.invariant-loop-argument
invariant-loop-argument l = concatenated_behind l.whole (texts_of l.left) ≡ concatenated (texts_of l.fn.arguments)

abbrev pub decreases-loop-argument : goal.decreases-loop-argument
decreases-loop-argument l = length l.left

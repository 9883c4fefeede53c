use Rattle.std.proofs.Common.{◌≡◌, ◌++◌, length}
use Rattle.gx_funcs.specs.Texts.{joined}
use Rattle.gx_funcs.proofs.ListedTexts.{joined_behind}
use Rattle.gx_funcs.proofs.texts.joined.Given as goal

abbrev pub invariant-loop-text : goal.invariant-loop-text
invariant-loop-text l = l.whole ++ joined_behind l.separator l.left ≡ joined l.fn.separator l.fn.strings

abbrev pub decreases-loop-text : goal.decreases-loop-text
decreases-loop-text l = length l.left

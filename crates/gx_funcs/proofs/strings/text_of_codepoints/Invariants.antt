use Rattle.std.proofs.Common.{◌≡◌, length}
use Rattle.gx_funcs.specs.Strings.{text_of_codepoints}
use Rattle.gx_funcs.proofs.CodepointLemmas.{text_ahead}
use Rattle.gx_funcs.proofs.strings.text_of_codepoints.Given as goal

abbrev pub invariant-loop-codepoint : goal.invariant-loop-codepoint
invariant-loop-codepoint l = text_ahead l.done (text_of_codepoints l.left) ≡ text_of_codepoints l.fn.codepoints

abbrev pub decreases-loop-codepoint : goal.decreases-loop-codepoint
decreases-loop-codepoint l = length l.left

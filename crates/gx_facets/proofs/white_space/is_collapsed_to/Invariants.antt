use Rattle.std.proofs.Common.{◌≡◌, length}
use Rattle.std.specs.Str.{chars, IsUtf8}
use Rattle.std.specs.Str.Iter.{chars_rest}
use Rattle.gx_base.specs.Text.{same_text}
use Rattle.gx_facets.specs.WhiteSpace.{collapsed}
use Rattle.gx_facets.proofs.Collapsing.{left_to_collapse}
use Rattle.gx_facets.proofs.white_space.is_collapsed_to.Given as goal

-- what is left of the text is what is left of the word, exactly where the whole text is the word
abbrev pub invariant-loop-c : goal.invariant-loop-c
invariant-loop-c l = record {
  text : IsUtf8 (chars_rest l.rest);
  word : IsUtf8 (chars_rest l.wanted);
  same : same_text (left_to_collapse l.begun l.gap (chars (chars_rest l.rest))) (chars (chars_rest l.wanted)) ≡ same_text (collapsed (chars l.fn.text)) (chars l.fn.word);
}

abbrev pub decreases-loop-c : goal.decreases-loop-c
decreases-loop-c l = length (chars_rest l.rest)

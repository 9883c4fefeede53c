use Rattle.std.proofs.Common.{◌≡◌, length}
use Rattle.std.specs.Str.{chars, IsUtf8}
use Rattle.std.specs.Str.Iter.{chars_rest}
use Rattle.gx_base.specs.WhiteSpace.{is_white_space}
use Rattle.gx_grammar.specs.Tokens.{all_pass}
use Rattle.gx_parse_grammar.proofs.pieces.is_blank.Given as goal

abbrev pub invariant-loop-character : goal.invariant-loop-character
invariant-loop-character l = record {
  text : IsUtf8 (chars_rest l.rest);
  same : all_pass is_white_space (chars (chars_rest l.rest)) ≡ all_pass is_white_space l.fn.text;
}

abbrev pub decreases-loop-character : goal.decreases-loop-character
decreases-loop-character l = length (chars_rest l.rest)

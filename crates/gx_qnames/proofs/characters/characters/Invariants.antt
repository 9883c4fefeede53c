use Rattle.std.proofs.Common.{◌≡◌, ◌++◌, length}
use Rattle.std.specs.Str.{chars, IsUtf8}
use Rattle.std.specs.Str.Iter.{chars_rest}
use Rattle.gx_qnames.proofs.characters.characters.Given as goal

-- the characters so far and the rest are the text
abbrev pub invariant-loop-character : goal.invariant-loop-character
invariant-loop-character l = record {
  utf8 : IsUtf8 (chars_rest l.rest);
  whole : l.characters.items ++ chars (chars_rest l.rest) ≡ l.fn.text;
}

abbrev pub decreases-loop-character : goal.decreases-loop-character
decreases-loop-character l = length (chars_rest l.rest)

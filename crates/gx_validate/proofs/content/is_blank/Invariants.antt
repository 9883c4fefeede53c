use Rattle.std.proofs.Common.{◌≡◌, length}
use Rattle.std.specs.Str.{chars, IsUtf8}
use Rattle.std.specs.Str.Iter.{chars_rest}
use Rattle.gx_qnames.specs.Lexical.{is_blank}
use Rattle.gx_validate.proofs.content.is_blank.Given as goal

-- what is left decides
abbrev pub invariant-loop-character : goal.invariant-loop-character
invariant-loop-character l = record {
  utf8 : IsUtf8 (chars_rest l.rest);
  same : is_blank (chars (chars_rest l.rest)) ≡ is_blank l.fn.text;
}

abbrev pub decreases-loop-character : goal.decreases-loop-character
decreases-loop-character l = length (chars_rest l.rest)

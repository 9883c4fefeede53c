use Rattle.std.proofs.Common.{◌≡◌, length}
use Rattle.std.specs.Str.{chars, IsUtf8}
use Rattle.std.specs.Str.Iter.{chars_rest}
use Rattle.gx_base.specs.Text.{text_cmp}
use Rattle.gx_base.proofs.text.compare_characters.Given as goal

-- what is left compares as the whole does
abbrev pub invariant-loop-x : goal.invariant-loop-x
invariant-loop-x l = record {
  first : IsUtf8 (chars_rest l.first);
  second : IsUtf8 (chars_rest l.second);
  same : text_cmp (chars (chars_rest l.first)) (chars (chars_rest l.second)) ≡ text_cmp (chars l.fn.a) (chars l.fn.b);
}

abbrev pub decreases-loop-x : goal.decreases-loop-x
decreases-loop-x l = length (chars_rest l.first)

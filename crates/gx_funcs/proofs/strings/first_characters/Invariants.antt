use Rattle.std.proofs.Common.{◌≡◌, ◌++◌, take}
use Rattle.std.specs.Str.{chars, IsUtf8}
use Rattle.std.specs.Str.Iter.{chars_rest}
use Rattle.gx_funcs.proofs.strings.first_characters.Given as goal

abbrev pub invariant-loop-more : goal.invariant-loop-more
invariant-loop-more l = record {
  text : IsUtf8 (chars_rest l.rest);
  same : l.done ++ take l.more (chars (chars_rest l.rest)) ≡ take l.fn.count (chars l.fn.text);
}

abbrev pub decreases-loop-more : goal.decreases-loop-more
decreases-loop-more l = l.more

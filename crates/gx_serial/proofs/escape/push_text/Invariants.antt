use Rattle.std.proofs.Common.{◌≡◌, ◌++◌, length}
use Rattle.std.specs.Str.{chars, IsUtf8}
use Rattle.std.specs.Str.Iter.{chars_rest}
use Rattle.gx_serial.specs.Escape.{text_escaped}
use Rattle.gx_serial.proofs.escape.push_text.Given as goal

-- what was added, and what is left to add
abbrev pub invariant-loop-c : goal.invariant-loop-c
invariant-loop-c l = record {
  text : IsUtf8 (chars_rest l.rest);
  added : l.out ++ text_escaped (chars (chars_rest l.rest)) ≡ l.fn.out ++ text_escaped l.fn.text;
}

abbrev pub decreases-loop-c : goal.decreases-loop-c
decreases-loop-c l = length (chars_rest l.rest)

use Rattle.std.proofs.Common.{◌≡◌, ◌++◌, length, map}
use Rattle.std.specs.Char.{to_ascii_uppercase}
use Rattle.std.specs.Str.{chars, IsUtf8}
use Rattle.std.specs.Str.Iter.{chars_rest}
use Rattle.gx_funcs.proofs.normal_forms.in_capitals.Given as goal

abbrev pub invariant-loop-c : goal.invariant-loop-c
invariant-loop-c l = record {
  text : IsUtf8 (chars_rest l.rest);
  same : l.done ++ map to_ascii_uppercase (chars (chars_rest l.rest)) ≡ map to_ascii_uppercase l.fn.text;
}

abbrev pub decreases-loop-c : goal.decreases-loop-c
decreases-loop-c l = length (chars_rest l.rest)

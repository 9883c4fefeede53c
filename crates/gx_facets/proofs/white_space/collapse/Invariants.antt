use Rattle.std.proofs.Common.{◌≡◌, length}
use Rattle.std.specs.Str.{chars, IsUtf8}
use Rattle.std.specs.Str.Iter.{chars_rest}
use Rattle.gx_facets.specs.WhiteSpace.{collapsed}
use Rattle.gx_facets.proofs.Collapsing.{resumed}
use Rattle.gx_facets.proofs.white_space.collapse.Given as goal

abbrev pub invariant-loop-c : goal.invariant-loop-c
invariant-loop-c l = record {
  text : IsUtf8 (chars_rest l.rest);
  same : resumed l.done l.gap (chars (chars_rest l.rest)) ≡ collapsed l.fn.text;
}

abbrev pub decreases-loop-c : goal.decreases-loop-c
decreases-loop-c l = length (chars_rest l.rest)

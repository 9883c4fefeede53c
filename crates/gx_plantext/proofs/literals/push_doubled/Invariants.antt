use Rattle.std.proofs.Common.{◌≡◌, ◌++◌, length}
use Rattle.std.specs.Str.{chars, IsUtf8}
use Rattle.std.specs.Str.Iter.{chars_rest}
use Rattle.gx_plantext.specs.LiteralText.{quotes_doubled}
use Rattle.gx_plantext.proofs.literals.push_doubled.Given as goal

-- what was added, and what is left to add
abbrev pub invariant-loop-character : goal.invariant-loop-character
invariant-loop-character l = record {
  text : IsUtf8 (chars_rest l.rest);
  added : l.text ++ quotes_doubled (chars (chars_rest l.rest)) ≡ l.fn.text ++ quotes_doubled l.fn.characters;
}

abbrev pub decreases-loop-character : goal.decreases-loop-character
decreases-loop-character l = length (chars_rest l.rest)

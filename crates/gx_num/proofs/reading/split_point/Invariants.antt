use Rattle.std.proofs.Common.{◌≡◌, ◌++◌, take, drop}
use Rattle.gx_num.specs.Lexical.{before_point, behind_point}
use Rattle.gx_num.proofs.reading.split_point.Given as goal

abbrev pub invariant-loop-i : goal.invariant-loop-i
invariant-loop-i l = record {
  before : before_point l.text ≡ take l.i l.text ++ before_point (drop l.i l.text);
  behind : behind_point l.text ≡ behind_point (drop l.i l.text);
}

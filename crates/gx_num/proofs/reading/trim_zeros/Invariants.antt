use Rattle.std.proofs.Common.{◌≡◌, ◌≤◌, take, length}
use Rattle.gx_num.specs.Lexical.{without_trailing_zeros}
use Rattle.gx_num.proofs.reading.trim_zeros.Given as goal

abbrev pub invariant-loop-len : goal.invariant-loop-len
invariant-loop-len l = record {
  within : l.len ≤ length l.digits;
  same : without_trailing_zeros (take l.len l.digits) ≡ without_trailing_zeros l.digits;
}

abbrev pub decreases-loop-len : goal.decreases-loop-len
decreases-loop-len l = l.len

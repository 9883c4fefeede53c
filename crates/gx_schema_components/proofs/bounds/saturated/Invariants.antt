use Rattle.std.proofs.Common.{◌≡◌, ◌<◌, ◌^◌, length}
use Rattle.gx_schema_components.specs.Bounds.{number_behind, saturated}
use Rattle.gx_schema_components.proofs.bounds.saturated.Given as goal

-- the digits so far and those that are left
abbrev pub invariant-loop-byte : goal.invariant-loop-byte
invariant-loop-byte l = record {
  same : saturated (number_behind l.value l.left) ≡ saturated (number_behind 0 l.fn.digits);
  fits : l.value < 2 ^ 32;
}

abbrev pub decreases-loop-byte : goal.decreases-loop-byte
decreases-loop-byte l = length l.left

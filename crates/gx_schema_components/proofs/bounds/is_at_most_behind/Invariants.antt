use Rattle.std.proofs.Common.{◌≡◌, length}
use Rattle.gx_schema_components.proofs.Digits.{is_at_most_by_digits}
use Rattle.gx_schema_components.proofs.bounds.is_at_most_behind.Given as goal

-- the digits that are left decide
abbrev pub invariant-loop-a : goal.invariant-loop-a
invariant-loop-a l = record {
  same : is_at_most_by_digits l.left l.right ≡ is_at_most_by_digits l.fn.least l.fn.greatest;
  as_many : length l.left ≡ length l.right;
}

abbrev pub decreases-loop-a : goal.decreases-loop-a
decreases-loop-a l = length l.left

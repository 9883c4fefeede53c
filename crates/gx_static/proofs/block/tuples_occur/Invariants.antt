use Rattle.std.proofs.Common.{◌≡◌, ◌≤◌, length, drop}
use Rattle.gx_static.specs.Rule.{tuples_occur}
use Rattle.gx_static.proofs.block.tuples_occur.Given as goal

-- the tuples of the clauses from a number on
abbrev pub invariant-loop-left : goal.invariant-loop-left
invariant-loop-left l = record {
  same : l.tuples ≡ tuples_occur (drop l.left l.clauses) (drop l.left l.types);
  clauses_there : l.left ≤ length l.clauses;
  types_there : l.left ≤ length l.types;
}

abbrev pub decreases-loop-left : goal.decreases-loop-left
decreases-loop-left l = l.left

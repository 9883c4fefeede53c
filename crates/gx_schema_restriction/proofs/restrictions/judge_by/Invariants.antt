use Rattle.std.proofs.Common.{◌≡◌, ◌≤◌, ◌-◌, length}
use Rattle.gx_schema_restriction.specs.Restrictions.{AreSoundBelow}
use Rattle.gx_schema_restriction.proofs.restrictions.judge_by.Given as goal

abbrev pub invariant-loop-declared : goal.invariant-loop-declared
invariant-loop-declared l = record {
  kept : l.derivations ≡ l.fn.derivations;
  within : l.number ≤ length l.types;
  below : AreSoundBelow l.fn.derivations l.pairs l.restricted l.number;
}

abbrev pub decreases-loop-declared : goal.decreases-loop-declared
decreases-loop-declared l = length l.types - l.number

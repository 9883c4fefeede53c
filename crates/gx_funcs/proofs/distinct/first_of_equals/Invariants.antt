use Rattle.std.proofs.Common.{◌≡◌, ◌++◌, length}
use Rattle.std.specs.HashSet.{contains}
use Rattle.gx_atomic.specs.JoinKey.{same_key}
use Rattle.gx_atomic.specs.declared.join_key.JoinKey.{JoinKey}
use Rattle.gx_funcs.specs.Distinct.{distinct_values}
use Rattle.gx_funcs.proofs.DistinctLemmas.{is_key_among, new_values}
use Rattle.gx_funcs.proofs.distinct.first_of_equals.Given as goal

abbrev pub invariant-loop-value : goal.invariant-loop-value
invariant-loop-value l = record {
  keys : (key : JoinKey) → contains same_key l.seen key ≡ is_key_among key l.found.items;
  same : l.found.items ++ new_values l.found.items l.left ≡ distinct_values l.fn.values;
}

abbrev pub decreases-loop-value : goal.decreases-loop-value
decreases-loop-value l = length l.left

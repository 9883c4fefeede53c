use Rattle.std.proofs.Common.{◌≡◌, ◌++◌, length}
use Rattle.gx_names_uses.specs.Reaching.{uses_in}
use Rattle.gx_names_uses.proofs.reaching.put_uses.Given as goal

-- what is put before and what is left come to the same as the whole
abbrev pub invariant-loop-one : goal.invariant-loop-one
invariant-loop-one l = record {
  put : l.left.items ++ l.more ≡ l.fn.left.items ++ uses_in l.fn.bodies l.fn.function;
}

abbrev pub decreases-loop-one : goal.decreases-loop-one
decreases-loop-one l = length l.more

use Rattle.std.proofs.Common.{◌≡◌, [], length}
use Rattle.gx_names.specs.Refusals.{bodies_after}
use Rattle.gx_names.proofs.declarations.bodies_of.Given as goal

-- what is left comes to the same as the whole
abbrev pub invariant-loop-definition : goal.invariant-loop-definition
invariant-loop-definition l = record {
  bodies : bodies_after l.fn.names l.left l.bodies ≡ bodies_after l.fn.names l.fn.definitions [];
  names : l.names ≡ l.fn.names;
}

abbrev pub decreases-loop-definition : goal.decreases-loop-definition
decreases-loop-definition l = length l.left

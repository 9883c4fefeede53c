use Rattle.std.proofs.Common.{◌≡◌, length}
use Rattle.gx_names.specs.Refusals.{with_parameters}
use Rattle.gx_names.proofs.declarations.bind_parameters.Given as goal

-- what is left comes to the same as the whole
abbrev pub invariant-loop-parameter : goal.invariant-loop-parameter
invariant-loop-parameter l = record {
  names : with_parameters l.left l.names ≡ with_parameters l.fn.parameters l.fn.names;
}

abbrev pub decreases-loop-parameter : goal.decreases-loop-parameter
decreases-loop-parameter l = length l.left

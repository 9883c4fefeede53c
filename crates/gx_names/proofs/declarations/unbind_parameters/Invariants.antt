use Rattle.std.proofs.Common.{◌≡◌, length}
use Rattle.gx_names.specs.Refusals.{without_parameters}
use Rattle.gx_names.proofs.declarations.unbind_parameters.Given as goal

-- what is left comes to the same as the whole
abbrev pub invariant-loop-others : goal.invariant-loop-others
invariant-loop-others l = record {
  names : without_parameters l.left l.names ≡ without_parameters l.fn.parameters l.fn.names;
}

abbrev pub decreases-loop-others : goal.decreases-loop-others
decreases-loop-others l = length l.left

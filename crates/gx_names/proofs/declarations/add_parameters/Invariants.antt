use Rattle.std.proofs.Common.{◌≡◌, ◌++◌, length}
use Rattle.gx_names.specs.Refusals.{parameters_refusals}
use Rattle.gx_names.specs.Resolution.{parameters_resolved}
use Rattle.gx_names.proofs.declarations.add_parameters.Given as goal

-- what is left comes to the same as the whole
abbrev pub invariant-loop-parameter : goal.invariant-loop-parameter
invariant-loop-parameter l = record {
  refusals : parameters_refusals l.fn.names l.seen l.left ≡ parameters_refusals l.fn.names l.fn.seen l.fn.parameters;
  parameters : l.bound.items ++ parameters_resolved l.fn.names l.left ≡ l.fn.bound.items ++ parameters_resolved l.fn.names l.fn.parameters;
}

abbrev pub decreases-loop-parameter : goal.decreases-loop-parameter
decreases-loop-parameter l = length l.left

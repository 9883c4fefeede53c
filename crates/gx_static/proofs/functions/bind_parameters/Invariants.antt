use Rattle.std.proofs.Common.{◌≡◌, ◌++◌, length}
use Rattle.gx_core.specs.QueryMeaning.{parameter_types}
use Rattle.gx_static.proofs.functions.bind_parameters.Given as goal

-- the parameters that are left, before those that are bound
abbrev pub invariant-loop-parameter : goal.invariant-loop-parameter
invariant-loop-parameter l = parameter_types l.left ++ l.scope ≡ parameter_types l.fn.parameters ++ l.fn.scope

abbrev pub decreases-loop-parameter : goal.decreases-loop-parameter
decreases-loop-parameter l = length l.left

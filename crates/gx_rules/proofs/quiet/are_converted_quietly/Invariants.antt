use Rattle.std.proofs.Common.{◌≡◌, ◌+◌, drop, length, map}
use Rattle.gx_funcs.specs.Function.{parameters_of}
use Rattle.gx_plan.specs.Plan.{kind_carried}
use Rattle.gx_rules.specs.Guards.{are_converted_quietly}
use Rattle.gx_rules.proofs.quiet.are_converted_quietly.Given as goal

-- the arguments that are left are converted quietly as all are
abbrev pub invariant-loop-argument : goal.invariant-loop-argument
invariant-loop-argument l = record {
  quiet : are_converted_quietly l.schemas (drop l.number (parameters_of l.function)) (map kind_carried l.left)
      ≡ are_converted_quietly l.schemas (parameters_of l.function) (map kind_carried l.arguments);
  number : l.number + length l.left ≡ length l.arguments;
}

abbrev pub decreases-loop-argument : goal.decreases-loop-argument
decreases-loop-argument l = length l.left

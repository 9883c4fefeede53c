use Rattle.std.proofs.Common.{◌≡◌, ◌+◌, ◌≤◌, length, drop}
use Rattle.gx_funcs.specs.Function.{parameters_of}
use Rattle.gx_static.specs.Rule.{arguments_rule, call_answer_ruling, call_rule}
use Rattle.gx_static.proofs.call.call_type.Given as goal

-- what is left of the parameters and of the arguments is ruled as all of them are
abbrev pub invariant-loop-argument : goal.invariant-loop-argument
invariant-loop-argument l = record {
  ruled : arguments_rule l.schemas (drop l.number (parameters_of l.function)) l.left l.number (call_answer_ruling l.schemas l.function l.arguments) ≡ call_rule l.schemas l.function l.arguments;
  within : l.number ≤ length (parameters_of l.function);
  counted : l.number + length l.left ≡ length l.arguments;
}

abbrev pub decreases-loop-argument : goal.decreases-loop-argument
decreases-loop-argument l = length l.left

use Rattle.std.proofs.Common.{◌≡◌, ◌≤◌, ◌++◌, drop, length}
use Rattle.gx_funcs.specs.Function.{value_parameters_of}
use Rattle.gx_funcs.specs.Values.{lists_of}
use Rattle.gx_model.specs.Forest.{Forest}
use Rattle.gx_model.specs.Growth.{Extends}
use Rattle.gx_build.specs.Parts.{parts_in}
use Rattle.gx_core.specs.Arguments.{all_argument_values}
use Rattle.gx_core.specs.Outcome.{gives, after}
use Rattle.gx_machine.proofs.value_calling.all_argument_values.Given as goal

-- the arguments that are left behind those that have values come to all of them
abbrev pub invariant-loop-operand : goal.invariant-loop-operand
invariant-loop-operand l = record {
  so_far : (later : Forest) → Extends l.store later
      → after (all_argument_values l.schemas (drop l.number (value_parameters_of l.function)) (parts_in later l.left) l.store) (λ others left. gives (lists_of l.found.items ++ others) left)
      ≡ all_argument_values l.schemas (value_parameters_of l.function) (parts_in later l.operands) l.store;
  within : l.number ≤ length (value_parameters_of l.function);
}

abbrev pub decreases-loop-operand : goal.decreases-loop-operand
decreases-loop-operand l = length l.left

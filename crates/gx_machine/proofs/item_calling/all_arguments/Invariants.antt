use Rattle.std.proofs.Common.{◌≡◌, ◌≤◌, ◌++◌, drop, length}
use Rattle.gx_funcs.specs.Function.{item_parameters_of}
use Rattle.gx_model.specs.Forest.{Forest}
use Rattle.gx_model.specs.Growth.{Extends}
use Rattle.gx_build.specs.Parts.{parts_in}
use Rattle.gx_core.specs.Arguments.{arguments_by}
use Rattle.gx_core.specs.Outcome.{gives, after}
use Rattle.gx_machine.specs.ItemAnswers.{items_of_arguments}
use Rattle.gx_machine.proofs.item_calling.all_arguments.Given as goal

-- the arguments that are left behind those that are there come to all of them
abbrev pub invariant-loop-operand : goal.invariant-loop-operand
invariant-loop-operand l = record {
  so_far : (later : Forest) → Extends l.store later
      → after (arguments_by l.schemas (drop l.number (item_parameters_of l.function)) (parts_in later l.left) l.store) (λ others left. gives (items_of_arguments later l.found.items ++ others) left)
      ≡ arguments_by l.schemas (item_parameters_of l.function) (parts_in later l.operands) l.store;
  within : l.number ≤ length (item_parameters_of l.function);
}

abbrev pub decreases-loop-operand : goal.decreases-loop-operand
decreases-loop-operand l = length l.left

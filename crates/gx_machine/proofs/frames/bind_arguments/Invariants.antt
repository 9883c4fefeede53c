use Rattle.std.proofs.Common.{◌≡◌, ◌++◌, length}
use Rattle.gx_model.specs.Forest.{Forest}
use Rattle.gx_core.specs.Functions.{arguments_bound}
use Rattle.gx_machine.specs.BoundItems.{bounds_in, items_of}
use Rattle.gx_machine.proofs.frames.bind_arguments.Given as goal

-- the arguments that are left, in front of what is bound, come to all of them, one for each parameter
abbrev pub invariant-loop-parameter : goal.invariant-loop-parameter
invariant-loop-parameter l = record {
  counted : length l.rest ≡ length l.arguments.items;
  bound : (later : Forest)
      → arguments_bound l.rest (bounds_in later l.arguments.items) ++ items_of later l.scope
      ≡ arguments_bound l.parameters (bounds_in later l.fn.arguments.items) ++ items_of later l.fn.scope;
}

abbrev pub decreases-loop-parameter : goal.decreases-loop-parameter
decreases-loop-parameter l = length l.rest

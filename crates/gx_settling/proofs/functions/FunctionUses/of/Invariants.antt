use Rattle.std.proofs.Common.{◌≡◌, ◌++◌, [], map, length}
use Rattle.gx_core.specs.Functions.{functions_of}
use Rattle.gx_core.specs.Invariant.{scope_behind}
use Rattle.gx_settling.specs.Reaching.{function_use}
use Rattle.gx_settling.proofs.functions.FunctionUses.of.Given as goal

-- those of the functions before, and of those that are left, are those of all
abbrev pub invariant-loop-declaration : goal.invariant-loop-declaration
invariant-loop-declaration l = record {
  uses : l.functions.items ++ map (function_use (scope_behind l.fn.declarations [])) (functions_of l.left)
      ≡ map (function_use (scope_behind l.fn.declarations [])) (functions_of l.fn.declarations);
}

abbrev pub decreases-loop-declaration : goal.decreases-loop-declaration
decreases-loop-declaration l = length l.left

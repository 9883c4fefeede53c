use Rattle.std.proofs.Common.{◌≡◌, length}
use Rattle.gx_names.specs.Refusals.{functions_after}
use Rattle.gx_names.proofs.declarations.declare_functions.Given as goal

-- what is left comes to the same as the whole
abbrev pub invariant-loop-definition : goal.invariant-loop-definition
invariant-loop-definition l = record {
  functions : functions_after l.names.namespaces l.left l.names.functions ≡ functions_after l.fn.names.namespaces l.fn.definitions l.fn.names.functions;
  namespaces : l.names.namespaces ≡ l.fn.names.namespaces;
  variables : l.names.variables ≡ l.fn.names.variables;
  schemas : l.names.schemas ≡ l.fn.names.schemas;
}

abbrev pub decreases-loop-definition : goal.decreases-loop-definition
decreases-loop-definition l = length l.left

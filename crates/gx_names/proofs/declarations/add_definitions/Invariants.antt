use Rattle.std.proofs.Common.{◌≡◌, ◌++◌, length}
use Rattle.gx_names.specs.Refusals.{definitions_refusals, scope_after}
use Rattle.gx_names.specs.Resolution.{declarations_resolved}
use Rattle.gx_names_uses.specs.Searching.{IsSettled}
use Rattle.gx_names.proofs.declarations.add_definitions.Given as goal

-- what is left comes to the same as the whole
abbrev pub invariant-loop-definition : goal.invariant-loop-definition
invariant-loop-definition l = record {
  refusals : definitions_refusals l.left l.fn.bodies l.earlier.functions l.names ≡ definitions_refusals l.fn.definitions l.fn.bodies l.fn.earlier.functions l.fn.names;
  names : scope_after l.left l.names ≡ scope_after l.fn.definitions l.fn.names;
  declarations : l.declarations.items ++ declarations_resolved l.left l.names ≡ l.fn.declarations.items ++ declarations_resolved l.fn.definitions l.fn.names;
  settled : IsSettled l.names.variables l.fn.bodies l.earlier.settled;
}

abbrev pub decreases-loop-definition : goal.decreases-loop-definition
decreases-loop-definition l = length l.left

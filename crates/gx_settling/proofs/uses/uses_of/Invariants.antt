use Rattle.std.proofs.Common.{◌≡◌}
use Rattle.gx_settling.specs.Uses.{called_by, variables_named}
use Rattle.gx_settling.specs.Gathering.{all_calls, all_variables}
use Rattle.gx_settling.proofs.uses.uses_of.Given as goal

-- what was gathered and what is left come to what the expression uses
abbrev pub invariant-loop : goal.invariant-loop
invariant-loop g l = record {
  calls : all_calls l.gathering ≡ called_by l.fn.expression;
  variables : all_variables l.gathering ≡ variables_named l.fn.expression;
}

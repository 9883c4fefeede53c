use Rattle.std.proofs.Common.{◌≡◌}
use Rattle.gx_plan.specs.Walk.{walk_left}
use Rattle.gx_rules.specs.Guards.{is_named_in}
use Rattle.gx_rules.proofs.Walking.{one_names}
use Rattle.gx_rules.proofs.named.is_named_in.Given as goal

-- what is left names the variable as all does
abbrev pub invariant-loop : goal.invariant-loop
invariant-loop l = one_names (walk_left l.walk.pending) l.variable ≡ is_named_in l.expression l.variable

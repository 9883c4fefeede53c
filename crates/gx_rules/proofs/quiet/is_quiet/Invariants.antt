use Rattle.std.proofs.Common.{◌≡◌}
use Rattle.gx_plan.specs.Walk.{walk_left}
use Rattle.gx_rules.specs.Guards.{is_quiet}
use Rattle.gx_rules.proofs.Walking.{all_quiet}
use Rattle.gx_rules.proofs.quiet.is_quiet.Given as goal

-- what is left is quiet as all is
abbrev pub invariant-loop : goal.invariant-loop
invariant-loop l = all_quiet l.schemas (walk_left l.walk.pending) ≡ is_quiet l.schemas l.expression

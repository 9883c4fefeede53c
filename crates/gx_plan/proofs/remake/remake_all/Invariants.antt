use Rattle.std.proofs.Common.{◌≡◌}
use Rattle.std.specs.List.{AllByRecursion}
use Rattle.gx_plan.specs.Remaking.{all_remade, remade, IsUnderWay, AwaitsPart}
use Rattle.gx_plan.proofs.remake.remake_all.Given as goal

-- all that is open becomes what the expression becomes
abbrev pub invariant-loop : goal.invariant-loop
invariant-loop g l = record {
  made : all_remade (g.R.Remake.make l.remaker) l.frame l.outer ≡ remade (g.R.Remake.make l.remaker) l.fn.expression;
  under_way : IsUnderWay (g.R.Remake.facts l.remaker) l.frame;
  waiting : AllByRecursion (AwaitsPart (g.R.Remake.facts l.remaker)) l.outer;
}

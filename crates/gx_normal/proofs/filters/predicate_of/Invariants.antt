use Rattle.std.proofs.Common.{◌≡◌}
use Rattle.gx_normal.specs.Filters.{predicate_of}
use Rattle.gx_normal.proofs.filters.predicate_of.Given as goal

-- what stands in the parentheses is the same predicate
abbrev pub invariant-loop : goal.invariant-loop
invariant-loop l = predicate_of l.inner ≡ predicate_of l.tree

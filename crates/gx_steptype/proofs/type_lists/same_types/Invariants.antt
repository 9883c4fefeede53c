use Rattle.std.proofs.Common.{◌≡◌, ◌++◌, drop}
use Rattle.gx_steptype.proofs.type_lists.same_types.Given as goal

-- what was copied, and the rest
abbrev pub invariant-loop-t : goal.invariant-loop-t
invariant-loop-t l = l.copied.items ++ drop l.t-index l.types ≡ l.types

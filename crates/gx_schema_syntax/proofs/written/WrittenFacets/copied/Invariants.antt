use Rattle.std.proofs.Common.{◌≡◌, ◌++◌, length}
use Rattle.gx_schema_syntax.proofs.written.WrittenFacets.copied.Given as goal

-- those so far and those that are left
abbrev pub invariant-loop-facet : goal.invariant-loop-facet
invariant-loop-facet l = l.copies.items ++ l.left ≡ l.fn.self

abbrev pub decreases-loop-facet : goal.decreases-loop-facet
decreases-loop-facet l = length l.left

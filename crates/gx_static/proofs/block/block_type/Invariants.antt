use Rattle.std.proofs.Common.{◌≡◌, length}
use Rattle.gx_static.specs.Rule.{allows_clause, allows_key, returned_rule, clauses_rule, block_rule}
use Rattle.gx_static.proofs.block.block_type.Given as goal

-- what is left of the clauses and of the types is ruled as all of them are
abbrev pub invariant-loop-clause : goal.invariant-loop-clause
invariant-loop-clause l = clauses_rule (allows_clause l.schemas) l.rest l.number (returned_rule (allows_key l.schemas) l.keys l.tuples) l.left ≡ block_rule l.schemas l.clauses l.keys l.types

abbrev pub decreases-loop-clause : goal.decreases-loop-clause
decreases-loop-clause l = length l.rest

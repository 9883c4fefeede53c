use Rattle.std.proofs.Common.{◌≡◌, length}
use Rattle.gx_schema.specs.FirstFound.{earlier_found}
use Rattle.gx_schema.specs.Occurrences.{broken_from}
use Rattle.gx_schema.proofs.occurrences.broken_rule.Given as goal

-- what was found, and what is left
abbrev pub invariant-loop-document : goal.invariant-loop-document
invariant-loop-document l = earlier_found l.found (broken_from l.rule l.file l.left) ≡ broken_from l.rule 0 l.fn.documents

abbrev pub decreases-loop-document : goal.decreases-loop-document
decreases-loop-document l = length l.left

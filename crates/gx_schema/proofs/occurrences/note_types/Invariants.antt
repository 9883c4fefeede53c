use Rattle.std.proofs.Common.{◌≡◌, length}
use Rattle.gx_schema.specs.FirstFound.{earlier_found, first_found}
use Rattle.gx_schema.specs.Occurrences.{broken_in_type}
use Rattle.gx_schema.proofs.occurrences.note_types.Given as goal

-- what was found, and what is left
abbrev pub invariant-loop-declaration : goal.invariant-loop-declaration
invariant-loop-declaration l = earlier_found l.found (first_found (broken_in_type l.rule l.file) l.left) ≡ earlier_found l.fn.found (first_found (broken_in_type l.rule l.file) l.fn.types)

abbrev pub decreases-loop-declaration : goal.decreases-loop-declaration
decreases-loop-declaration l = length l.left

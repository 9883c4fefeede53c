use Rattle.std.proofs.Common.{◌≡◌, length, map}
use Rattle.gx_schema_syntax.specs.Parts.{slot_among}
use Rattle.gx_schema_syntax.specs.PartView.{part_row}
use Rattle.gx_schema_syntax.proofs.parts.slot_among.Given as goal

-- what is left decides
abbrev pub invariant-loop-row : goal.invariant-loop-row
invariant-loop-row l = slot_among (map part_row l.left) l.local ≡ slot_among (map part_row l.fn.rows) l.local

abbrev pub decreases-loop-row : goal.decreases-loop-row
decreases-loop-row l = length l.left

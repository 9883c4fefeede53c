use Rattle.std.proofs.Common.{◌≡◌, length, map}
use Rattle.gx_schema_syntax.specs.Attributes.{form_among}
use Rattle.gx_schema_syntax.specs.AttributeView.{attribute_row}
use Rattle.gx_schema_syntax.proofs.attributes.form_among.Given as goal

-- what is left decides
abbrev pub invariant-loop-row : goal.invariant-loop-row
invariant-loop-row l = form_among (map attribute_row l.left) l.local ≡ form_among (map attribute_row l.fn.rows) l.local

abbrev pub decreases-loop-row : goal.decreases-loop-row
decreases-loop-row l = length l.left

use Rattle.std.proofs.Common.{◌≡◌, length, map}
use Rattle.gx_qnames.specs.Builtins.{builtin_among}
use Rattle.gx_qnames.specs.BuiltinView.{builtin_row_of}
use Rattle.gx_qnames.proofs.reference.builtin_among.Given as goal

-- what is left decides
abbrev pub invariant-loop-row : goal.invariant-loop-row
invariant-loop-row l = builtin_among (map builtin_row_of l.left) l.local ≡ builtin_among (map builtin_row_of l.fn.rows) l.local

abbrev pub decreases-loop-row : goal.decreases-loop-row
decreases-loop-row l = length l.left

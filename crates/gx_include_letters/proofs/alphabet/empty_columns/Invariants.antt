use Rattle.std.proofs.Common.{◌+◌, []}
use Rattle.gx_include_letters.specs.Alphabet.{AreColumns}
use Rattle.gx_include_letters.proofs.alphabet.empty_columns.Given as goal

abbrev pub invariant-loop-place : goal.invariant-loop-place
invariant-loop-place l = AreColumns (l._place + 1) (λ place. []) l.columns.items

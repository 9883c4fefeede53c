use Rattle.std.proofs.Common.{◌+◌, length, take}
use Rattle.gx_include_letters.specs.Alphabet.{entries_over, AreColumns}
use Rattle.gx_include_letters.proofs.alphabet.columns_over.Given as goal

abbrev pub invariant-loop-shape : goal.invariant-loop-shape
invariant-loop-shape l = AreColumns (length l.left + 1) (entries_over l.schemas l.left l.right (take l.shape-index l.shapes)) l.columns.items

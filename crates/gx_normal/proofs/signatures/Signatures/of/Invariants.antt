use Rattle.std.proofs.Common.{◌≡◌, ◌++◌, [], length}
use Rattle.gx_normal.specs.Signatures.{numbers_written, signatures_written}
use Rattle.gx_normal.proofs.signatures.Signatures.of.Given as goal

abbrev pub invariant-loop-declaration : goal.invariant-loop-declaration
invariant-loop-declaration l = record {
  numbers : numbers_written l.number l.left l.numbers ≡ numbers_written 0 l.fn.declarations [];
  list : l.list.items ++ signatures_written l.number l.left ≡ signatures_written 0 l.fn.declarations;
}

abbrev pub decreases-loop-declaration : goal.decreases-loop-declaration
decreases-loop-declaration l = length l.left

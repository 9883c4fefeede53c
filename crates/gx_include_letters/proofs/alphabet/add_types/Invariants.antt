use Rattle.std.proofs.Common.{◌≡◌, ◌++◌, take}
use Rattle.gx_include_letters.proofs.alphabet.add_types.Given as goal

abbrev pub invariant-loop-t : goal.invariant-loop-t
invariant-loop-t l = l.types.items ≡ l.fn.types.items ++ take l.t-index l.more

use Rattle.std.proofs.Common.{◌≡◌, length}
use Rattle.gx_types.specs.BaseChain.{base_chain, end_of_chain}
use Rattle.gx_types.proofs.simple_type.bottom.Given as goal

-- the chain ends where that of the type does
abbrev pub invariant-loop-declared : goal.invariant-loop-declared
invariant-loop-declared l = end_of_chain (base_chain l.types l.end) l.end ≡ end_of_chain (base_chain l.types l.fn.t) l.fn.t

abbrev pub decreases-loop-declared : goal.decreases-loop-declared
decreases-loop-declared l = length (base_chain l.types l.end)

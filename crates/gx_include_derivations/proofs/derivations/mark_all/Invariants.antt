use Rattle.std.proofs.Common.{true}
use Rattle.gx_include_derivations.proofs.Asked.{AreMarkedBelow}
use Rattle.gx_include_derivations.proofs.derivations.mark_all.Given as goal

abbrev pub invariant-loop-number : goal.invariant-loop-number
invariant-loop-number l = AreMarkedBelow l.fn.flags.items l.flags.items (λ n. true) l.number

use Rattle.gx_include_derivations.specs.Derivations.{is_derived_at}
use Rattle.gx_include_derivations.proofs.Asked.{AreMarkedBelow}
use Rattle.gx_include_derivations.proofs.derivations.Derivations.mark_derived.Given as goal

abbrev pub invariant-loop-number : goal.invariant-loop-number
invariant-loop-number l = AreMarkedBelow l.fn.flags.items l.flags.items (λ n. is_derived_at l.self l.kind n) l.number

use Rattle.std.proofs.Common.{Result, ap, sym, subst}
use Rattle.gx_facets.specs.declared.Atomic.{Atomic}
use Rattle.gx_atomic.specs.declared.casting.CastError.{CastError}
use Rattle.gx_atomic.specs.Cast.{cast_of}
use Rattle.gx_core.specs.Casting.{cast_outcome}
use Rattle.gx_machine.specs.declared.failure.Failure.{Failure}
use Rattle.gx_machine.specs.Failing.{FailsSo}
use Rattle.gx_machine.proofs.Operands.{failed_cast}
use Rattle.gx_machine.proofs.single.cast_of_atom.Goals as goal

pub returns-in-Ok-clause-value : goal.returns-in-Ok-clause-value
returns-in-Ok-clause-value c = λ forest. ap (λ (r : Result Atomic CastError). cast_outcome r forest) c.in-Ok.ensures

pub returns-in-Err-clause-failed : goal.returns-in-Err-clause-failed
returns-in-Err-clause-failed c = λ forest.
    subst (λ (f : Failure). FailsSo f (cast_outcome (cast_of c.args.schemas.now c.args.value.now c.args.kind.now) forest)) (sym c.cast_failure.ensures)
    (failed_cast c.in-Err.error (cast_of c.args.schemas.now c.args.value.now c.args.kind.now) forest c.in-Err.ensures)

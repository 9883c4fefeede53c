use Rattle.std.proofs.Common.{[], ◌∷◌, ap, sym}
use Rattle.gx_facets.specs.declared.Atomic.{Atomic}
use Rattle.gx_model.specs.Item.{atom}
use Rattle.gx_core.specs.Outcome.{gives}
use Rattle.gx_machine.proofs.single.castability.Goals as goal

pub returns-in-Ok-clause-value : goal.returns-in-Ok-clause-value
returns-in-Ok-clause-value c = λ optional forest later.
    rw c.in-Atom.is (ap (λ (a : Atomic). gives (atom a ∷ []) forest) (sym c.in-Ok.ensures.value))

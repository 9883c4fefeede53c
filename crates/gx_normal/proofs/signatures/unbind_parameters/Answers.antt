use Rattle.std.proofs.Common.{drop, ap, ◌∙◌, sym}
use Rattle.gx_normal.specs.Clauses.{Numbers}
use Rattle.gx_normal.proofs.ParameterScopes.{drop_next}
use Rattle.gx_normal.proofs.signatures.unbind_parameters.Goals as goal

pub loop-preserved : goal.loop-preserved
loop-preserved c =
    c.in_ok-unbind.ensures ∙ ap (λ (l : Numbers). drop 1 l) c.loop.invariant ∙ sym (drop_next c.loop.counter c.args.numbers)

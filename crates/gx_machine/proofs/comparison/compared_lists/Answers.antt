use Rattle.std.proofs.Common.{◌≡◌, ◌∷◌, [], Some, None, Ok, Err, ◌∙◌, sym, ap, subst}
use Rattle.gx_facets.specs.declared.Atomic.{Atomic}
use Rattle.gx_atomic.specs.Comparison.{Decision, general_comparison}
use Rattle.gx_model.specs.Item.{Items, atom}
use Rattle.gx_core.specs.Outcome.{Outcome, gives}
use Rattle.gx_core.specs.Comparing.{decided, cast_failure}
use Rattle.gx_machine.specs.declared.failure.Failure.{Failure}
use Rattle.gx_machine.specs.Failing.{FailsSo}
use Rattle.gx_machine.proofs.Operands.{general_is, failing_cast}
use Rattle.gx_machine.proofs.comparison.compared_lists.Goals as goal

pub returns-in-Some-Ok-clause-value : goal.returns-in-Some-Ok-clause-value
returns-in-Some-Ok-clause-value c = λ forest.
    let d : general_comparison c.args.op c.args.left.now c.args.right.now ≡ Some (Ok c.in-Some-Ok.truth) = cc in
    general_is c.args.op c.args.left.now c.args.right.now forest ∙ ap (λ (d : Decision). decided d forest) d ∙ ap (λ (a : Atomic). gives (atom a ∷ []) forest) (sym c.truth_atom.ensures)

pub returns-in-Some-Err-clause-failed : goal.returns-in-Some-Err-clause-failed
returns-in-Some-Err-clause-failed c = λ forest.
    let d : general_comparison c.args.op c.args.left.now c.args.right.now ≡ Some (Err c.in-Some-Err.error) = cc in
    subst (λ (o : Outcome Items). FailsSo c.cast_failure.result o)
    (sym (general_is c.args.op c.args.left.now c.args.right.now forest ∙ ap (λ (d : Decision). decided d forest) d))
    (subst (λ (f : Failure). FailsSo f (cast_failure c.in-Some-Err.error)) (sym c.cast_failure.ensures) (failing_cast c.in-Some-Err.error))

pub returns-in-None-clause-failed : goal.returns-in-None-clause-failed
returns-in-None-clause-failed c = λ forest.
    let d : general_comparison c.args.op c.args.left.now c.args.right.now ≡ None = cc in
    general_is c.args.op c.args.left.now c.args.right.now forest ∙ ap (λ (d : Decision). decided d forest) d

use Rattle.std.proofs.Common.{Bool, ap, sym, ◌∙◌, ◌∷◌, []}
use Rattle.gx_facets.specs.declared.Atomic.{Atomic}
use Rattle.gx_funcs.specs.Function.{truth_atom}
use Rattle.gx_model.specs.Item.{atom}
use Rattle.gx_core.specs.Outcome.{gives}
use Rattle.gx_machine.proofs.item_calling.of_two.Goals as goal

pub returns-in-SubsequenceFrom-clause-value : goal.returns-in-SubsequenceFrom-clause-value
returns-in-SubsequenceFrom-clause-value c = λ later x. rw c.in-SubsequenceFrom.is (c.subsequence_from.ensures.value c.args.store.now later)

pub returns-in-SubsequenceFrom-clause-failed : goal.returns-in-SubsequenceFrom-clause-failed
returns-in-SubsequenceFrom-clause-failed c = λ later x. rw c.in-SubsequenceFrom.is (c.subsequence_from.ensures.failed c.args.store.now later)

pub returns-in-Remove-clause-value : goal.returns-in-Remove-clause-value
returns-in-Remove-clause-value c = λ later x. rw c.in-Remove.is (c.remove.ensures.value c.args.store.now later)

pub returns-in-Remove-clause-failed : goal.returns-in-Remove-clause-failed
returns-in-Remove-clause-failed c = λ later x. rw c.in-Remove.is (c.remove.ensures.failed c.args.store.now later)

pub returns-in-DeepEqual-clause-value : goal.returns-in-DeepEqual-clause-value
returns-in-DeepEqual-clause-value c = λ later x.
    rw c.in-DeepEqual.is
    (ap (λ (a : Atomic). gives (atom a ∷ []) c.args.store.now) (ap truth_atom (sym (c.are_deep_equal.ensures later x)) ∙ sym c.truth_atom.ensures))

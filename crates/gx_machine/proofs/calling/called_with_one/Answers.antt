use Rattle.std.proofs.Common.{sym, ◌∙◌}
use Rattle.gx_store.specs.Items.{items_in}
use Rattle.gx_machine.proofs.Operands.{contrary_called, no_contrary, string_called, no_string}
use Rattle.gx_machine.proofs.calling.called_with_one.Goals as goal

pub returns-in-Boolean-clause-value : goal.returns-in-Boolean-clause-value
returns-in-Boolean-clause-value c = λ later x. rw c.in-Boolean.is (c.boolean_answer.ensures.value c.args.schemas.now c.args.store.now later)

pub returns-in-Boolean-clause-failed : goal.returns-in-Boolean-clause-failed
returns-in-Boolean-clause-failed c = λ later x. rw c.in-Boolean.is (c.boolean_answer.ensures.failed c.args.schemas.now c.args.store.now later)

pub returns-in-Some-clause-value : goal.returns-in-Some-clause-value
returns-in-Some-clause-value c = λ later x.
    rw c.in-Not.is
    (contrary_called c.args.schemas.now c.args.store.now (items_in later c.args.argument.now) c.in-Some.truth c.truth_atom.result
    (sym (c.effective_boolean.ensures c.args.store.now later) ∙ c.in-Some.is) c.truth_atom.ensures)

pub returns-in-None-clause-failed : goal.returns-in-None-clause-failed
returns-in-None-clause-failed c = λ later x.
    rw c.in-Not.is (no_contrary c.args.schemas.now c.args.store.now (items_in later c.args.argument.now) (sym (c.effective_boolean.ensures c.args.store.now later) ∙ c.in-None.is))

pub returns-in-Some-2-clause-value : goal.returns-in-Some-2-clause-value
returns-in-Some-2-clause-value c = λ later x.
    rw c.in-String.is
    (string_called c.args.schemas.now c.args.store.now (items_in later c.args.argument.now) c.in-Some-2.text c.string_atom.result (sym (c.in_ok-text-in-String.ensures later x) ∙ c.in-Some-2.is) c.string_atom.ensures)

pub returns-in-None-2-clause-failed : goal.returns-in-None-2-clause-failed
returns-in-None-2-clause-failed c = λ later x.
    rw c.in-String.is (no_string c.args.schemas.now c.args.store.now (items_in later c.args.argument.now) (sym (c.in_ok-text-in-String.ensures later x) ∙ c.in-None-2.is))

pub returns-in-OfTexts-clause-value : goal.returns-in-OfTexts-clause-value
returns-in-OfTexts-clause-value c = λ later x. rw c.in-OfTexts.is (c.called_with_text.ensures.value later x)

pub returns-in-OfTexts-clause-failed : goal.returns-in-OfTexts-clause-failed
returns-in-OfTexts-clause-failed c = λ later x. rw c.in-OfTexts.is (c.called_with_text.ensures.failed later x)

pub returns-in-OfValues-clause-value : goal.returns-in-OfValues-clause-value
returns-in-OfValues-clause-value c = λ later x. rw c.in-OfValues.is (c.called_with_value.ensures.value later x)

pub returns-in-OfValues-clause-failed : goal.returns-in-OfValues-clause-failed
returns-in-OfValues-clause-failed c = λ later x. rw c.in-OfValues.is (c.called_with_value.ensures.failed later x)

pub returns-in-OfItems-clause-value : goal.returns-in-OfItems-clause-value
returns-in-OfItems-clause-value c = λ later x. rw c.in-OfItems.is (c.called_with_item.ensures.value c.args.schemas.now later x)

pub returns-in-OfItems-clause-failed : goal.returns-in-OfItems-clause-failed
returns-in-OfItems-clause-failed c = λ later x. rw c.in-OfItems.is (c.called_with_item.ensures.failed c.args.schemas.now later x)

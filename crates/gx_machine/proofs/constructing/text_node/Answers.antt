use Rattle.std.proofs.Common.{List, Some, ap, sym, ◌∙◌}
use Rattle.std.proofs.lemmas.Result.{err_from_is_err_and}
use Rattle.gx_facets.specs.declared.Atomic.{Atomic}
use Rattle.gx_core.specs.Constructing.{text_outcome}
use Rattle.gx_machine.proofs.MadeTrees.{no_text_value, text_value, text_grows}
use Rattle.gx_machine.proofs.constructing.text_node.Goals as goal

pub returns-in_err-typed-clause-failed : goal.returns-in_err-typed-clause-failed
returns-in_err-typed-clause-failed c = λ later x.
    let p = err_from_is_err_and c.from_residual.result c.from_residual.ensures.1 in
    rw (p.1, p.2) (c.in_err-typed.ensures.failed later (λ values. text_outcome values c.args.store.now) x)

pub returns-then-is_empty-clause-value : goal.returns-then-is_empty-clause-value
returns-then-is_empty-clause-value c = λ later x.
    no_text_value c.args.schemas.now c.args.content.now c.as_slice-values.result.now c.args.store.now later c.is_empty.result
    (λ f y. c.in_ok-typed.ensures.value f y ∙ ap (λ (values : List Atomic). Some values) (sym c.as_slice-values.ensures.value)) c.is_empty.ensures c.if-is_empty.true x

pub returns-clause-grows : goal.returns-clause-grows
returns-clause-grows c =
    text_grows c.args.schemas.now c.args.content.now c.as_slice-values.result.now c.in_ok-text.text c.args.store.now c.text.new.store c.in_ok-node.node.number c.is_empty.result
    (λ f y. c.in_ok-typed.ensures.value f y ∙ ap (λ (values : List Atomic). Some values) (sym c.as_slice-values.ensures.value)) c.is_empty.ensures c.if-is_empty.false c.in_ok-text.ensures c.in_ok-node.ensures.made c.in_ok-node.ensures.root

pub returns-clause-value : goal.returns-clause-value
returns-clause-value c = λ later x.
    text_value c.args.schemas.now c.args.content.now c.as_slice-values.result.now c.in_ok-text.text c.args.store.now c.text.new.store later c.in_ok-node.node.number c.is_empty.result
    (λ f y. c.in_ok-typed.ensures.value f y ∙ ap (λ (values : List Atomic). Some values) (sym c.as_slice-values.ensures.value)) c.is_empty.ensures c.if-is_empty.false c.in_ok-text.ensures c.in_ok-node.ensures.made c.in_ok-node.ensures.root x

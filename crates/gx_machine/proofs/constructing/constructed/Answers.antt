use Rattle.std.proofs.Common.{◌≡◌, ◌∷◌, [], List, length, arith, ap, sym, ◌∙◌, subst}
use Rattle.std.specs.Prelude.{IfOk, IfErr}
use Rattle.std.proofs.lemmas.Result.{err_from_is_err_and}
use Rattle.gx_model.specs.Forest.{Forest}
use Rattle.gx_model.specs.Growth.{Extends}
use Rattle.gx_model.specs.Item.{Items}
use Rattle.gx_core.specs.Constructing.{document_built, constructor_outcome}
use Rattle.gx_core.specs.declared.constructor.Constructor.TheVariants as constructors
use Rattle.gx_core.specs.Outcome.{gives}
use Rattle.gx_store.specs.declared.item.Item.{Item}
use Rattle.gx_store.specs.Items.{items_in}
use Rattle.gx_build.specs.Parts.{parts_in}
use Rattle.gx_machine.specs.BuildFailures.{failure_of}
use Rattle.gx_machine.specs.Failing.{FailsSo}
use Rattle.gx_machine.specs.MadeNodes.{node_items}
use Rattle.gx_machine.proofs.Operands.{the_single}
use Rattle.gx_machine.proofs.MadeTrees.{refused_fails, element_value, element_grows, attribute_value, attribute_grows, document_value, document_grows}
use Rattle.gx_machine.proofs.constructing.constructed.Goals as goal

pub returns-in_ok-node-in-Element-clause-grows : goal.returns-in_ok-node-in-Element-clause-grows
returns-in_ok-node-in-Element-clause-grows c =
    element_grows c.args.schemas.now c.in-Element.name c.args.parts.now c.args.store.now c.element.new.store c.in_ok-node-in-Element.node.number c.in_ok-node-in-Element.ensures.made

pub returns-in_ok-node-in-Element-clause-value : goal.returns-in_ok-node-in-Element-clause-value
returns-in_ok-node-in-Element-clause-value c = λ later x.
    rw c.in-Element.is
    (element_value c.args.schemas.now c.in-Element.name c.args.parts.now c.args.store.now c.element.new.store later c.in_ok-node-in-Element.node.number c.in_ok-node-in-Element.ensures.made x)

pub returns-in_ok-node-in-Attribute-clause-grows : goal.returns-in_ok-node-in-Attribute-clause-grows
returns-in_ok-node-in-Attribute-clause-grows c =
    attribute_grows c.args.schemas.now c.in-Attribute.name c.args.parts.now c.in_ok-value-in-Attribute.value c.args.store.now c.attribute.new.store c.in_ok-node-in-Attribute.node.number c.in_ok-value-in-Attribute.ensures.value
    c.in_ok-node-in-Attribute.ensures.made c.in_ok-node-in-Attribute.ensures.root

pub returns-in_ok-node-in-Attribute-clause-value : goal.returns-in_ok-node-in-Attribute-clause-value
returns-in_ok-node-in-Attribute-clause-value c = λ later x.
    rw c.in-Attribute.is
    (attribute_value c.args.schemas.now c.in-Attribute.name c.args.parts.now c.in_ok-value-in-Attribute.value c.args.store.now c.attribute.new.store later c.in_ok-node-in-Attribute.node.number c.in_ok-value-in-Attribute.ensures.value
    c.in_ok-node-in-Attribute.ensures.made c.in_ok-node-in-Attribute.ensures.root x)

pub returns-in-len1-clause-value : goal.returns-in-len1-clause-value
returns-in-len1-clause-value c = λ later x.
    let l : length c.args.parts.now ≡ 1 = omega (arith, c.in-len1.len_at_least, c.in-len1.len_below) in
    let all : parts_in later c.args.parts.now ≡ items_in later c.as_slice.result.now ∷ [] =
    ap (parts_in later) (the_single c.args.parts.now c.content-item.result l c.content-item.is) ∙ ap (λ (items : List Item). items_in later items ∷ []) (sym c.as_slice.ensures.value) in
    rw c.in-Text.is
    (subst (λ (parts : List Items). IfOk c.text_node.result (λ made. constructor_outcome c.args.schemas.now constructors.Text parts c.args.store.now ≡ gives (node_items later made) c.text_node.new.store)) (sym all)
    (c.text_node.ensures.value later x))

pub returns-in-len1-clause-failed : goal.returns-in-len1-clause-failed
returns-in-len1-clause-failed c = λ later x.
    let l : length c.args.parts.now ≡ 1 = omega (arith, c.in-len1.len_at_least, c.in-len1.len_below) in
    let all : parts_in later c.args.parts.now ≡ items_in later c.as_slice.result.now ∷ [] =
    ap (parts_in later) (the_single c.args.parts.now c.content-item.result l c.content-item.is) ∙ ap (λ (items : List Item). items_in later items ∷ []) (sym c.as_slice.ensures.value) in
    rw c.in-Text.is
    (subst (λ (parts : List Items). IfErr c.text_node.result (λ e. FailsSo e (constructor_outcome c.args.schemas.now constructors.Text parts c.args.store.now))) (sym all) (c.text_node.ensures.failed later x))

pub returns-in_err-node-in-len1-parts-clause-failed : goal.returns-in_err-node-in-len1-parts-clause-failed
returns-in_err-node-in-len1-parts-clause-failed c = λ later x.
    let forest = c.args.store.now in
    let error = c.in_err-node-in-len1-parts.field-0.0 in
    let p = err_from_is_err_and c.from_residual-in_err-node-in-len1-parts.result c.from_residual-in_err-node-in-len1-parts.ensures.1 in
    let y : Extends forest later = subst (λ (f : Forest). Extends f later) c.in_err-node-in-len1-parts.ensures.kept x in
    let l : length c.args.parts.now ≡ 1 = omega (arith, c.in-len1-parts.len_at_least, c.in-len1-parts.len_below) in
    let content : List Item = c.as_slice-in-len1-parts.result.now in
    let all : parts_in later c.args.parts.now ≡ items_in later content ∷ [] =
    ap (parts_in later) (the_single c.args.parts.now c.content-item-then-parts-lt2-2.result l c.content-item-then-parts-lt2-2.is)
    ∙ ap (λ (items : List Item). items_in later items ∷ []) (sym c.as_slice-in-len1-parts.ensures.value) in
    rw (p.1, p.2, c.in-Document.is)
    (subst (λ (parts : List Items). FailsSo (failure_of error) (constructor_outcome c.args.schemas.now constructors.Document parts forest)) (sym all)
    (refused_fails forest error (document_built (items_in later content) forest) (c.in_err-node-in-len1-parts.ensures.refused later y)))

pub returns-in_ok-node-in-len1-parts-clause-grows : goal.returns-in_ok-node-in-len1-parts-clause-grows
returns-in_ok-node-in-len1-parts-clause-grows c =
    document_grows c.args.schemas.now c.as_slice-in-len1-parts.result.now c.args.store.now c.document.new.store c.in_ok-node-in-len1-parts.node.number c.in_ok-node-in-len1-parts.ensures.made

pub returns-in_ok-node-in-len1-parts-clause-value : goal.returns-in_ok-node-in-len1-parts-clause-value
returns-in_ok-node-in-len1-parts-clause-value c = λ later x.
    let l : length c.args.parts.now ≡ 1 = omega (arith, c.in-len1-parts.len_at_least, c.in-len1-parts.len_below) in
    let content : List Item = c.as_slice-in-len1-parts.result.now in
    let all : parts_in later c.args.parts.now ≡ items_in later content ∷ [] =
    ap (parts_in later) (the_single c.args.parts.now c.content-item-then-parts-lt2-2.result l c.content-item-then-parts-lt2-2.is)
    ∙ ap (λ (items : List Item). items_in later items ∷ []) (sym c.as_slice-in-len1-parts.ensures.value) in
    rw c.in-Document.is
    (ap (λ (parts : List Items). constructor_outcome c.args.schemas.now constructors.Document parts c.args.store.now) all
    ∙ document_value c.args.schemas.now content c.args.store.now c.document.new.store later c.in_ok-node-in-len1-parts.node.number c.in_ok-node-in-len1-parts.ensures.made x)

use Rattle.std.proofs.Common.{◌≡◌, ◌∷◌, [], List, length, sym, subst, arith}
use Rattle.std.specs.Global.{Global}
use Rattle.std.specs.Prelude.{Vec, IfOk, IfErr}
use Rattle.std.proofs.lemmas.List.{nil_from_length}
use Rattle.gx_build.specs.Parts.{parts_in}
use Rattle.gx_core.specs.Calling.{called}
use Rattle.gx_core.specs.Outcome.{gives}
use Rattle.gx_store.specs.declared.item.Item.{Item}
use Rattle.gx_store.specs.Items.{items_in}
use Rattle.gx_machine.specs.Answering.{answer_items}
use Rattle.gx_machine.specs.Failing.{FailsSo}
use Rattle.gx_machine.proofs.Operands.{the_single}
use Rattle.gx_machine.proofs.calling.called_with.Goals as goal

pub returns-in-empty-clause-value : goal.returns-in-empty-clause-value
returns-in-empty-clause-value c = λ later x.
    let s = c.args.schemas.now in
    let forest = c.args.store.now in
    let none : c.args.operands.now ≡ [] = nil_from_length c.args.operands.now (omega arith) in
    subst (λ (operands : List (Vec Item Global)). IfOk c.called_with_none.result (λ r. called s c.args.function (parts_in later operands) forest ≡ gives (answer_items later r) forest)) (sym none) (c.called_with_none.ensures.value s forest later)

pub returns-in-len1-clause-value : goal.returns-in-len1-clause-value
returns-in-len1-clause-value c = λ later x.
    let s = c.args.schemas.now in
    let forest = c.args.store.now in
    let l : length c.args.operands.now ≡ 1 = omega arith in
    subst (λ (operands : List (Vec Item Global)). IfOk c.called_with_one.result (λ r. called s c.args.function (parts_in later operands) forest ≡ gives (answer_items later r) forest))
    (sym (the_single c.args.operands.now c.argument-item.result l c.argument-item.is))
    (subst (λ (items : List Item). IfOk c.called_with_one.result (λ r. called s c.args.function (items_in later items ∷ []) forest ≡ gives (answer_items later r) forest)) c.as_slice.ensures.value (c.called_with_one.ensures.value later x))

pub returns-in-len1-clause-failed : goal.returns-in-len1-clause-failed
returns-in-len1-clause-failed c = λ later x.
    let s = c.args.schemas.now in
    let forest = c.args.store.now in
    let l : length c.args.operands.now ≡ 1 = omega arith in
    subst (λ (operands : List (Vec Item Global)). IfErr c.called_with_one.result (λ e. FailsSo e (called s c.args.function (parts_in later operands) forest)))
    (sym (the_single c.args.operands.now c.argument-item.result l c.argument-item.is))
    (subst (λ (items : List Item). IfErr c.called_with_one.result (λ e. FailsSo e (called s c.args.function (items_in later items ∷ []) forest))) c.as_slice.ensures.value (c.called_with_one.ensures.failed later x))

pub returns-in-empty-clause-failed : goal.returns-in-empty-clause-failed
returns-in-empty-clause-failed c = λ later x.
    let s = c.args.schemas.now in
    let forest = c.args.store.now in
    let none : c.args.operands.now ≡ [] = nil_from_length c.args.operands.now (omega arith) in
    subst (λ (operands : List (Vec Item Global)). IfErr c.called_with_none.result (λ e. FailsSo e (called s c.args.function (parts_in later operands) forest))) (sym none) (c.called_with_none.ensures.failed s forest)

use Rattle.std.proofs.Common.{◌≡◌, ◌∷◌, [], List, length, ap, sym, subst, ◌∙◌, arith}
use Rattle.std.specs.Prelude.{IfOk, IfErr}
use Rattle.gx_model.specs.Item.{Items}
use Rattle.gx_core.specs.ItemCalling.{item_answer}
use Rattle.gx_core.specs.Outcome.{gives}
use Rattle.gx_store.specs.Items.{items_in}
use Rattle.gx_machine.specs.Answering.{answer_items}
use Rattle.gx_machine.specs.Failing.{FailsSo}
use Rattle.gx_machine.specs.ItemAnswers.{items_of_arguments}
use Rattle.gx_machine.proofs.Operands.{the_single}
use Rattle.gx_machine.proofs.ItemAnswers.{the_pair, the_three}
use Rattle.gx_machine.proofs.item_calling.answer_of.Goals as goal

pub returns-in-len1-clause-value : goal.returns-in-len1-clause-value
returns-in-len1-clause-value c = λ later x.
    let l : length c.args.arguments.now ≡ 1 = omega arith in
    let is : items_of_arguments later c.args.arguments.now ≡ items_in later c.as_slice.result.now ∷ [] =
    ap (items_of_arguments later) (the_single c.args.arguments.now c.items-item.result l c.items-item.is) ∙ (λ i. sym (c.as_slice.ensures later) i ∷ []) in
    subst (λ (xs : List Items). IfOk c.of_one.result (λ r. item_answer c.args.function xs c.args.store.now ≡ gives (answer_items later r) c.args.store.now)) (sym is) (c.of_one.ensures.value later x)

pub returns-in-len1-clause-failed : goal.returns-in-len1-clause-failed
returns-in-len1-clause-failed c = λ later x.
    let l : length c.args.arguments.now ≡ 1 = omega arith in
    let is : items_of_arguments later c.args.arguments.now ≡ items_in later c.as_slice.result.now ∷ [] =
    ap (items_of_arguments later) (the_single c.args.arguments.now c.items-item.result l c.items-item.is) ∙ (λ i. sym (c.as_slice.ensures later) i ∷ []) in
    subst (λ (xs : List Items). IfErr c.of_one.result (λ e. FailsSo e (item_answer c.args.function xs c.args.store.now))) (sym is) (c.of_one.ensures.failed later x)

pub returns-in-len2-clause-value : goal.returns-in-len2-clause-value
returns-in-len2-clause-value c = λ later x.
    let l : length c.args.arguments.now ≡ 2 = omega arith in
    let is : items_of_arguments later c.args.arguments.now ≡ items_in later c.as_slice-in-len2.result.now ∷ items_in later c.as_slice-in-len2-2.result.now ∷ [] =
    ap (items_of_arguments later) (the_pair c.args.arguments.now c.first-item.result c.second-item.result l c.first-item.is c.second-item.is) ∙ (λ i. sym (c.as_slice-in-len2.ensures later) i ∷ sym (c.as_slice-in-len2-2.ensures later) i ∷ []) in
    subst (λ (xs : List Items). IfOk c.of_two.result (λ r. item_answer c.args.function xs c.args.store.now ≡ gives (answer_items later r) c.args.store.now)) (sym is) (c.of_two.ensures.value later x)

pub returns-in-len2-clause-failed : goal.returns-in-len2-clause-failed
returns-in-len2-clause-failed c = λ later x.
    let l : length c.args.arguments.now ≡ 2 = omega arith in
    let is : items_of_arguments later c.args.arguments.now ≡ items_in later c.as_slice-in-len2.result.now ∷ items_in later c.as_slice-in-len2-2.result.now ∷ [] =
    ap (items_of_arguments later) (the_pair c.args.arguments.now c.first-item.result c.second-item.result l c.first-item.is c.second-item.is) ∙ (λ i. sym (c.as_slice-in-len2.ensures later) i ∷ sym (c.as_slice-in-len2-2.ensures later) i ∷ []) in
    subst (λ (xs : List Items). IfErr c.of_two.result (λ e. FailsSo e (item_answer c.args.function xs c.args.store.now))) (sym is) (c.of_two.ensures.failed later x)

pub returns-in-len3-clause-value : goal.returns-in-len3-clause-value
returns-in-len3-clause-value c = λ later x.
    let l : length c.args.arguments.now ≡ 3 = omega arith in
    let is : items_of_arguments later c.args.arguments.now ≡ items_in later c.as_slice-in-len3.result.now ∷ items_in later c.as_slice-in-len3-2.result.now ∷ items_in later c.as_slice-in-len3-3.result.now ∷ [] =
    ap (items_of_arguments later) (the_three c.args.arguments.now c.first-item-then-arguments-lt4.result c.second-item-then-arguments-lt4.result c.third-item.result l c.first-item-then-arguments-lt4.is c.second-item-then-arguments-lt4.is c.third-item.is) ∙ (λ i. sym (c.as_slice-in-len3.ensures later) i ∷ sym (c.as_slice-in-len3-2.ensures later) i ∷ sym (c.as_slice-in-len3-3.ensures later) i ∷ []) in
    subst (λ (xs : List Items). IfOk c.of_three.result (λ r. item_answer c.args.function xs c.args.store.now ≡ gives (answer_items later r) c.args.store.now)) (sym is) (c.of_three.ensures.value c.args.store.now later)

pub returns-in-len3-clause-failed : goal.returns-in-len3-clause-failed
returns-in-len3-clause-failed c = λ later x.
    let l : length c.args.arguments.now ≡ 3 = omega arith in
    let is : items_of_arguments later c.args.arguments.now ≡ items_in later c.as_slice-in-len3.result.now ∷ items_in later c.as_slice-in-len3-2.result.now ∷ items_in later c.as_slice-in-len3-3.result.now ∷ [] =
    ap (items_of_arguments later) (the_three c.args.arguments.now c.first-item-then-arguments-lt4.result c.second-item-then-arguments-lt4.result c.third-item.result l c.first-item-then-arguments-lt4.is c.second-item-then-arguments-lt4.is c.third-item.is) ∙ (λ i. sym (c.as_slice-in-len3.ensures later) i ∷ sym (c.as_slice-in-len3-2.ensures later) i ∷ sym (c.as_slice-in-len3-3.ensures later) i ∷ []) in
    subst (λ (xs : List Items). IfErr c.of_three.result (λ e. FailsSo e (item_answer c.args.function xs c.args.store.now))) (sym is) (c.of_three.ensures.failed c.args.store.now later)

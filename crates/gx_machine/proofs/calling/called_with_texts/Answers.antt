use Rattle.std.proofs.Common.{◌≡◌, ◌++◌, ◌∷◌, [], List, Option, Some, append-nil, refl, ap, sym, subst, ◌∙◌, rules}
use Rattle.std.specs.Global.{Global}
use Rattle.std.specs.Prelude.{Vec, IfOk, IfErr, option_map}
use Rattle.std.proofs.lemmas.List.{nil_from_length}
use Rattle.std.proofs.lemmas.Result.{err_from_is_err_and}
use Rattle.gx_funcs.specs.Texts.{Text, texts_of, text_answer}
use Rattle.gx_build.specs.Parts.{parts_in}
use Rattle.gx_core.specs.Calling.{argument_texts, texts_behind, all_argument_texts}
use Rattle.gx_core.specs.Outcome.{Outcome, gives, given}
use Rattle.gx_model.specs.Item.{Items}
use Rattle.gx_store.specs.declared.item.Item.{Item}
use Rattle.gx_store.specs.Items.{items_in}
use Rattle.gx_machine.specs.Answering.{answer_items, answer_found}
use Rattle.gx_machine.specs.Failing.{FailsSo}
use Rattle.gx_machine.proofs.ArgumentTexts.{argument_fails}
use Rattle.gx_machine.proofs.calling.called_with_texts.Goals as goal

pub returns-in_err-argument_texts-clause-failed : goal.returns-in_err-argument_texts-clause-failed
returns-in_err-argument_texts-clause-failed c = λ later x.
    let s = c.args.schemas.now in
    let forest = c.args.store.now in
    let done : List (List Text) = texts_of c.loop-operand.arguments.items in
    let others : Option (List (List Text)) = all_argument_texts s forest (parts_in later c.in-Some.others.now) in
    let answered : List (List Text) → Outcome Items = λ all. answer_found (text_answer c.args.function all) forest in
    let left : c.loop-operand.left.now ≡ c.in-Some.operand.now ∷ c.in-Some.others.now = search rules in
    let fails : (then : List Text → Outcome Items) → FailsSo c.in_err-argument_texts.field-0.0 (given (argument_texts s forest (items_in later c.in-Some.operand.now.items)) then) =
    λ then. subst (λ (items : List Item). FailsSo c.in_err-argument_texts.field-0.0 (given (argument_texts s forest (items_in later items)) then)) c.as_slice.ensures.value (c.in_err-argument_texts.ensures.failed later x then) in
    let whole : option_map (λ (more : List (List Text)). done ++ more) (texts_behind (argument_texts s forest (items_in later c.in-Some.operand.now.items)) others) ≡ all_argument_texts s forest (parts_in later c.args.operands.now) =
    ap (λ (operands : List (Vec Item Global)). option_map (λ (more : List (List Text)). done ++ more) (all_argument_texts s forest (parts_in later operands))) (sym left) ∙ c.loop-operand.invariant later x in
    let p = err_from_is_err_and c.from_residual-in_err-argument_texts.result c.from_residual-in_err-argument_texts.ensures.1 in
    rw (p.1, p.2)
    (subst (λ (o : Option (List (List Text))). FailsSo c.in_err-argument_texts.field-0.0 (given o answered)) whole
    (argument_fails c.in_err-argument_texts.field-0.0 (argument_texts s forest (items_in later c.in-Some.operand.now.items))
    (λ texts. given (option_map (λ (more : List (List Text)). done ++ more) (texts_behind texts others)) answered) refl fails))

pub returns-clause-value : goal.returns-clause-value
returns-clause-value c = λ later x.
    let s = c.args.schemas.now in
    let forest = c.args.store.now in
    let none : c.loop-operand.left.now ≡ [] = nil_from_length c.loop-operand.left.now c.in_default.ensures.cases in
    let is : all_argument_texts s forest (parts_in later c.args.operands.now) ≡ Some (texts_of c.as_slice-2.result.now) =
    sym (c.loop-operand.invariant later x)
    ∙ ap (λ (left : List (Vec Item Global)). option_map (λ (more : List (List Text)). texts_of c.loop-operand.arguments.items ++ more) (all_argument_texts s forest (parts_in later left))) none
    ∙ ap (λ (all : List (List Text)). Some all) (append-nil (texts_of c.loop-operand.arguments.items))
    ∙ ap (λ l. Some (texts_of l)) (sym c.as_slice-2.ensures.value) in
    subst (λ (o : Option (List (List Text))). IfOk c.text_answer.result (λ r. given o (λ all. answer_found (text_answer c.args.function all) forest) ≡ gives (answer_items later r) forest)) (sym is) (c.text_answer.ensures.value forest later)

pub returns-clause-failed : goal.returns-clause-failed
returns-clause-failed c = λ later x.
    let s = c.args.schemas.now in
    let forest = c.args.store.now in
    let none : c.loop-operand.left.now ≡ [] = nil_from_length c.loop-operand.left.now c.in_default.ensures.cases in
    let is : all_argument_texts s forest (parts_in later c.args.operands.now) ≡ Some (texts_of c.as_slice-2.result.now) =
    sym (c.loop-operand.invariant later x)
    ∙ ap (λ (left : List (Vec Item Global)). option_map (λ (more : List (List Text)). texts_of c.loop-operand.arguments.items ++ more) (all_argument_texts s forest (parts_in later left))) none
    ∙ ap (λ (all : List (List Text)). Some all) (append-nil (texts_of c.loop-operand.arguments.items))
    ∙ ap (λ l. Some (texts_of l)) (sym c.as_slice-2.ensures.value) in
    subst (λ (o : Option (List (List Text))). IfErr c.text_answer.result (λ e. FailsSo e (given o (λ all. answer_found (text_answer c.args.function all) forest)))) (sym is) (c.text_answer.ensures.failed forest)

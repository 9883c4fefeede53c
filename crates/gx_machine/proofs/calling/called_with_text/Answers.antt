use Rattle.std.proofs.Common.{◌≡◌, ◌++◌, ◌∷◌, [], List, Option, Some, refl, ap, sym, subst, ◌∙◌}
use Rattle.std.specs.Global.{Global}
use Rattle.std.specs.Prelude.{Vec, IfOk, IfErr}
use Rattle.std.proofs.lemmas.Result.{err_from_is_err_and}
use Rattle.gx_base.specs.declared.text.Text.{Text as DeclaredText}
use Rattle.gx_funcs.specs.Texts.{Text, texts_of, text_answer}
use Rattle.gx_core.specs.Calling.{argument_texts, texts_behind, all_argument_texts}
use Rattle.gx_core.specs.Outcome.{gives, given}
use Rattle.gx_store.specs.Items.{items_in}
use Rattle.gx_machine.specs.Answering.{answer_items, answer_found}
use Rattle.gx_machine.specs.Failing.{FailsSo}
use Rattle.gx_machine.proofs.ArgumentTexts.{argument_fails, only_texts}
use Rattle.gx_machine.proofs.calling.called_with_text.Goals as goal

pub returns-in_err-texts-clause-failed : goal.returns-in_err-texts-clause-failed
returns-in_err-texts-clause-failed c = λ later x.
    let forest = c.args.store.now in
    let p = err_from_is_err_and c.from_residual.result c.from_residual.ensures.1 in
    rw (p.1, p.2)
    (argument_fails c.in_err-texts.field-0.0 (argument_texts c.args.schemas.now forest (items_in later c.args.argument.now))
    (λ texts. given (texts_behind texts (Some [])) (λ all. answer_found (text_answer c.args.function all) forest)) refl (c.in_err-texts.ensures.failed later x))

pub returns-clause-value : goal.returns-clause-value
returns-clause-value c = λ later x.
    let s = c.args.schemas.now in
    let forest = c.args.store.now in
    let texts = c.in_ok-texts.texts in
    let items = c.as_slice.ensures.value ∙ c.in_ok-push.ensures.items ∙ ap (λ (l : List (Vec DeclaredText Global)). l ++ texts ∷ []) c.in_ok-arguments.ensures.items in
    let is : all_argument_texts s forest (items_in later c.args.argument.now ∷ []) ≡ Some (texts_of c.as_slice.result.now) =
    ap (λ (o : Option (List Text)). texts_behind o (Some [])) (c.in_ok-texts.ensures.value later x) ∙ only_texts texts c.as_slice.result.now items in
    subst (λ (o : Option (List (List Text))). IfOk c.text_answer.result (λ r. given o (λ all. answer_found (text_answer c.args.function all) forest) ≡ gives (answer_items later r) forest)) (sym is) (c.text_answer.ensures.value forest later)

pub returns-clause-failed : goal.returns-clause-failed
returns-clause-failed c = λ later x.
    let s = c.args.schemas.now in
    let forest = c.args.store.now in
    let texts = c.in_ok-texts.texts in
    let items = c.as_slice.ensures.value ∙ c.in_ok-push.ensures.items ∙ ap (λ (l : List (Vec DeclaredText Global)). l ++ texts ∷ []) c.in_ok-arguments.ensures.items in
    let is : all_argument_texts s forest (items_in later c.args.argument.now ∷ []) ≡ Some (texts_of c.as_slice.result.now) =
    ap (λ (o : Option (List Text)). texts_behind o (Some [])) (c.in_ok-texts.ensures.value later x) ∙ only_texts texts c.as_slice.result.now items in
    subst (λ (o : Option (List (List Text))). IfErr c.text_answer.result (λ e. FailsSo e (given o (λ all. answer_found (text_answer c.args.function all) forest)))) (sym is) (c.text_answer.ensures.failed forest)

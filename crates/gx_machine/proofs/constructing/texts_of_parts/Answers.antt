use Rattle.std.proofs.Common.{◌≡◌, ◌+◌, ℕ, List, drop, append-nil, Option, Some, ap, sym, ◌∙◌}
use Rattle.std.specs.Global.{Global}
use Rattle.std.specs.Prelude.{Vec}
use Rattle.std.proofs.lemmas.List.{drop_all}
use Rattle.std.proofs.lemmas.Result.{err_from_is_err_and}
use Rattle.gx_core.specs.Constructing.{joined_texts, text_of_part, texts_of_parts}
use Rattle.gx_store.specs.declared.item.Item.{Item}
use Rattle.gx_store.specs.Items.{items_in}
use Rattle.gx_build.specs.Parts.{parts_in}
use Rattle.gx_build.proofs.ItemLemmas.{dropped}
use Rattle.gx_machine.proofs.MadeTrees.{one_more_text, part_fails}
use Rattle.gx_machine.proofs.constructing.texts_of_parts.Goals as goal

pub loop-part-preserved : goal.loop-part-preserved
loop-part-preserved c = λ later x.
    let s = c.args.schemas.now in
    let forest = c.args.store.now in
    let old : List ℕ = c.loop-part.text in
    let item = c.part-item.result in
    let i : ℕ = c.loop-part.part-index in
    one_more_text old c.push_part.new.text (text_of_part s forest (items_in later item.items)) (texts_of_parts s forest (parts_in later (drop (i + 1) c.args.parts.now)))
    (ap (λ (items : List Item). joined_texts (Some old) (text_of_part s forest (items_in later items))) (sym c.as_slice.ensures.value) ∙ c.in_ok-push_part.ensures.value later x)
    ∙ ap (λ (parts : List (Vec Item Global)). joined_texts (Some old) (texts_of_parts s forest (parts_in later parts))) (sym (dropped c.args.parts.now i item c.loop-part-test.true c.part-item.is))
    ∙ c.loop-part.invariant later x

pub returns-in_err-push_part-clause-failed : goal.returns-in_err-push_part-clause-failed
returns-in_err-push_part-clause-failed c = λ later next x.
    let s = c.args.schemas.now in
    let forest = c.args.store.now in
    let old : List ℕ = c.loop-part.text in
    let item = c.part-item.result in
    let i : ℕ = c.loop-part.part-index in
    let others : Option (List ℕ) = texts_of_parts s forest (parts_in later (drop (i + 1) c.args.parts.now)) in
    let all : joined_texts (Some old) (joined_texts (text_of_part s forest (items_in later c.as_slice.result.now)) others) ≡ texts_of_parts s forest (parts_in later c.args.parts.now) =
    ap (λ (items : List Item). joined_texts (Some old) (joined_texts (text_of_part s forest (items_in later items)) others)) c.as_slice.ensures.value
    ∙ ap (λ (parts : List (Vec Item Global)). joined_texts (Some old) (texts_of_parts s forest (parts_in later parts))) (sym (dropped c.args.parts.now i item c.loop-part-test.true c.part-item.is))
    ∙ c.loop-part.invariant later x in
    let p = err_from_is_err_and c.from_residual.result c.from_residual.ensures.1 in
    rw (p.1, p.2)
    (part_fails _ old (text_of_part s forest (items_in later c.as_slice.result.now)) others (texts_of_parts s forest (parts_in later c.args.parts.now)) next all
    (λ after'. c.in_err-push_part.ensures.failed later after' x))

pub returns-clause-value : goal.returns-clause-value
returns-clause-value c = λ later x.
    let s = c.args.schemas.now in
    let forest = c.args.store.now in
    let old : List ℕ = c.loop-part.text in
    sym (c.loop-part.invariant later x)
    ∙ ap (λ (parts : List (Vec Item Global)). joined_texts (Some old) (texts_of_parts s forest (parts_in later parts))) (drop_all c.loop-part.part-index c.args.parts.now c.loop-part-test.false)
    ∙ ap (λ (y : List ℕ). Some y) (append-nil old ∙ sym c.in_ok-finish.ensures)

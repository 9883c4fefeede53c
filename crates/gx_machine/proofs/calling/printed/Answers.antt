use Rattle.std.proofs.Common.{◌≡◌, ◌++◌, ◌∷◌, [], List, map, get_or, take, ap, sym, ◌∙◌}
use Rattle.std.proofs.lemmas.List.{take_all, map_more, map-append}
use Rattle.gx_funcs.specs.Texts.{Text}
use Rattle.gx_core.specs.Calling.{text_of_value}
use Rattle.gx_model.specs.Item.{Items}
use Rattle.gx_store.specs.declared.item.Item.{Item}
use Rattle.gx_store.specs.Items.{item_in, items_in}
use Rattle.gx_machine.proofs.calling.printed.Goals as goal

pub loop-value-preserved : goal.loop-value-preserved
loop-value-preserved c = λ later.
    let values : List Item = c.args.values.now in
    let i = c.loop-value.value-index in
    let done : Items = items_in later (take i values) in
    let text : Text = c.in_ok-printed_item.field-0 in
    let is : text ≡ text_of_value (item_in later (get_or values i c.value-item.result)) = c.in_ok-printed_item.ensures later ∙ ap (λ (v : Item). text_of_value (item_in later v)) c.value-item.is in
    c.in_ok-push.ensures.items
    ∙ ap (λ (texts : List Text). texts ++ text ∷ []) (c.loop-value.invariant later)
    ∙ ap (λ (t : Text). map text_of_value done ++ t ∷ []) is
    ∙ sym (map-append text_of_value done (item_in later (get_or values i c.value-item.result) ∷ []))
    ∙ ap (map text_of_value) (sym (map_more (item_in later) values i c.value-item.result c.loop-value-test.true))

pub returns : goal.returns
returns c = λ later.
    c.loop-value.invariant later
    ∙ ap (λ (values : List Item). map text_of_value (items_in later values)) (take_all c.loop-value.value-index c.args.values.now c.loop-value-test.false)

use Rattle.std.proofs.Common.{◌++◌, ◌∷◌, [], List, ap, sym, ◌∙◌, append-nil}
use Rattle.std.proofs.lemmas.List.{map-append, nil_from_length}
use Rattle.std.proofs.lemmas.Result.{err_from_is_err_and}
use Rattle.gx_model.specs.Item.{Items}
use Rattle.gx_core.specs.Converting.{items_converted}
use Rattle.gx_core.specs.Outcome.{gives, after}
use Rattle.gx_store.specs.declared.item.Item.{Item}
use Rattle.gx_store.specs.Items.{item_in, items_in}
use Rattle.gx_machine.proofs.Conversions.{one_converted, item_fails}
use Rattle.gx_machine.proofs.Resuming.{fails_also}
use Rattle.gx_machine.proofs.converting.untyped_cast.Goals as goal

pub loop-item-preserved : goal.loop-item-preserved
loop-item-preserved c = λ forest later.
    let s = c.args.schemas.now in
    let kind = c.args.kind.now in
    let others : Items = items_in later c.in-Some.others.now in
    let done : Items = items_in later c.loop-item.found.items in
    let y : Item = c.in_ok-converted_item.field-0 in
    ap (λ (found : List Item). after (items_converted s kind others forest) (λ values left. gives (items_in later found ++ values) left)) c.in_ok-push.ensures.items
    ∙ ap (λ (found : Items). after (items_converted s kind others forest) (λ values left. gives (found ++ values) left)) (map-append (item_in later) c.loop-item.found.items (y ∷ []))
    ∙ one_converted s kind (item_in later c.in-Some.item.now) (item_in later y) others done forest (c.in_ok-converted_item.ensures.value forest later)
    ∙ ap (λ (rest : List Item). after (items_converted s kind (items_in later rest) forest) (λ values left. gives (done ++ values) left)) (sym c.in-Some.ensures.cases.0)
    ∙ c.loop-item.invariant forest later

pub returns-in_err-converted_item-clause-failed : goal.returns-in_err-converted_item-clause-failed
returns-in_err-converted_item-clause-failed c = λ forest later.
    let s = c.args.schemas.now in
    let kind = c.args.kind.now in
    let done : Items = items_in later c.loop-item.found.items in
    let p = err_from_is_err_and c.from_residual-in_err-converted_item.result c.from_residual-in_err-converted_item.ensures.1 in
    rw (p.1, p.2)
    (fails_also _ _ _
    (sym (c.loop-item.invariant forest later)
    ∙ ap (λ (rest : List Item). after (items_converted s kind (items_in later rest) forest) (λ values left. gives (done ++ values) left)) c.in-Some.ensures.cases.0)
    (item_fails s kind (item_in later c.in-Some.item.now) (items_in later c.in-Some.others.now) forest _ (λ values left. gives (done ++ values) left) (c.in_err-converted_item.ensures.failed forest later)))

pub returns-clause-value : goal.returns-clause-value
returns-clause-value c = λ forest later.
    let s = c.args.schemas.now in
    let kind = c.args.kind.now in
    let done : Items = items_in later c.loop-item.found.items in
    sym (c.loop-item.invariant forest later)
    ∙ ap (λ (rest : List Item). after (items_converted s kind (items_in later rest) forest) (λ values left. gives (done ++ values) left)) (nil_from_length c.loop-item.rest.now c.in_default.ensures.cases)
    ∙ ap (λ (v : Items). gives v forest) (append-nil done)

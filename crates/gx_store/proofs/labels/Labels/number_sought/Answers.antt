use Rattle.std.proofs.Common.{◌≡◌, List, Some, sym, ap, ◌∙◌, subst}
use Rattle.gx_store.specs.declared.labels.Label.{Label}
use Rattle.gx_store.specs.Grown.{Grows}
use Rattle.gx_store.proofs.LabelLemmas.{stored_is, put_grows, narrowed_is}
use Rattle.gx_store.proofs.labels.Labels.number_sought.Goals as goal

pub returns-clause-grows : goal.returns-clause-grows
returns-clause-grows c =
    let label : Label = record { name = c.in_ok-clone.field-0; kind = c.in_ok-clone-2.field-0 } in
    subst (λ (now : List Label). Grows c.args.self.now.labels.keys now) (sym c.in_ok-number.ensures.keys) (put_grows c.args.self.now.labels.keys label)

pub returns-clause-number : goal.returns-clause-number
returns-clause-number c =
    let label : Label = record { name = c.in_ok-clone.field-0; kind = c.in_ok-clone-2.field-0 } in
    let wanted : Label = record { name = c.args.name.now; kind = c.args.kind.now } in
    let name : c.in_ok-clone.field-0 ≡ c.args.name.now = c.in_ok-clone.ensures.cases in
    let kind : c.in_ok-clone-2.field-0 ≡ c.args.kind.now = c.in_ok-clone-2.ensures.cases in
    let same : label ≡ wanted = λ i. record { name = name i; kind = kind i } in
    narrowed_is c.insert_full.new.self.keys wanted c.in_ok-number.number c.narrow.result
    (stored_is c.insert_full.new.self.keys c.in_ok-number.number label c.in_ok-number.ensures.stored ∙ ap (λ l. Some l) same) c.narrow.ensures

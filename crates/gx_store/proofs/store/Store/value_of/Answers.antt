use Rattle.std.proofs.Common.{◌≡◌, List, Option, Some, None, sym, ap, ◌∙◌, subst}
use Rattle.std.specs.Prelude.{IfOk, MatchOption}
use Rattle.gx_facets.specs.declared.Atomic.{Atomic}
use Rattle.gx_model.specs.TypedValue.{untyped_value, value_at_type}
use Rattle.gx_nodes.specs.Entries.{entry_in}
use Rattle.gx_store.proofs.ValueLemmas.{labelled_value, plain_value}
use Rattle.gx_store.proofs.store.Store.value_of.Goals as goal

pub returns-in-Some : goal.returns-in-Some
returns-in-Some c =
    let t = (entry_in c.args.self.now c.args.node.number).tree in
    subst (λ (o : Option (List Atomic)). IfOk c.value_at_type.result (λ found. MatchOption found (o ≡ None) (λ values. o ≡ Some values.items)))
    (ap (value_at_type c.args.schemas.now c.in-Some.label.now.kind) c.requires ∙ sym (labelled_value c.args.schemas.now t c.in-Some.label.now (sym c.in-Some.ensures))) c.value_at_type.ensures

pub returns-in_ok-untyped_value-in-None : goal.returns-in_ok-untyped_value-in-None
returns-in_ok-untyped_value-in-None c =
    let t = (entry_in c.args.self.now c.args.node.number).tree in
    plain_value c.args.schemas.now t (sym c.in-None.ensures) ∙ ap untyped_value (sym c.requires) ∙ ap (λ (vs : List Atomic). Some vs) (sym c.in_ok-untyped_value-in-None.ensures)

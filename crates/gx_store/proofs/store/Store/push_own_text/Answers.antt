use Rattle.std.proofs.Common.{◌≡◌, List, ℕ, ◌++◌, sym, ap, ◌∙◌, subst}
use Rattle.std.specs.Prelude.{OnOk}
use Rattle.gx_model.proofs.ListLemmas.{append_none}
use Rattle.gx_nodes.specs.Entries.{entry_in}
use Rattle.gx_store.proofs.TextLemmas.{text_fits, no_text_past}
use Rattle.gx_store.proofs.store.Store.push_own_text.Goals as goal

pub returns-in_default : goal.returns-in_default
returns-in_default c =
    sym (append_none c.args.value.now) ∙ ap (λ (z : List ℕ). c.args.value.now ++ z) (no_text_past c.args.self.now c.args.number c.in_default.ensures)

pub returns : goal.returns
returns c =
    let fits = text_fits c.in-Some.row.now.form (entry_in c.args.self.now c.args.number).tree c.in-Some.ensures.form in
    subst (λ (z : List ℕ). OnOk c.push_text_of.result (c.push_text_of.new.value ≡ c.args.value.now ++ z)) fits c.push_text_of.ensures

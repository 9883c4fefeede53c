use Rattle.std.proofs.Common.{sym, ◌∙◌, subst}
use Rattle.std.proofs.lemmas.Bool.{true≢false, eqb-true}
use Rattle.gx_tree.specs.PlainTree.{PlainTree}
use Rattle.gx_nodes.specs.Entries.{entry_in}
use Rattle.gx_store.specs.declared.row.Form.{Form}
use Rattle.gx_store.specs.Stored.{FitsForm}
use Rattle.gx_store.proofs.AgreeingLemmas.{elements_agree}
use Rattle.gx_store.proofs.store.Store.forms_agree.Goals.{then-are_called_alike, else-are_called_alike}
use Rattle.gx_store.proofs.store.Store.forms_agree.Goals as goal

pub returns-then-own-others : goal.returns-then-own-others
returns-then-own-others c =
    let t : PlainTree = (entry_in c.args.self.now c.args.one).tree in
    let u : PlainTree = (entry_in c.args.self.now c.args.other).tree in
    let here = c.in-Element-Element in
    elim c.if-are_called_alike.branch [
      | then-are_called_alike w ↦
          elements_agree t u here.label-0 here.own here.label-1 here.others c.are_called_alike.result c.all_have_equals.result (subst (λ (f : Form). FitsForm f t) here.is-0 c.requires.form)
          (subst (λ (f : Form). FitsForm f u) here.is-1 c.requires.beside) c.are_called_alike.ensures w.if-are_called_alike.true (eqb-true here.own here.others (sym w.value-is ∙ c.if-own-others.true)) c.all_have_equals.ensures
      | else-are_called_alike w ↦ absurd (true≢false (sym c.if-own-others.true ∙ w.value-is ∙ w.if-are_called_alike.false))
    ]

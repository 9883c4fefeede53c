use Rattle.std.proofs.Common.{ap, sym, ◌∙◌}
use Rattle.std.proofs.lemmas.Result.{err_from_is_err_and}
use Rattle.std.specs.Prelude.{option_copied}
use Rattle.gx_base.specs.declared.name.Name.{Name}
use Rattle.gx_funcs.specs.Function.{string_atom}
use Rattle.gx_core.specs.ItemCalling.{string_item}
use Rattle.gx_core.specs.Outcome.{gives}
use Rattle.gx_store.specs.Items.{items_in}
use Rattle.gx_machine.specs.ItemAnswers.{text_found}
use Rattle.gx_machine.proofs.ItemAnswers.{name_answer_is}
use Rattle.gx_machine.proofs.node_calling.local_name.Goals as goal

pub returns-in_err-name-clause-failed : goal.returns-in_err-name-clause-failed
returns-in_err-name-clause-failed c = λ later x.
    let p = err_from_is_err_and c.from_residual.result c.from_residual.ensures.1 in
    rw (p.1, p.2) (c.in_err-name.ensures.failed later (λ (name : Name). name.local) (λ t. gives (string_item t) c.args.store.now) x)

pub returns-clause-value : goal.returns-clause-value
returns-clause-value c = λ later x.
    name_answer_is (λ (name : Name). name.local) c.args.store.now (items_in later c.args.items.now) (text_found (λ (name : Name). name.local) (option_copied c.in_ok-name.name)) c.string_atom.result
    (c.in_ok-name.ensures.value later (λ (name : Name). name.local) x) (c.string_atom.ensures ∙ ap string_atom c.in_ok-text.ensures)

use Rattle.std.proofs.Common.{sym, subst}
use Rattle.std.specs.Prelude.{IfOk, IfErr}
use Rattle.gx_store.specs.Items.{items_in}
use Rattle.gx_core.specs.Constructing.{Built, document_built}
use Rattle.gx_build.specs.Made.{IsMade, RefusesTree}
use Rattle.gx_build.proofs.RefusalLemmas.{still_refused}
use Rattle.gx_build.proofs.build.document.Goals as goal

pub returns-in_err-tree-clause-refused : goal.returns-in_err-tree-clause-refused
returns-in_err-tree-clause-refused c later x =
    still_refused c.from_residual.result c.in_err-tree.field-0.0 (document_built (items_in later c.args.content.now) c.args.store.now) c.from_residual.ensures.1 (c.in_err-tree.ensures.refused later x)

pub returns-clause-made : goal.returns-clause-made
returns-clause-made c later x = subst (λ (b : Built). IfOk c.load.result (λ node. IsMade c.args.store.now c.load.new.store node.number b)) (sym (c.in_ok-tree.ensures.made later x)) c.load.ensures.made

pub returns-clause-refused : goal.returns-clause-refused
returns-clause-refused c later x = subst (λ (b : Built). IfErr c.load.result (λ e. RefusesTree e b)) (sym (c.in_ok-tree.ensures.made later x)) c.load.ensures.refused

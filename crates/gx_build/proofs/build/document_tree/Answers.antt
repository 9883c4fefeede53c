use Rattle.std.proofs.Common.{◌≡◌, sym, subst}
use Rattle.std.specs.Prelude.{IfOk, IfErr}
use Rattle.gx_core.specs.Constructing.{Built, built_within, depth_limit}
use Rattle.gx_build.specs.Made.{RefusesTree}
use Rattle.gx_build.proofs.LaterLemmas.{document_is_built, no_document_built}
use Rattle.gx_build.proofs.build.document_tree.Goals as goal

pub returns-in-Some-clause-made : goal.returns-in-Some-clause-made
returns-in-Some-clause-made c later x =
    subst (λ (b : Built). IfOk c.document_of.result (λ tree. b ≡ built_within depth_limit tree))
    (sym (document_is_built c.args.store.now later c.args.content.now c.in_ok-children.field-0 c.in-Some.children x c.in-Some.is c.in_ok-children.ensures)) c.document_of.ensures.made

pub returns-in-Some-clause-refused : goal.returns-in-Some-clause-refused
returns-in-Some-clause-refused c later x =
    subst (λ (b : Built). IfErr c.document_of.result (λ e. RefusesTree e b))
    (sym (document_is_built c.args.store.now later c.args.content.now c.in_ok-children.field-0 c.in-Some.children x c.in-Some.is c.in_ok-children.ensures)) c.document_of.ensures.refused

pub returns-in-None-clause-refused : goal.returns-in-None-clause-refused
returns-in-None-clause-refused c later x = no_document_built c.args.store.now later c.args.content.now c.in_ok-children.field-0 x c.in-None.is c.in_ok-children.ensures

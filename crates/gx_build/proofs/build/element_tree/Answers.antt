use Rattle.std.proofs.Common.{◌≡◌, sym, subst}
use Rattle.std.specs.Prelude.{IfOk, IfErr}
use Rattle.gx_core.specs.Constructing.{Built, built_within, depth_limit}
use Rattle.gx_build.specs.Made.{RefusesTree}
use Rattle.gx_build.proofs.LaterLemmas.{element_built, no_element_built}
use Rattle.gx_build.proofs.build.element_tree.Goals as goal

pub returns-in-Some-clause-made : goal.returns-in-Some-clause-made
returns-in-Some-clause-made c later x =
    subst (λ (b : Built). IfOk c.element_of.result (λ tree. b ≡ built_within depth_limit tree))
    (sym (element_built c.args.name.now c.args.store.now later c.args.parts.now c.in_ok-content.field-0 c.in-Some.content x c.in-Some.is c.in_ok-content.ensures)) c.element_of.ensures.made

pub returns-in-Some-clause-refused : goal.returns-in-Some-clause-refused
returns-in-Some-clause-refused c later x =
    subst (λ (b : Built). IfErr c.element_of.result (λ e. RefusesTree e b))
    (sym (element_built c.args.name.now c.args.store.now later c.args.parts.now c.in_ok-content.field-0 c.in-Some.content x c.in-Some.is c.in_ok-content.ensures)) c.element_of.ensures.refused

pub returns-in-None-clause-refused : goal.returns-in-None-clause-refused
returns-in-None-clause-refused c later x = no_element_built c.args.name.now c.args.store.now later c.args.parts.now c.in_ok-content.field-0 x c.in-None.is c.in_ok-content.ensures

use Rattle.std.proofs.Common.{Bool, sym, ap, ◌∙◌}
use Rattle.gx_nodes.specs.Entries.{entry_in}
use Rattle.gx_model.specs.Axes.{passes, passes_there}
use Rattle.gx_model.specs.Belongs.{shape_of}
use Rattle.gx_model.specs.NodeTest.{asked, meets}
use Rattle.gx_store.proofs.StoreLemmas.{found_later, not_found_later}
use Rattle.gx_store.proofs.ValueLemmas.{extends_itself}
use Rattle.gx_store.proofs.store.Store.passes.Goals as goal

pub returns-in-Some-clause-here : goal.returns-in-Some-clause-here
returns-in-Some-clause-here c =
    let f = c.args.self.now in
    c.form_passes.ensures
    ∙ ap (λ (b : Bool). meets c.args.schemas.now (asked c.args.schemas.now b c.args.test.now) (shape_of (entry_in f c.args.node.number).tree)) c.is_attribute_axis.ensures
    ∙ sym (ap (passes_there (passes c.args.schemas.now c.args.axis c.args.test.now)) (found_later f f c.args.node.number c.in-Some.ensures.within (extends_itself f)))

pub returns-in-Some-clause-later : goal.returns-in-Some-clause-later
returns-in-Some-clause-later c later x =
    let f = c.args.self.now in
    c.form_passes.ensures
    ∙ ap (λ (b : Bool). meets c.args.schemas.now (asked c.args.schemas.now b c.args.test.now) (shape_of (entry_in f c.args.node.number).tree)) c.is_attribute_axis.ensures
    ∙ sym (ap (passes_there (passes c.args.schemas.now c.args.axis c.args.test.now)) (found_later f later c.args.node.number c.in-Some.ensures.within x))

pub returns-in-None-clause-here : goal.returns-in-None-clause-here
returns-in-None-clause-here c =
    let f = c.args.self.now in
    sym (ap (passes_there (passes c.args.schemas.now c.args.axis c.args.test.now)) (not_found_later f f c.args.node.number c.in-None.ensures (extends_itself f)))

pub returns-in-None-clause-later : goal.returns-in-None-clause-later
returns-in-None-clause-later c later x =
    sym (ap (passes_there (passes c.args.schemas.now c.args.axis c.args.test.now)) (not_found_later c.args.self.now later c.args.node.number c.in-None.ensures x))

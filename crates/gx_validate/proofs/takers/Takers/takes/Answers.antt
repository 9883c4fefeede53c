use Rattle.std.proofs.Common.{◌≡◌, IfOk, Option, sym, ◌∙◌, subst}
use Rattle.std.specs.Prelude.{option_copied}
use Rattle.gx_types.specs.SchemaSet.{SchemaSet, declaration_of}
use Rattle.gx_types.specs.declared.declaration.Declared.{Declared}
use Rattle.gx_model.specs.DeclaredContent.{content_model}
use Rattle.gx_validate.specs.Taking.{takes_shapes}
use Rattle.gx_validate.proofs.Takings.{text_is_tested}
use Rattle.gx_validate.proofs.ModelsKept.{taker_is, tried_answer}
use Rattle.gx_validate.proofs.takers.Takers.takes.Goals as goal

pub returns-in_default-clause-taken : goal.returns-in_default-clause-taken
returns-in_default-clause-taken c =
    let s = c.self.inside.schemas.now in
    let holder = option_copied c.args.holder in
    subst (λ (z : SchemaSet). c.is_text_at_most.result ≡ takes_shapes z (content_model holder) c.args.shapes.now) c.self.view_is
    (c.is_text_at_most.ensures ∙ text_is_tested s holder c.args.shapes.now c.types-declarations.ensures.invariant.grounded (sym c.in_default.ensures))

pub returns-in-Some-get_mut-clause-taken : goal.returns-in-Some-get_mut-clause-taken
returns-in-Some-get_mut-clause-taken c =
    let s = c.self.inside.schemas.now in
    let kind = c.args.kind.now in
    let tried = c.in-Some-get_mut.taker.now in
    let taken = tried_answer s tried kind c.args.shapes.now c.takes.result c.types-declarations.ensures.invariant.grounded
    (taker_is s c.self.inside.known kind tried c.self.invariant.0 (sym c.in-Some-get_mut.ensures.value)) c.takes.ensures.answer in
    let known = subst (λ (z : SchemaSet). IfOk c.takes.result (λ answer. answer ≡ takes_shapes z (content_model (declaration_of z kind)) c.args.shapes.now)) c.self.view_is taken in
    subst (λ (holder : Option Declared). IfOk c.takes.result (λ answer. answer ≡ takes_shapes c.args.self.now (content_model holder) c.args.shapes.now)) (sym c.requires) known

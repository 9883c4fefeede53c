use Rattle.std.proofs.Common.{◌≡◌, Ok, sym, ◌∙◌, ap, subst}
use Rattle.std.specs.declared.alloc.AllocError.{AllocError}
use Rattle.gx_types.specs.SchemaSet.{SchemaSet, declaration_of}
use Rattle.gx_model.specs.DeclaredContent.{complex_model, content_model}
use Rattle.gx_validate.specs.Taking.{takes_shapes}
use Rattle.gx_validate.specs.Takers.{content_tried}
use Rattle.gx_validate.proofs.Takings.{text_is_tested}
use Rattle.gx_validate.proofs.ModelsKept.{takers_with, model_is, tried_answer}
use Rattle.gx_validate.proofs.takers.Takers.takes_first.Goals as goal

pub returns-in_default-clause-taken : goal.returns-in_default-clause-taken
returns-in_default-clause-taken c =
    let s = c.self.inside.schemas.now in
    let kind = c.args.kind.now in
    subst (λ (z : SchemaSet). c.is_text_at_most.result ≡ takes_shapes z (content_model (declaration_of z kind)) c.args.shapes.now) c.self.view_is
    (c.is_text_at_most.ensures
    ∙ text_is_tested s (declaration_of s kind) c.args.shapes.now c.types-declarations.ensures.invariant.grounded (ap complex_model (sym c.declared.ensures) ∙ sym c.in_default.ensures))

pub invariant_of-self-2 : goal.invariant_of-self-2
invariant_of-self-2 c =
    let s = c.self.inside.schemas.now in
    let made = model_is s c.args.kind.now c.in-Some.model.now (ap complex_model (sym c.declared.ensures) ∙ sym c.in-Some.ensures) in (
      takers_with s c.self.inside.known c.insert.new.self c.in_ok-kind.kind c.takes.new.self c.self.invariant.0
          (c.takes.ensures.same ∙ c.in_ok-taker.ensures ∙ made ∙ ap (content_tried s) (sym c.in_ok-kind.ensures.cases)) (λ other. c.in_ok-insert.ensures.updates.0 other),
      c.self.invariant.1,
    )

pub returns-clause-taken : goal.returns-clause-taken
returns-clause-taken c =
    let s = c.self.inside.schemas.now in
    let kind = c.args.kind.now in
    let made = model_is s kind c.in-Some.model.now (ap complex_model (sym c.declared.ensures) ∙ sym c.in-Some.ensures) in
    subst (λ (z : SchemaSet). c.in_ok-taken.taken ≡ takes_shapes z (content_model (declaration_of z kind)) c.args.shapes.now) c.self.view_is
    (tried_answer {E = AllocError} s c.in_ok-taker.taker kind c.args.shapes.now (Ok c.in_ok-taken.taken) c.types-declarations.ensures.invariant.grounded (c.in_ok-taker.ensures ∙ made)
    c.in_ok-taken.ensures.answer)

use Rattle.std.proofs.Common.{◌≡◌, IfOk, subst, inl, inr}
use Rattle.gx_types.specs.SequenceType.{SequenceType}
use Rattle.gx_steptype.specs.AskedView.{kind_asked}
use Rattle.gx_steptype.proofs.DerivedLemmas.{named_attributes, anonymous_attributes}
use Rattle.gx_steptype.proofs.attributes.attribute_content.Goals as goal

pub returns-in-Named-clause-content : goal.returns-in-Named-clause-content
returns-in-Named-clause-content c =
    subst (λ (t : SequenceType). IfOk c.declared_attributes_of.result (λ u. u ≡ t))
    (elim c.in-Named.is [
      | inl h ↦ named_attributes c.args.derived.now (kind_asked c.args.asked) c.args.kind.now h.0 h.1
      | inr h ↦ anonymous_attributes c.args.derived.now (kind_asked c.args.asked) c.args.kind.now h.0 h.1
    ])
    c.declared_attributes_of.ensures.content

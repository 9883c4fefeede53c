use Rattle.std.proofs.Common.{◌≡◌, IfOk, subst}
use Rattle.gx_types.specs.SequenceType.{SequenceType}
use Rattle.gx_steptype.specs.AskedView.{kind_asked}
use Rattle.gx_steptype.proofs.DerivedLemmas.{other_attributes}
use Rattle.gx_steptype.proofs.attributes.builtin_attributes.Goals as goal

pub returns-in_default-clause-content : goal.returns-in_default-clause-content
returns-in_default-clause-content c =
    subst (λ (t : SequenceType). IfOk c.declared_attributes_of.result (λ u. u ≡ t))
    (other_attributes c.args.derived.now (kind_asked c.args.asked) c.args.builtin c.in_default.not-AnyType c.in_default.not-Untyped)
    c.declared_attributes_of.ensures.content

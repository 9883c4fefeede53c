use Rattle.std.proofs.Common.{◌≡◌, IfOk, subst}
use Rattle.gx_types.specs.SequenceType.{SequenceType}
use Rattle.gx_steptype.specs.AskedView.{kind_asked}
use Rattle.gx_steptype.proofs.DerivedLemmas.{attributes_are_behind}
use Rattle.gx_steptype.proofs.attributes.attributes_over.Goals as goal

pub returns : goal.returns
returns c =
    subst (λ (t : SequenceType). IfOk c.factor.result (λ u. u ≡ t))
    (attributes_are_behind c.args.schemas.now (kind_asked c.args.asked) c.args.kind.now c.in_ok-all.all c.in_ok-tested.tested c.if-has_one_name.ensures c.in_ok-all.ensures c.in_ok-tested.ensures.replaced)
    c.factor.ensures

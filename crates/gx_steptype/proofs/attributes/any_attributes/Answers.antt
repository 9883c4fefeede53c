use Rattle.std.proofs.Common.{◌≡◌, None, IfOk, subst}
use Rattle.gx_base.specs.declared.type_name.TypeName.TheVariants as types
use Rattle.gx_types.specs.declared.item_type.ItemType.TheVariants as items
use Rattle.gx_types.specs.SequenceType.{SequenceType}
use Rattle.gx_steptype.specs.AskedView.{kind_asked}
use Rattle.gx_steptype.proofs.DerivedLemmas.{many_attributes}
use Rattle.gx_steptype.proofs.attributes.any_attributes.Goals as goal

pub returns : goal.returns
returns c =
    subst (λ (t : SequenceType). IfOk c.factor.result (λ u. u ≡ t))
    (many_attributes c.args.schemas.now (kind_asked c.args.asked) (items.Attribute None (types.Builtin c.args.kind)) c.in_ok-tested.tested c.in_ok-many.many
    c.if-has_one_name.ensures c.in_ok-tested.ensures c.in_ok-many.ensures)
    c.factor.ensures

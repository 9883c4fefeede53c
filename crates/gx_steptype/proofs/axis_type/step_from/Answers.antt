use Rattle.std.proofs.Common.{◌≡◌, Bool, IfOk, ◌∙◌, ap, subst}
use Rattle.gx_types.specs.SchemaSet.{SchemaSet}
use Rattle.gx_types.specs.SequenceType.{SequenceType}
use Rattle.gx_types.specs.TypeRules.{limited}
use Rattle.gx_model.specs.NodeTest.{KindTest, asked}
use Rattle.gx_steptype.specs.AskedView.{kind_asked}
use Rattle.gx_steptype.specs.Replaced.{replaced_items}
use Rattle.gx_steptype.specs.StepType.{item_step}
use Rattle.gx_steptype.proofs.axis_type.step_from.Goals as goal

pub returns : goal.returns
returns c =
    let axis = c.args.axis in
    let context = c.args.context.now in
    subst (λ (t : SequenceType). IfOk c.limit.result (λ u. u ≡ limited t))
    (c.in_ok-replaced.ensures.replaced
    ∙ ap (λ (schemas : SchemaSet). replaced_items (item_step schemas axis (kind_asked c.asked_by-asked.result)) context) c.in_ok-derived.ensures
    ∙ ap (λ (test : KindTest). replaced_items (item_step c.args.schemas.now axis test) context)
    (c.asked_by-asked.ensures ∙ ap (λ (attributes : Bool). asked c.args.schemas.now attributes c.args.test.now) c.is_of_attributes.ensures))
    c.limit.ensures

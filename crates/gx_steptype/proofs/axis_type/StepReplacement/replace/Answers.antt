use Rattle.std.proofs.Common.{◌≡◌, IfOk, sym, subst}
use Rattle.gx_types.specs.SchemaSet.{SchemaSet}
use Rattle.gx_types.specs.TypeRules.{joined_types}
use Rattle.gx_types.specs.declared.step.Axis.{Axis}
use Rattle.gx_types.specs.declared.step.Axis.TheVariants as axes
use Rattle.gx_steptype.specs.AskedView.{kind_asked}
use Rattle.gx_steptype.specs.KeptSteps.{IsTableOf, element_step}
use Rattle.gx_steptype.specs.StepType.{descendant_type, item_step}
use Rattle.gx_steptype.specs.TestedType.{tested_item}
use Rattle.gx_steptype.proofs.axis_type.StepReplacement.replace.Goals as goal

pub returns-in-Descendant-clause-given : goal.returns-in-Descendant-clause-given
returns-in-Descendant-clause-given c =
    subst (λ (axis : Axis). IfOk c.descendant_type.result (λ t. t ≡ item_step c.args.self.now.derived axis (kind_asked c.args.self.now.asked) c.args.item.now)) (sym c.in-Descendant.is)
    (subst (λ (schemas : SchemaSet). IfOk c.descendant_type.result (λ t. t ≡ descendant_type schemas (kind_asked c.args.self.now.asked) c.args.item.now)) c.schemas-schemas.ensures c.descendant_type.ensures)

pub returns-in-DescendantOrSelf-clause-given : goal.returns-in-DescendantOrSelf-clause-given
returns-in-DescendantOrSelf-clause-given c =
    subst (λ (axis : Axis). IfOk c.descendant_or_self_type.result (λ t. t ≡ item_step c.args.self.now.derived axis (kind_asked c.args.self.now.asked) c.args.item.now)) (sym c.in-DescendantOrSelf.is)
    (subst (λ (schemas : SchemaSet). IfOk c.descendant_or_self_type.result (λ t. t ≡ joined_types (tested_item schemas (kind_asked c.args.self.now.asked) c.args.item.now) (descendant_type schemas (kind_asked c.args.self.now.asked) c.args.item.now))) c.schemas-schemas.ensures
    c.descendant_or_self_type.ensures)

pub returns-in-Child-clause-fits : goal.returns-in-Child-clause-fits
returns-in-Child-clause-fits c =
    let test = kind_asked c.args.self.now.asked in
    subst (λ (axis : Axis). IsTableOf (element_step c.children_tested.new.derived axis test) c.children_tested.new.known) (sym c.in-Child.is)
    (subst (λ (s : SchemaSet). IsTableOf (element_step s axes.Child test) c.children_tested.new.known) (sym c.children_tested.ensures.same) c.children_tested.ensures.kept)

pub returns-in-Attribute-clause-fits : goal.returns-in-Attribute-clause-fits
returns-in-Attribute-clause-fits c =
    let test = kind_asked c.args.self.now.asked in
    subst (λ (axis : Axis). IsTableOf (element_step c.attribute_type.new.derived axis test) c.attribute_type.new.known) (sym c.in-Attribute.is)
    (subst (λ (s : SchemaSet). IsTableOf (element_step s axes.Attribute test) c.attribute_type.new.known) (sym c.attribute_type.ensures.same) c.attribute_type.ensures.kept)

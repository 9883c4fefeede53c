use Rattle.gx_types.specs.declared.step.Axis.TheVariants as axes
use Rattle.gx_model.specs.Location.{location_of}
use Rattle.gx_model.specs.Axes.{leads_to, passes}
use Rattle.gx_model.proofs.AxisLemmas.{children_are_found, attributes_are_found, self_is_found, parent_is_found}
use Rattle.gx_model.proofs.SearchLemmas.{search_is_filter}
use Rattle.gx_model.proofs.axis.step.Goals as goal

pub returns-in-Child : goal.returns-in-Child
returns-in-Child c =
    rw (c.in-Child.is, ← children_are_found (passes c.args.schemas.now axes.Child c.args.test.now) (location_of c.args.node.now) c.args.root.now) c.child_step.ensures

pub returns-in-Attribute : goal.returns-in-Attribute
returns-in-Attribute c =
    rw (c.in-Attribute.is, ← attributes_are_found (passes c.args.schemas.now axes.Attribute c.args.test.now) (location_of c.args.node.now) c.args.root.now) c.attribute_step.ensures

pub returns-in-SelfAxis : goal.returns-in-SelfAxis
returns-in-SelfAxis c =
    rw (c.in-SelfAxis.is, ← self_is_found (passes c.args.schemas.now axes.SelfAxis c.args.test.now) (location_of c.args.node.now) c.args.root.now) c.self_step.ensures

pub returns-in-Parent : goal.returns-in-Parent
returns-in-Parent c =
    rw (c.in-Parent.is, ← parent_is_found (passes c.args.schemas.now axes.Parent c.args.test.now) (location_of c.args.node.now) c.args.root.now) c.parent_step.ensures

pub returns-in-Descendant : goal.returns-in-Descendant
returns-in-Descendant c =
    rw (search_is_filter (leads_to c.args.axis (location_of c.args.node.now)) (passes c.args.schemas.now c.args.axis c.args.test.now) c.args.root.now) at c.search.ensures

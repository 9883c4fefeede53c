use Rattle.std.proofs.Common.{◌≡◌, ◌++◌, drop, map}
use Rattle.gx_types.specs.declared.step.Axis.TheVariants as axes
use Rattle.gx_model.specs.Location.{node_of_tree}
use Rattle.gx_model.specs.Axes.{passes}
use Rattle.gx_model.specs.Stepping.{passing_attributes}
use Rattle.gx_model.proofs.axis.attributes_passing.Given as goal

-- what was kept, and what of the rest passes
abbrev pub invariant-loop-position : goal.invariant-loop-position
invariant-loop-position l =
    l.found.items ++ map (node_of_tree l.owner.tree) (passing_attributes (passes l.schemas axes.Attribute l.test) l.owner.path l.position (drop l.position l.attributes))
    ≡ map (node_of_tree l.owner.tree) (passing_attributes (passes l.schemas axes.Attribute l.test) l.owner.path 0 l.attributes)

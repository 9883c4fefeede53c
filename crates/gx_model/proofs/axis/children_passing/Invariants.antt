use Rattle.std.proofs.Common.{◌≡◌, ◌++◌, drop, map}
use Rattle.gx_types.specs.declared.step.Axis.TheVariants as axes
use Rattle.gx_model.specs.Location.{node_of_tree}
use Rattle.gx_model.specs.Axes.{passes}
use Rattle.gx_model.specs.Stepping.{passing_children}
use Rattle.gx_model.proofs.axis.children_passing.Given as goal

-- what was kept, and what of the rest passes
abbrev pub invariant-loop-position : goal.invariant-loop-position
invariant-loop-position l =
    l.found.items ++ map (node_of_tree l.parent.tree) (passing_children (passes l.schemas axes.Child l.test) l.parent.path l.position (drop l.position l.trees))
    ≡ map (node_of_tree l.parent.tree) (passing_children (passes l.schemas axes.Child l.test) l.parent.path 0 l.trees)

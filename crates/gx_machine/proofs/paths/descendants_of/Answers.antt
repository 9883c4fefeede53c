use Rattle.gx_joins.specs.JoinedMeaning.{joined_meaning as joined}
use Rattle.gx_machine.proofs.ManySteps.{below_is_descendants}
use Rattle.gx_machine.proofs.paths.descendants_of.Goals as goal

pub returns-in-Child-DescendantOrSelf-Node : goal.returns-in-Child-DescendantOrSelf-Node
returns-in-Child-DescendantOrSelf-Node c = λ k bindings forest.
    let children = c.in_ok-children.children in
    let below = c.in_ok-below.below in
    below_is_descendants k (joined k c.args.operand.now) (joined k children.source.now) (joined k c.in_ok-ordered_part.field-0.now) (joined k below.source.now) children.binder.now below.binder.now
    children.axis below.axis children.test.now below.test.now bindings forest (c.in_ok-children.ensures k) (c.in_ok-ordered_part.ensures k) (c.in_ok-below.ensures k)
    c.in-Child-DescendantOrSelf-Node.is-0 c.in-Child-DescendantOrSelf-Node.is-1 c.in-Child-DescendantOrSelf-Node.is-2

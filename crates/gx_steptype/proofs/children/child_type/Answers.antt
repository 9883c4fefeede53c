use Rattle.gx_steptype.proofs.children.child_type.Goals as goal

pub returns-in-Element-clause-children : goal.returns-in-Element-clause-children
returns-in-Element-clause-children c = rw c.in-Element.is c.child_content.ensures.content

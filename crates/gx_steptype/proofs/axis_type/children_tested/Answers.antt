use Rattle.gx_steptype.proofs.axis_type.children_tested.Goals as goal

pub returns-in-Element-clause-tested : goal.returns-in-Element-clause-tested
returns-in-Element-clause-tested c = rw c.in-Element.is c.element_children_tested.ensures.tested

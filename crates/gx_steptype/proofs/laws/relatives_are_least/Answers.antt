use Rattle.gx_steptype.proofs.DescendantKinds as kinds
use Rattle.gx_steptype.proofs.laws.relatives_are_least.Goals as goal

pub returns-clause-descendants : goal.returns-clause-descendants
returns-clause-descendants c = kinds.descendants_are_least

pub returns-clause-ancestors : goal.returns-clause-ancestors
returns-clause-ancestors c = kinds.ancestors_are_least

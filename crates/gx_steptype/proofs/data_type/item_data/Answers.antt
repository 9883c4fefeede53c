use Rattle.gx_steptype.proofs.data_type.item_data.Goals as goal

pub returns-in-Element-clause-data : goal.returns-in-Element-clause-data
returns-in-Element-clause-data c = rw c.in-Element.is c.kept_data.ensures.data

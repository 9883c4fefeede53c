use Rattle.gx_steptype.proofs.data_type.item_has_data.Goals as goal

pub returns-in_ok-kept_answer-in-Element-clause-data : goal.returns-in_ok-kept_answer-in-Element-clause-data
returns-in_ok-kept_answer-in-Element-clause-data c = rw (c.in-Element.is, ← c.if-not-is_any_type.ensures) c.in_ok-kept_answer-in-Element.ensures.values

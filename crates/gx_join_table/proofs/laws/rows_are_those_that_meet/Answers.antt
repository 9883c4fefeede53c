use Rattle.gx_join_table.proofs.PublicLaws as laws
use Rattle.gx_join_table.proofs.laws.rows_are_those_that_meet.Goals as goal

pub returns : goal.returns
returns c = laws.rows_are_those_that_meet

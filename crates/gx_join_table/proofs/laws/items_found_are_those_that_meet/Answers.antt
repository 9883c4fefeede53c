use Rattle.gx_join_table.proofs.PublicLaws as laws
use Rattle.gx_join_table.proofs.laws.items_found_are_those_that_meet.Goals as goal

pub returns : goal.returns
returns g c = laws.items_found_are_those_that_meet {A = g.row.T.Denot}

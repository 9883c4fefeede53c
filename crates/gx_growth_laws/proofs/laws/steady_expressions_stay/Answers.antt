use Rattle.gx_growth_laws.proofs.PublicLaws as laws
use Rattle.gx_growth_laws.proofs.laws.steady_expressions_stay.Goals as goal

pub returns : goal.returns
returns g c = laws.steady_expressions_stay g.row.T.Denot

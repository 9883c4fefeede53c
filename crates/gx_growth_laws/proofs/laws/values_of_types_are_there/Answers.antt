use Rattle.gx_growth_laws.proofs.PublicLaws as laws
use Rattle.gx_growth_laws.proofs.laws.values_of_types_are_there.Goals as goal

pub returns : goal.returns
returns c = laws.values_of_types_are_there

use Rattle.gx_growth_laws.proofs.PublicLaws as laws
use Rattle.gx_growth_laws.proofs.laws.what_is_there_stays.Goals as goal

pub returns : goal.returns
returns c = laws.what_is_there_stays

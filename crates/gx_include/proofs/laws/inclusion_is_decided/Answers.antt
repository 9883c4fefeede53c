use Rattle.gx_include.proofs.Deciding as deciding
use Rattle.gx_include.proofs.laws.inclusion_is_decided.Goals as goal

pub returns : goal.returns
returns c = deciding.inclusion_is_decided

use Rattle.gx_num.proofs.Division.{division}
use Rattle.gx_num.proofs.laws.division_truncates.Goals as goal

pub returns : goal.returns
returns c = division

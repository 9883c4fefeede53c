use Rattle.gx_steptype.proofs.DataTypes as values
use Rattle.gx_steptype.proofs.laws.data_keeps_its_type.Goals as goal

pub returns : goal.returns
returns c = values.data_keeps_its_type

use Rattle.gx_join_table.proofs.PublicLaws as laws
use Rattle.gx_join_table.proofs.laws.equal_keys_are_equal_values.Goals as goal

pub returns : goal.returns
returns c = laws.equal_keys_are_equal_values

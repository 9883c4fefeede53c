use Rattle.gx_schema_content.proofs.Agreement.{one_type_a_name}
use Rattle.gx_schema_content.proofs.laws.one_type_a_name.Goals as goal

pub returns : goal.returns
returns c = one_type_a_name

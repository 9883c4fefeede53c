use Rattle.gx_schema_attributes.proofs.Distinct.{uses_are_distinct}
use Rattle.gx_schema_attributes.proofs.laws.uses_are_distinct.Goals as goal

pub returns : goal.returns
returns c = uses_are_distinct

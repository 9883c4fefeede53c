use Rattle.gx_static.proofs.QueryLaws as queries
use Rattle.gx_static.proofs.laws.query_variables_have_types.Goals as goal

pub returns : goal.returns
returns c = queries.query_variables_have_types

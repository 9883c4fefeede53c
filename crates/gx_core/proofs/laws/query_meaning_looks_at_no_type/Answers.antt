use Rattle.gx_core.proofs.CallLemmas.{query_meaning_looks_at_no_type}
use Rattle.gx_core.proofs.laws.query_meaning_looks_at_no_type.Goals as goal

pub returns : goal.returns
returns c = query_meaning_looks_at_no_type

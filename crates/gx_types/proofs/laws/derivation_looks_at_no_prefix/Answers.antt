use Rattle.gx_types.proofs.PublicLaws.{equal_types_have_one_base, derivation_looks_at_no_prefix}
use Rattle.gx_types.proofs.laws.derivation_looks_at_no_prefix.Goals as goal

pub returns-clause-one_base : goal.returns-clause-one_base
returns-clause-one_base c = equal_types_have_one_base

pub returns-clause-alike : goal.returns-clause-alike
returns-clause-alike c = derivation_looks_at_no_prefix

use Rattle.gx_types.proofs.PublicLaws.{limited_takes_type, short_types_stay}
use Rattle.gx_types.proofs.laws.limit_loses_nothing.Goals as goal

pub returns-clause-all : goal.returns-clause-all
returns-clause-all c = limited_takes_type

pub returns-clause-short : goal.returns-clause-short
returns-clause-short c = short_types_stay

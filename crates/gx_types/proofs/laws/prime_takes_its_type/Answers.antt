use Rattle.gx_types.proofs.PublicLaws.{items_take_each_shape, factored_takes_type, prime_takes_type}
use Rattle.gx_types.proofs.laws.prime_takes_its_type.Goals as goal

pub returns-clause-each : goal.returns-clause-each
returns-clause-each c = items_take_each_shape

pub returns-clause-factored : goal.returns-clause-factored
returns-clause-factored c = factored_takes_type

pub returns-clause-all : goal.returns-clause-all
returns-clause-all c = prime_takes_type

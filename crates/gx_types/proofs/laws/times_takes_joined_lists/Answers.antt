use Rattle.gx_types.proofs.PublicLaws.{repeated_takes_joined, repeated_takes_no_more, times_takes_joined, times_takes_no_more}
use Rattle.gx_types.proofs.laws.times_takes_joined_lists.Goals as goal

pub returns-clause-repeated : goal.returns-clause-repeated
returns-clause-repeated c = repeated_takes_joined

pub returns-clause-repeated_no_more : goal.returns-clause-repeated_no_more
returns-clause-repeated_no_more c = repeated_takes_no_more

pub returns-clause-all : goal.returns-clause-all
returns-clause-all c = times_takes_joined

pub returns-clause-no_more : goal.returns-clause-no_more
returns-clause-no_more c = times_takes_no_more

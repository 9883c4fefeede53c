use Rattle.gx_types.proofs.PublicLaws.{joined_types_are_a_sequence, sequence_takes_parts, sequence_takes_no_more}
use Rattle.gx_types.proofs.laws.sequence_takes_its_parts.Goals as goal

pub returns-clause-joined : goal.returns-clause-joined
returns-clause-joined c = joined_types_are_a_sequence

pub returns-clause-all : goal.returns-clause-all
returns-clause-all c = sequence_takes_parts

pub returns-clause-no_more : goal.returns-clause-no_more
returns-clause-no_more c = sequence_takes_no_more

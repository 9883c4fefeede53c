use Rattle.gx_types.proofs.PublicLaws.{choice_takes_some, choice_keeps_its_members, choice_takes_new_members, choice_takes_members, choice_takes_no_more}
use Rattle.gx_types.proofs.laws.choice_takes_its_members.Goals as goal

pub returns-clause-some : goal.returns-clause-some
returns-clause-some c = choice_takes_some

pub returns-clause-first : goal.returns-clause-first
returns-clause-first c = choice_keeps_its_members

pub returns-clause-second : goal.returns-clause-second
returns-clause-second c = choice_takes_new_members

pub returns-clause-all : goal.returns-clause-all
returns-clause-all c = choice_takes_members

pub returns-clause-no_more : goal.returns-clause-no_more
returns-clause-no_more c = choice_takes_no_more

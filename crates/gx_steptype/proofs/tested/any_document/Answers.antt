use Rattle.gx_steptype.proofs.tested.any_document.Goals as goal

pub returns : goal.returns
returns c = rw (c.at_most_possibly-meeting.ensures, c.met.ensures) at c.where_met.ensures

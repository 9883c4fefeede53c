use Rattle.std.proofs.Common.{◌∙◌, sym, ap}
use Rattle.gx_include_followers.specs.NumberSet.{flagged}
use Rattle.gx_include_followers.proofs.NumberSetLemmas.{members_within}
use Rattle.gx_include_followers.proofs.number_set.NumberSet.members.Goals as goal

pub returns : goal.returns
returns c = c.as_slice.ensures.value ∙ sym (members_within 0 c.self.inside.count c.self.inside.members.items c.self.invariant) ∙ ap flagged c.self.view_is

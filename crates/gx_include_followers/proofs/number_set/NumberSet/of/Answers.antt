use Rattle.std.proofs.Common.{◌≡◌, ◌-◌, ◌∙◌, arith}
use Rattle.gx_include_followers.proofs.NumberSetLemmas.{length_within, flag_of_members}
use Rattle.gx_include_followers.proofs.number_set.NumberSet.of.Goals as goal

pub returns-clause-count : goal.returns-clause-count
returns-clause-count c =
    length_within 0 c.args.count c.ordered-members.result.items c.ordered-members.ensures.ascending ∙ (let e : c.args.count - 0 ≡ c.args.count = omega arith in e)

pub returns-clause-members : goal.returns-clause-members
returns-clause-members c n h =
    flag_of_members c.args.count n c.ordered-members.result.items c.ordered-members.ensures.ascending ∙ c.ordered-members.ensures.same n h

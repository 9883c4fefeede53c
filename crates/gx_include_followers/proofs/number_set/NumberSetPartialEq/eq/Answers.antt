use Rattle.std.proofs.Common.{◌∙◌}
use Rattle.gx_include_followers.proofs.NumberSetLemmas.{same_members, other_count}
use Rattle.gx_include_followers.proofs.number_set.NumberSetPartialEq.eq.Goals as goal

pub returns-then-self-other : goal.returns-then-self-other
returns-then-self-other c =
    c.eq.ensures
    ∙ same_members c.self.inside.count c.other.inside.count c.self.inside.members.items c.other.inside.members.items c.args.self.now c.args.other.now c.self.invariant c.other.invariant c.self.view_is c.other.view_is
    c.if-self-other.true

pub returns-else-self-other : goal.returns-else-self-other
returns-else-self-other c =
    other_count c.self.inside.count c.other.inside.count c.self.inside.members.items c.other.inside.members.items c.args.self.now c.args.other.now c.self.invariant c.other.invariant c.self.view_is c.other.view_is
    c.if-self-other.false

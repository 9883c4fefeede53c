use Rattle.std.proofs.Common.{rules}
use Rattle.gx_names_uses.proofs.ReachingLemmas.{one_is_met}
use Rattle.gx_names_uses.proofs.reaching.is_at_hand.Goals as goal

pub returns-in-Variable-clause-found : goal.returns-in-Variable-clause-found
returns-in-Variable-clause-found c holds calls searches =
    one_is_met c.args.names.now.variables c.args.bodies.now calls c.args.settled.now c.args.left.now.items c.args.one (rw c.in-Variable.is (search rules)) searches

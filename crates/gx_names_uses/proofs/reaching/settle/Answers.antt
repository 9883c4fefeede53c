use Rattle.std.proofs.Common.{rules}
use Rattle.gx_names_uses.specs.declared.uses.Use.TheVariants as uses
use Rattle.gx_names_uses.proofs.ReachingLemmas.{one_is_met, one_is_settled}
use Rattle.gx_names_uses.proofs.reaching.settle.Goals as goal

pub returns-then-is_some : goal.returns-then-is_some
returns-then-is_some c variables calls searches =
    one_is_met variables c.args.bodies.now calls c.args.settled.now c.args.left.now.items (uses.Function c.args.function) (search rules) searches

pub returns : goal.returns
returns c variables calls searches =
    rw (c.in_ok-bind.ensures, c.in_ok-put_uses.ensures) (one_is_settled variables c.args.bodies.now calls c.args.settled.now c.args.left.now.items c.args.function searches)

use Rattle.std.proofs.Common.{sym}
use Rattle.gx_include_takes.proofs.Targets.{next_is}
use Rattle.gx_include_takes.proofs.transitions.Transitions.next.Goals as goal

pub returns-in-Some-clause-next : goal.returns-in-Some-clause-next
returns-in-Some-clause-next c =
    (next_is c.args.t.now c.args.rows.now c.args.schemas.now c.args.self.now.states.keys c.args.self.now.targets (record { state = c.args.state; symbol = c.args.symbol })
    c.in-Some.next.now c.requires.kept (sym c.in-Some.ensures.value)).coming

use Rattle.gx_include_takes.proofs.KnownSteps.{kept_step}
use Rattle.gx_include_takes.proofs.automaton.Automaton.last_target.Goals as goal

pub returns-then-is_step_of : goal.returns-then-is_step_of
returns-then-is_step_of c s t is =
    kept_step s t c.args.self.now.states.keys c.args.self.now.targets c.in_ok-key.key.now c.in_ok-key.next.now c.args.state c.args.shape.now is c.in_ok-key.ensures.value
    (c.is_step_of.ensures c.if-is_step_of.true)

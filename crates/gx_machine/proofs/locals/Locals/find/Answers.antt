use Rattle.std.proofs.Common.{◌∙◌}
use Rattle.gx_machine.proofs.Lookups.{found_in_front, none_in_front}
use Rattle.gx_machine.proofs.locals.Locals.find.Goals as goal

pub returns-in-Some : goal.returns-in-Some
returns-in-Some c = rw (← c.self.view_is) (found_in_front c.self.inside.own c.self.inside.globals.now c.args.variable c.in-Some.bound.now c.in-Some.ensures)

pub returns-in-None : goal.returns-in-None
returns-in-None c = rw (← c.self.view_is) (c.find-in-None.ensures ∙ none_in_front c.self.inside.own c.self.inside.globals.now c.args.variable c.in-None.ensures)

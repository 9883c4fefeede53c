use Rattle.gx_settling.proofs.GlobalTypes as globals
use Rattle.gx_settling.proofs.laws.globals_are_new.Goals as goal

pub returns-clause-first : goal.returns-clause-first
returns-clause-first c = globals.globals_are_new

pub returns-clause-others : goal.returns-clause-others
returns-clause-others c = globals.others_are_new

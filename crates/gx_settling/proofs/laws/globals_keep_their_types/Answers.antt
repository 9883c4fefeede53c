use Rattle.gx_settling.proofs.GlobalTypes as globals
use Rattle.gx_settling.proofs.laws.globals_keep_their_types.Goals as goal

pub returns : goal.returns
returns c = globals.new_keep_their_types

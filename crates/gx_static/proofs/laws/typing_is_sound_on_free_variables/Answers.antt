use Rattle.gx_static.proofs.FreeVariables.{typing_is_sound_on_free_variables}
use Rattle.gx_static.proofs.laws.typing_is_sound_on_free_variables.Goals as goal

pub returns : goal.returns
returns c = typing_is_sound_on_free_variables

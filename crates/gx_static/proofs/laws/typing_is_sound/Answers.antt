use Rattle.gx_static.proofs.SoundTyping.{sound}
use Rattle.gx_static.proofs.laws.typing_is_sound.Goals as goal

pub returns : goal.returns
returns c = sound

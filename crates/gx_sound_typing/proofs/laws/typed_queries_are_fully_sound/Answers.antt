use Rattle.gx_sound_typing.proofs.FullTyping.{typed_queries_are_fully_sound}
use Rattle.gx_sound_typing.proofs.laws.typed_queries_are_fully_sound.Goals as goal

pub returns : goal.returns
returns c = typed_queries_are_fully_sound

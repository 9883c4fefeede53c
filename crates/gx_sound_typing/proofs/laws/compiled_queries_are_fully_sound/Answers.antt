use Rattle.gx_sound_typing.proofs.CompiledTyping.{compiled_queries_are_fully_sound}
use Rattle.gx_sound_typing.proofs.laws.compiled_queries_are_fully_sound.Goals as goal

pub returns : goal.returns
returns c = compiled_queries_are_fully_sound

use Rattle.gx_sound_typing.proofs.CompiledTyping.{compiled_expressions_have_their_types}
use Rattle.gx_sound_typing.proofs.laws.compiled_expressions_have_their_types.Goals as goal

pub returns : goal.returns
returns c = compiled_expressions_have_their_types

use Rattle.gx_sound_typing.proofs.CompiledPlans.{compiled_plans_are_fully_sound}
use Rattle.gx_sound_typing.proofs.laws.compiled_plans_are_fully_sound.Goals as goal

pub returns : goal.returns
returns c = compiled_plans_are_fully_sound

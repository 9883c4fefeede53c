use Rattle.gx_sound_typing.proofs.CarriedBinders.{full_soundness_with_carried_types}
use Rattle.gx_sound_typing.proofs.laws.full_soundness_with_carried_types.Goals as goal

pub returns : goal.returns
returns c = full_soundness_with_carried_types

use Rattle.gx_schema_restriction.proofs.SoundRestrictions as restrictions
use Rattle.gx_schema_restriction.proofs.laws.yes_means_sound.Goals as goal

pub returns : goal.returns
returns c = restrictions.yes_means_sound

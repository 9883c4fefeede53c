use Rattle.gx_plan.proofs.ReplacingParts.{sound_expressions_are_well_bound}
use Rattle.gx_plan.proofs.laws.sound_expressions_are_well_bound.Goals as goal

pub returns : goal.returns
returns c = sound_expressions_are_well_bound

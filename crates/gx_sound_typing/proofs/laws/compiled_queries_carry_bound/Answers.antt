use Rattle.gx_sound_typing.proofs.CompiledPlans.{compiled_queries_carry_bound}
use Rattle.gx_sound_typing.proofs.laws.compiled_queries_carry_bound.Goals as goal

pub returns : goal.returns
returns c = compiled_queries_carry_bound

use Rattle.gx_processor.proofs.LoadLaws.{answers_look_at_their_loads}
use Rattle.gx_processor.proofs.laws.answers_look_at_their_loads.Goals as goal

pub returns : goal.returns
returns c = answers_look_at_their_loads c.imports_are_one.ensures

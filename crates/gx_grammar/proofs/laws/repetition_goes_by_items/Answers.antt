use Rattle.gx_grammar.proofs.Steps.{repeat_step}
use Rattle.gx_grammar.proofs.laws.repetition_goes_by_items.Goals as goal

pub returns : goal.returns
returns g c = λ guard item shortens s. repeat_step guard item shortens s

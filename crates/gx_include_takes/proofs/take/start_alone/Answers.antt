use Rattle.std.proofs.Common.{◌∙◌, ap, false, get_or, List, Bool}
use Rattle.gx_include_takes.proofs.take.start_alone.Goals as goal

pub returns : goal.returns
returns c = λ place. c.in_ok-places.ensures place ∙ ap (λ (fs : List Bool). get_or fs place false) (c.as_slice.ensures.value ∙ c.in_ok-start.ensures)

use Rattle.std.proofs.Common.{◌∙◌, ap, false, get_or, List, Bool}
use Rattle.gx_include_takes.proofs.feature.mask_of.Goals as goal

pub returns : goal.returns
returns c = λ place. c.in_ok-mask.ensures place ∙ ap (λ (fs : List Bool). get_or fs place false) (c.as_slice.ensures.value ∙ c.in_ok-tests.ensures)

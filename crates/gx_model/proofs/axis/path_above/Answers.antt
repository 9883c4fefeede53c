use Rattle.std.proofs.Common.{sym, ◌∙◌, ap}
use Rattle.gx_model.specs.Stepping.{path_up}
use Rattle.gx_model.proofs.AxisLemmas.{path_up_front}
use Rattle.gx_model.proofs.axis.path_above.Goals as goal

pub returns-in-Some : goal.returns-in-Some
returns-in-Some c = sym (ap path_up c.in-Some.ensures.cases.0 ∙ path_up_front c.in-Some.front.now c.in-Some.field-0-0.now)

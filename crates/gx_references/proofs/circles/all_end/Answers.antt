use Rattle.std.proofs.Common.{◌∙◌, sym}
use Rattle.gx_references.specs.PlainReferences.{numbers_in, no_meaning}
use Rattle.gx_references.proofs.ReachSteps.{none_is_circular}
use Rattle.gx_references.proofs.circles.all_end.Goals as goal

pub returns : goal.returns
returns c = λ ended number. none_is_circular numbers_in no_meaning tt c.args.references.now c.in_ok-meanings.field-0 c.in_ok-meanings.ensures (sym c.is_some.ensures ∙ ended) number

use Rattle.std.proofs.Common.{map}
use Rattle.std.proofs.lemmas.Result.{IfOk-weaker, IfErr-weaker}
use Rattle.gx_model.specs.Item.{node}
use Rattle.gx_store.specs.Places.{node_places}
use Rattle.gx_machine.proofs.ManySteps.{one_alone, one_alone_fails}
use Rattle.gx_machine.proofs.stepping.stepped_from_each.Goals as goal

pub returns-in-len1-clause-value : goal.returns-in-len1-clause-value
returns-in-len1-clause-value c = λ later done x.
    IfOk-weaker c.stepped.result _ _
    (λ found. one_alone c.args.schemas.now c.args.axis c.args.test.now later done (map node (node_places later found.items)) c.args.operand.now c.args.store.now c.in-len1.len_at_least c.in-len1.len_below)
    (c.stepped.ensures.value later x)

pub returns-in-len1-clause-failed : goal.returns-in-len1-clause-failed
returns-in-len1-clause-failed c = λ later done x.
    IfErr-weaker c.stepped.result _ _
    (λ e. one_alone_fails c.args.schemas.now c.args.axis c.args.test.now later done c.args.operand.now c.args.store.now e c.in-len1.len_at_least c.in-len1.len_below)
    (c.stepped.ensures.failed later x)

use Rattle.std.proofs.Common.{sym, ◌∙◌, ap}
use Rattle.gx_types.specs.Prime.{items_of}
use Rattle.gx_steptype.specs.StepType.{child_content, grandchild_kinds}
use Rattle.gx_steptype.proofs.DescendantKinds.{successors_are_put}
use Rattle.gx_steptype.proofs.relatives.DescentStepItemType.add_next.Goals as goal

pub returns-clause-added : goal.returns-clause-added
returns-clause-added c =
    let s = c.args.self.now.derived in
    successors_are_put c.add_children.result s c.args.found.now.keys c.add_children.new.found.keys c.args.at c.index.result.now (items_of (child_content s c.in_ok-kind.kind)) c.index.ensures
    (ap (λ kind. items_of (child_content s kind)) c.in_ok-kind.ensures.cases ∙ sym (ap (grandchild_kinds s) c.in-Element.is)) c.add_children.ensures.added

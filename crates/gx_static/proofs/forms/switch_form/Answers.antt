use Rattle.gx_static.proofs.Continuing.{operand_below}
use Rattle.gx_static.proofs.forms.switch_form.Goals as goal

pub returns-clause-parts : goal.returns-clause-parts
returns-clause-parts c = λ next.
    operand_below c.args.count c.args.parts.now c.last.new.parts c.part.new.parts c.in_ok-operand.operand.value c.in_ok-branches.branches.items next
    c.in_ok-branches.ensures.taken c.in_ok-operand.ensures

use Rattle.gx_core.specs.ExpressionView.{operator_of, parts_of}
use Rattle.gx_settling.specs.Uses.{called_function, named_variable}
use Rattle.gx_settling.specs.Gathering.{expressions_left}
use Rattle.gx_settling.proofs.GatheringLemmas.{one_opened}
use Rattle.gx_settling.proofs.uses.Gathering.open.Goals as goal

pub returns-clause-calls : goal.returns-clause-calls
returns-clause-calls g c =
    rw (← c.expression.view_is)
    (one_opened called_function c.args.self.now.calls.items c.note_call.new.calls.items (operator_of c.expression.inside.form) (parts_of c.expression.inside.form)
    (expressions_left c.args.self.now.pending) (expressions_left c.put_parts.new.pending) c.in_ok-note_call.ensures c.in_ok-put_parts.ensures)

pub returns-clause-variables : goal.returns-clause-variables
returns-clause-variables g c =
    rw (← c.expression.view_is)
    (one_opened named_variable c.args.self.now.variables.items c.note_variable.new.variables.items (operator_of c.expression.inside.form) (parts_of c.expression.inside.form)
    (expressions_left c.args.self.now.pending) (expressions_left c.put_parts.new.pending) c.in_ok-note_variable.ensures c.in_ok-put_parts.ensures)

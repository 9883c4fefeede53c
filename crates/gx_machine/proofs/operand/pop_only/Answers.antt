use Rattle.std.proofs.Common.{◌≡◌, length, drop, sym, ◌∙◌}
use Rattle.gx_machine.proofs.Alone.{popped_alone, front_of_alone}
use Rattle.gx_machine.proofs.Picked.{counted_there}
use Rattle.gx_machine.proofs.operand.pop_only.Goals as goal

pub returns-clause-alone : goal.returns-clause-alone
returns-clause-alone c = λ later.
    let one : length (drop c.args.number c.args.values.now.items) ≡ 1 = sym (counted_there later c.args.number c.args.values.now.items c.values_from.result.now (c.values_from.ensures later)) ∙ c.if-values_from-ne1.false in
    popped_alone later c.args.number c.args.values.now.items c.pop.new.self.items c.in-Some.item one c.in-Some.ensures.items

pub returns-clause-front : goal.returns-clause-front
returns-clause-front c = λ later some.
    let one : length (drop c.args.number c.args.values.now.items) ≡ 1 = sym (counted_there later c.args.number c.args.values.now.items c.values_from.result.now (c.values_from.ensures later)) ∙ c.if-values_from-ne1.false in
    front_of_alone later c.args.number c.args.values.now.items c.pop.new.self.items c.in-Some.item one c.in-Some.ensures.items

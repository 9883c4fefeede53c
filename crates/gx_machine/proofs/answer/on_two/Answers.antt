use Rattle.std.proofs.Common.{arith}
use Rattle.std.proofs.lemmas.List.{length-map}
use Rattle.gx_store.specs.Items.{item_in, items_in}
use Rattle.gx_machine.specs.Answering.{paired_meaning}
use Rattle.gx_machine.proofs.Operands.{many_on_the_right}
use Rattle.gx_machine.proofs.answer.on_two.Goals as goal

pub returns-in_default-right-2-clause-failed : goal.returns-in_default-right-2-clause-failed
returns-in_default-right-2-clause-failed c = λ forest later.
    many_on_the_right (items_in later c.args.left.now) (items_in later c.args.right.now) forest (paired_meaning c.args.operation) (omega (arith, length-map c.args.right.now (item_in later)))

use Rattle.std.proofs.Common.{arith, ap, sym, ◌∙◌}
use Rattle.std.proofs.lemmas.Grind.{common_steps}
use Rattle.std.proofs.lemmas.List.{take-map, drop-map}
use Rattle.std.proofs.lemmas.Result.{IfOk-weaker}
use Rattle.gx_store.specs.Items.{item_in, items_in}
use Rattle.gx_machine.proofs.operand.split_at.Goals as goal

pub returns-then-number-len-clause-front : goal.returns-then-number-len-clause-front
returns-then-number-len-clause-front c = λ later. grind (arith, common_steps, take-map, drop-map)

pub returns-then-number-len-clause-rest : goal.returns-then-number-len-clause-rest
returns-then-number-len-clause-rest c = λ later.
    IfOk-weaker c.split_off.result _ _ (λ taken e. ap (items_in later) e ∙ sym (drop-map (item_in later) c.args.number c.args.values.now.items)) c.split_off.ensures.tail

use Rattle.std.proofs.Common.{ap, sym, ◌∙◌}
use Rattle.std.proofs.lemmas.List.{take-map}
use Rattle.gx_store.specs.Items.{item_in, items_in}
use Rattle.gx_machine.proofs.operand.cut_off.Goals as goal

pub returns : goal.returns
returns c = λ later. ap (items_in later) c.truncate.ensures.items ∙ sym (take-map (item_in later) c.args.number c.args.values.now.items)

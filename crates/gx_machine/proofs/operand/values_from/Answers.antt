use Rattle.std.proofs.Common.{drop, ap, ◌∙◌}
use Rattle.gx_store.specs.Items.{items_in}
use Rattle.gx_machine.proofs.operand.values_from.Goals as goal

pub returns : goal.returns
returns c = λ later. c.cut_at.ensures.rest later ∙ ap (λ xs. drop c.args.number (items_in later xs)) c.as_slice.ensures.value

use Rattle.std.proofs.Common.{sym, ◌∙◌}
use Rattle.gx_store.specs.Items.{items_in}
use Rattle.gx_machine.proofs.Conversions.{all_stay}
use Rattle.gx_machine.proofs.converting.conversion.Goals as goal

pub returns-in-Some-clause-none : goal.returns-in-Some-clause-none
returns-in-Some-clause-none c = λ schemas forest later e.
    all_stay schemas c.args.expected.now c.in-Some.kind.now (items_in later c.args.items.now) forest c.in-Some.ensures (sym (c.all_stay.ensures later) ∙ c.if-all_stay.true)

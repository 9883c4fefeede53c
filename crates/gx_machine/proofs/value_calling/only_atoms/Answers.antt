use Rattle.std.proofs.Common.{ap}
use Rattle.std.specs.Prelude.{Option, List}
use Rattle.gx_facets.specs.declared.Atomic.{Atomic}
use Rattle.gx_core.specs.Outcome.{given}
use Rattle.gx_store.specs.Items.{items_in}
use Rattle.gx_machine.proofs.MadeTrees.{values_found, values_missing}
use Rattle.gx_machine.proofs.value_calling.only_atoms.Goals as goal

pub returns-in-Some-clause-value : goal.returns-in-Some-clause-value
returns-in-Some-clause-value c = λ later. values_found c.in_ok-values.field-0 c.in-Some.values (items_in later c.args.items.now) (c.in_ok-values.ensures later) c.in-Some.is

pub returns-in-None-clause-failed : goal.returns-in-None-clause-failed
returns-in-None-clause-failed c = λ later next.
    ap (λ (o : Option (List Atomic)). given o next) (values_missing c.in_ok-values.field-0 (items_in later c.args.items.now) (c.in_ok-values.ensures later) c.in-None.is)

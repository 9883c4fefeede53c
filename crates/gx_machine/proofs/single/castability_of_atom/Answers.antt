use Rattle.std.proofs.Common.{ap, sym, ◌∙◌}
use Rattle.std.specs.Prelude.{is_ok}
use Rattle.gx_funcs.specs.Function.{truth_atom}
use Rattle.gx_atomic.specs.Cast.{cast_of}
use Rattle.gx_machine.proofs.single.castability_of_atom.Goals as goal

pub returns-in-Ok-clause-value : goal.returns-in-Ok-clause-value
returns-in-Ok-clause-value c = c.with_cast.ensures ∙ ap truth_atom (sym (ap is_ok c.in-Ok.ensures))

pub returns-in-Err-clause-value : goal.returns-in-Err-clause-value
returns-in-Err-clause-value c = c.without_cast.ensures.value (cast_of c.args.schemas.now c.args.value.now c.args.kind.now) c.in-Err.ensures

use Rattle.std.proofs.Common.{ap, sym, ◌∙◌}
use Rattle.gx_funcs.specs.Function.{truth_atom}
use Rattle.gx_machine.proofs.Operands.{no_cast}
use Rattle.gx_machine.proofs.single.without_cast.Goals as goal

pub returns-in-Some-clause-value : goal.returns-in-Some-clause-value
returns-in-Some-clause-value c = λ expected h.
    c.truth_atom.ensures ∙ ap truth_atom (no_cast c.args.error expected c.in-Some.field-0 (sym c.code.ensures ∙ c.in-Some.is) h)

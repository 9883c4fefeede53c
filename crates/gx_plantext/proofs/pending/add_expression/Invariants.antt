use Rattle.std.proofs.Common.{◌≡◌, ◌++◌}
use Rattle.gx_plantext.specs.TermText.{fields_text}
use Rattle.gx_plantext.specs.PlanText.{fields_of}
use Rattle.gx_plantext.specs.Printing.{printed_terms}
use Rattle.gx_plantext.proofs.pending.add_expression.Given as goal

-- what was written, and what is still to be written
abbrev pub invariant-loop : goal.invariant-loop
invariant-loop l = record {
  printed : printed_terms l.terms l.pending ≡ l.fn.terms.text ++ fields_text l.fn.terms.is_first (fields_of l.fn.expression);
}

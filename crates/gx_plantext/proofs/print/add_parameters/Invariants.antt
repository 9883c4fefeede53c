use Rattle.std.proofs.Common.{◌≡◌, ◌++◌, map, length}
use Rattle.gx_plantext.specs.TermText.{fields_text}
use Rattle.gx_plantext.specs.PlanText.{parameter_text}
use Rattle.gx_plantext.specs.Printing.{is_first_behind}
use Rattle.gx_plantext.proofs.print.add_parameters.Given as goal

-- what was added, with what is left to add
abbrev pub invariant-loop-parameter : goal.invariant-loop-parameter
invariant-loop-parameter l = record {
  text : l.terms.text ++ fields_text l.terms.is_first (map parameter_text l.rest) ≡ l.fn.terms.text ++ fields_text l.fn.terms.is_first (map parameter_text l.fn.parameters);
  is_first : is_first_behind l.terms.is_first (map parameter_text l.rest) ≡ is_first_behind l.fn.terms.is_first (map parameter_text l.fn.parameters);
}

abbrev pub decreases-loop-parameter : goal.decreases-loop-parameter
decreases-loop-parameter l = length l.rest

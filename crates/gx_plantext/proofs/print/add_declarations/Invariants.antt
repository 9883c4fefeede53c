use Rattle.std.proofs.Common.{◌≡◌, ◌++◌, true, length}
use Rattle.std.specs.List.{flat_map}
use Rattle.gx_plantext.specs.PlanText.{declaration_text}
use Rattle.gx_plantext.proofs.print.add_declarations.Given as goal

-- what was added, and what is left to add
abbrev pub invariant-loop-declaration : goal.invariant-loop-declaration
invariant-loop-declaration l = record {
  added : l.terms.text ++ flat_map declaration_text l.rest ≡ l.fn.terms.text ++ flat_map declaration_text l.fn.declarations;
  is_first : l.terms.is_first ≡ true;
}

abbrev pub decreases-loop-declaration : goal.decreases-loop-declaration
decreases-loop-declaration l = length l.rest

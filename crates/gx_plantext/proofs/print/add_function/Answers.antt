use Rattle.std.proofs.Common.{◌∷◌, map}
use Rattle.std.specs.Prelude.{codes}
use Rattle.gx_typetext.specs.NameText.{word, name_text}
use Rattle.gx_plantext.specs.PlanText.{fields_of, parameter_text}
use Rattle.gx_plantext.proofs.TermLemmas.{term_declared}
use Rattle.gx_plantext.proofs.print.add_function.Goals as goal

pub returns-clause-text : goal.returns-clause-text
returns-clause-text c =
    let whole = term_declared c.args.terms.now c.open.new.self c.add_signature.new.terms (codes "function") (word (codes "; "))
    (name_text c.args.function.now.name ∷ map parameter_text c.args.function.now.parameters) (fields_of c.args.function.now.body)
    c.add_expression.new.terms.text c.requires c.in_ok-open.ensures c.in_ok-add_signature.ensures c.in_ok-add_expression.ensures in
    rw (← whole) c.end_declaration.ensures.text

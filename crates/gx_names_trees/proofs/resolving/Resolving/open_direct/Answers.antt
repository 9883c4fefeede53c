use Rattle.gx_ast.specs.SyntaxView.{attributes_of, parts_of}
use Rattle.gx_names_trees.proofs.DirectLemmas.{element_left}
use Rattle.gx_names_trees.proofs.resolving.Resolving.open_direct.Goals as goal

pub returns-in_ok-open_inside-in-Ok-clause-refusals : goal.returns-in_ok-open_inside-in-Ok-clause-refusals
returns-in_ok-open_inside-in-Ok-clause-refusals c =
    rw (c.in_ok-open_inside-in-Ok.ensures.refusals, c.in-Ok.ensures.names)
    (element_left _ _ c.in-Ok.ensures.refusals (attributes_of c.args.attributes.now) (parts_of c.args.content.now) c.args.self.now.names c.args.self.now.tags c.args.self.now.tasks)

use Rattle.gx_ast.specs.SyntaxView.{attributes_of, parts_of}
use Rattle.gx_names_uses.proofs.UsesLemmas.{element_used}
use Rattle.gx_names_uses.proofs.uses.Using.open_direct.Goals as goal

pub returns-clause-uses : goal.returns-clause-uses
returns-clause-uses c =
    rw (c.in_ok-open_inside.ensures, c.in_ok-declare_namespaces.ensures)
    (element_used c.args.self.now.uses.items (attributes_of c.args.attributes.now) (parts_of c.args.content.now) c.args.self.now.names c.args.self.now.tasks)

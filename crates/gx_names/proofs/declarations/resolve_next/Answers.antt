use Rattle.std.proofs.Common.{sym, ap, subst, ◌∙◌}
use Rattle.gx_names_scope.specs.Environment.{Environment}
use Rattle.gx_names.specs.Refusals.{definition_scope}
use Rattle.gx_names_uses.specs.Searching.{IsSettled}
use Rattle.gx_names.proofs.SettledLemmas.{settled_behind}
use Rattle.gx_names.proofs.declarations.resolve_next.Goals as goal

pub returns-in_ok-declare-in-Ok-clause-settled : goal.returns-in_ok-declare-in-Ok-clause-settled
returns-in_ok-declare-in-Ok-clause-settled c =
    subst (λ (n : Environment). IsSettled n.variables c.args.bodies.now c.resolve_definition.new.earlier.settled)
    (sym (c.in_ok-declare-in-Ok.ensures.names ∙ ap (λ (n : Environment). definition_scope c.args.definition.now.node n) c.in-Ok.ensures.names))
    (settled_behind c.args.definition.now.node c.args.names c.args.bodies.now c.resolve_definition.new.earlier.settled c.in-Ok.ensures.settled)

use Rattle.std.proofs.Common.{ap, sym, ◌∙◌}
use Rattle.std.specs.List.{list_any}
use Rattle.gx_core.specs.Paths.{is_node}
use Rattle.gx_machine.proofs.hand.atoms_alone.Goals as goal

pub returns-clause-alone : goal.returns-clause-alone
returns-clause-alone c = λ later. ap (list_any is_node) (sym (c.as_slice.ensures later)) ∙ sym (c.any_node.ensures later) ∙ c.if-any_node.false

use Rattle.std.proofs.Common.{arith}
use Rattle.gx_model.proofs.LookupLemmas.{no_single_element}
use Rattle.gx_model.proofs.node_test.element_of.Goals as goal

pub returns-then-len-ne1 : goal.returns-then-len-ne1
returns-then-len-ne1 c = no_single_element c.args.children.now.items (λ e. omega (arith, c.len.ensures, c.args.children.now.ok.0))

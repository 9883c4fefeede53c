use Rattle.std.proofs.Common.{ap, ◌∙◌}
use Rattle.std.specs.Prelude.{map}
use Rattle.gx_store.proofs.StoreLemmas.{descendants_anywhere}
use Rattle.gx_store.proofs.OrderedLemmas.{placed}
use Rattle.gx_store.proofs.store.Store.descendants.Goals as goal

pub returns : goal.returns
returns c later x = ap (map (placed later)) c.descendants_of.ensures ∙ descendants_anywhere c.args.self.now later c.args.node.number x

use Rattle.std.proofs.Common.{ap, ◌∙◌}
use Rattle.std.specs.List.{list_any}
use Rattle.gx_nodes.specs.Entries.{entry_in}
use Rattle.gx_store.specs.Agreeing.{are_attributes_alike}
use Rattle.gx_store.specs.Left.{trees_numbered}
use Rattle.gx_store.proofs.TreeLemmas.{attributes_trees}
use Rattle.gx_store.proofs.store.Store.has_equal.Goals as goal

pub loop-attribute-init : goal.loop-attribute-init
loop-attribute-init c =
    let f = c.args.self.now in
    ap (list_any (are_attributes_alike (entry_in f c.args.own).tree))
    (ap (trees_numbered f) (c.into_iter-attribute-iterator.ensures.into_iter_gives ∙ c.attributes_of-attribute-items.ensures) ∙ attributes_trees f c.args.other c.requires.there)

use Rattle.std.proofs.Common.{sym, ap, ◌∙◌}
use Rattle.std.specs.List.{list_all, list_any}
use Rattle.gx_tree.specs.PlainTree.{PlainTree}
use Rattle.gx_store.specs.Agreeing.{are_attributes_alike, attribute_trees}
use Rattle.gx_store.specs.Left.{trees_numbered}
use Rattle.gx_store.proofs.TreeLemmas.{attributes_trees}
use Rattle.gx_store.proofs.store.Store.all_have_equals.Goals as goal

pub loop-own-init : goal.loop-own-init
loop-own-init c =
    let f = c.args.self.now in
    record {
      left = ap (list_all (λ (t : PlainTree). list_any (are_attributes_alike t) (attribute_trees f c.args.other)))
          (ap (trees_numbered f) (c.into_iter-own-iterator.ensures.into_iter_gives ∙ c.attributes_of-own-items.ensures) ∙ attributes_trees f c.args.one c.requires.one);
      among = λ p t. ap (list_any p) (sym (ap (trees_numbered f) c.attributes_of-others.ensures ∙ attributes_trees f c.args.other c.requires.other)) ∙ t;
    }

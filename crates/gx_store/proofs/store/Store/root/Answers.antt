use Rattle.std.proofs.Common.{◌∙◌, arith}
use Rattle.gx_nodes.specs.Entries.{count_in, place_of_number}
use Rattle.gx_store.proofs.RootLemmas.{tree_of_parent, root_found, no_root}
use Rattle.gx_store.proofs.StoreLemmas.{not_there}
use Rattle.gx_store.proofs.store.Store.root.Goals as goal

pub returns-then-not-has : goal.returns-then-not-has
returns-then-not-has c later x =
    no_root c.args.self.now later c.args.node.number (not_there c.has.result c.args.node.number (count_in c.args.self.now) c.has.ensures c.if-not-has.true) x

pub loop-parent-preserved : goal.loop-parent-preserved
loop-parent-preserved c = record {
  there = omega (arith, c.in-Some.ensures.before, c.loop-parent.invariant.there);
  same_tree = λ later x.
      tree_of_parent c.args.self.now (place_of_number later c.loop-parent.root.number) _ (c.in-Some.ensures.parent later x) ∙ c.loop-parent.invariant.same_tree later x;
}

pub returns : goal.returns
returns c later x =
    root_found c.args.self.now later c.args.node.number c.loop-parent.root.number (c.has.ensures.0 c.if-not-has.false) c.loop-parent.invariant.there (c.loop-parent.invariant.same_tree later x)
    (c.in_default.ensures.parent later x) x

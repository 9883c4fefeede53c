use Rattle.std.proofs.Common.{List, [], ◌∷◌, ◌++◌, get_or, sym, ap, ◌∙◌, subst}
use Rattle.std.specs.List.{list_any}
use Rattle.gx_model.specs.OrderLaws.{Ascends}
use Rattle.gx_store.specs.declared.number.NodeId.{NodeId}
use Rattle.gx_store.specs.NumberOrder.{number_lt}
use Rattle.gx_store.proofs.CombinedLemmas.{own_default, merges_begin, merges_next, merges_end, merged_ascends, merged_same}
use Rattle.gx_store.proofs.combine.merged.Goals as goal

pub loop-node-init : goal.loop-node-init
loop-node-init c = merges_begin c.args.nodes.now c.args.others.now c.new-found.result.items c.requires.others_ascend c.new-found.ensures.items

pub split-requires : goal.split-requires
split-requires c = c.loop-node.invariant.ascending

pub loop-node-preserved : goal.loop-node-preserved
loop-node-preserved c =
    let x : NodeId = get_or c.args.nodes.now c.loop-node.node-index (record { number = 0 }) in
    merges_next c.args.nodes.now c.args.others.now c.loop-node.found.items c.push.new.self.items c.loop-node.rest.now c.split.result.0.now c.split.result.1.now c.without-rest.result.now c.loop-node.node-index x
    c.loop-node-test.true (own_default c.args.nodes.now c.loop-node.node-index (record { number = 0 }) c.loop-node-test.true) c.loop-node.invariant c.split.ensures.before c.split.ensures.behind c.without-rest.ensures
    (c.in_ok-push.ensures.items ∙ ap (λ (l : List NodeId). l ++ x ∷ []) c.in_ok-extend_from_slice.ensures.items)

pub returns-clause-ascending : goal.returns-clause-ascending
returns-clause-ascending c =
    let whole =
    merges_end c.args.nodes.now c.args.others.now c.loop-node.found.items c.extend_from_slice-2.new.self.items c.loop-node.rest.now c.loop-node.node-index c.loop-node-test.false c.loop-node.invariant
    c.in_ok-extend_from_slice-2.ensures.items in
    subst (Ascends number_lt) (sym whole) (merged_ascends c.args.nodes.now c.args.others.now c.requires.nodes_ascend c.requires.others_ascend)

pub returns-clause-same : goal.returns-clause-same
returns-clause-same c p =
    ap (list_any p)
    (merges_end c.args.nodes.now c.args.others.now c.loop-node.found.items c.extend_from_slice-2.new.self.items c.loop-node.rest.now c.loop-node.node-index c.loop-node-test.false c.loop-node.invariant
    c.in_ok-extend_from_slice-2.ensures.items)
    ∙ merged_same p c.args.nodes.now c.args.others.now

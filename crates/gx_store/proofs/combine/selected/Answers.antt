use Rattle.std.proofs.Common.{get_or}
use Rattle.gx_store.specs.declared.number.NodeId.{NodeId}
use Rattle.gx_store.proofs.CombinedLemmas.{own_default, selects_begin, selects_next}
use Rattle.gx_store.proofs.combine.selected.Goals as goal

pub loop-node-init : goal.loop-node-init
loop-node-init c =
    selects_begin c.args.wanted c.args.nodes.now c.args.others.now c.new-found.result.items c.requires.nodes_ascend c.requires.others_ascend c.new-found.ensures.items

pub split-requires : goal.split-requires
split-requires c = c.loop-node.invariant.ascending

pub loop-node-preserved : goal.loop-node-preserved
loop-node-preserved c =
    let x : NodeId = get_or c.args.nodes.now c.loop-node.node-index (record { number = 0 }) in
    selects_next c.args.wanted c.begins_with.result c.args.nodes.now c.args.others.now c.loop-node.found.items c.keep.new.found.items c.loop-node.rest.now c.split.result.1.now c.loop-node.node-index x
    c.loop-node-test.true (own_default c.args.nodes.now c.loop-node.node-index (record { number = 0 }) c.loop-node-test.true) c.loop-node.invariant c.split.ensures.behind c.begins_with.ensures c.in_ok-keep.ensures

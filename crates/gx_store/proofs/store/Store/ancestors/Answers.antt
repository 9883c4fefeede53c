use Rattle.std.proofs.Common.{List, ◌++◌, reverse, sym, ap, ◌∙◌}
use Rattle.gx_model.specs.Forest.{PlainNode}
use Rattle.gx_model.proofs.ListLemmas.{append_none}
use Rattle.gx_nodes.specs.Entries.{place_of_number}
use Rattle.gx_nodes.specs.Near.{ancestors_in}
use Rattle.gx_nodes.proofs.AncestorNodes.{no_ancestors}
use Rattle.gx_store.specs.declared.number.NodeId.{NodeId}
use Rattle.gx_store.specs.Places.{node_places}
use Rattle.gx_store.proofs.StepLemmas.{up_next}
use Rattle.gx_store.proofs.store.Store.ancestors.Goals as goal

pub loop-parent-init : goal.loop-parent-init
loop-parent-init c later x =
    let above = ancestors_in c.args.self.now (place_of_number later c.args.node.number) in
    ap (λ (ms : List NodeId). above ++ node_places later (reverse ms)) c.new-found.ensures.items ∙ append_none above

pub loop-parent-preserved : goal.loop-parent-preserved
loop-parent-preserved c later x =
    up_next c.args.self.now later c.loop-parent.here c.in-Some.parent c.loop-parent.found.items c.push.new.self.items _ (sym (c.in-Some.ensures.parent later x)) c.in_ok-push.ensures.items (c.loop-parent.invariant later x)

pub returns : goal.returns
returns c later x =
    ap (node_places later) c.reverse.ensures.items
    ∙ ap (λ (ns : List PlainNode). ns ++ node_places later (reverse c.loop-parent.found.items)) (sym (no_ancestors c.args.self.now (place_of_number later c.loop-parent.here.number) (sym (c.in_default.ensures.parent later x))))
    ∙ c.loop-parent.invariant later x

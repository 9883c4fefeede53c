use Rattle.std.proofs.Common.{List, ◌++◌, filter, sym, ap, ◌∙◌}
use Rattle.gx_model.proofs.ListLemmas.{append_none}
use Rattle.gx_store.specs.declared.number.NodeId.{NodeId}
use Rattle.gx_store.specs.Places.{node_places, passes_on}
use Rattle.gx_store.proofs.StepLemmas.{tried_next}
use Rattle.gx_store.proofs.store.Store.push_passing.Goals as goal

pub loop-node-init : goal.loop-node-init
loop-node-init c later x =
    ap (λ (ms : List NodeId). node_places later c.args.found.now.items ++ filter (passes_on c.args.schemas.now c.args.self.now c.args.axis c.args.test.now) (node_places later ms)) c.into_iter-node-iterator.ensures.into_iter_gives

pub loop-node-preserved : goal.loop-node-preserved
loop-node-preserved c later x =
    tried_next later (passes_on c.args.schemas.now c.args.self.now c.args.axis c.args.test.now) c.loop-node.found.items c.push_if_passing.new.found.items c.loop-node.node-iterator c.next.new.self c.in-Some.node _
    (c.in_ok-push_if_passing.ensures later x) c.in-Some.ensures.steps (c.loop-node.invariant later x)

pub returns : goal.returns
returns c later x =
    let pass = passes_on c.args.schemas.now c.args.self.now c.args.axis c.args.test.now in
    sym (append_none (node_places later c.loop-node.found.items))
    ∙ ap (λ (ms : List NodeId). node_places later c.loop-node.found.items ++ filter pass (node_places later ms)) (sym c.in-None.ensures.steps.0)
    ∙ c.loop-node.invariant later x
